-- A fold has its place after calls that only read.
use Rattle.std.specs.Prelude.{ℤ, List, length}
use Rattle.std.proofs.Common.{◌∙◌, refl, sym, subst, arith}
use Rattle.plan_ir.specs.Bodies.{fold_view}
use Rattle.plan_ir.specs.Plans.{signature_of}
use Rattle.plan_ir.specs.declared.body.Fold.{Fold}
use Rattle.tile_columns.specs.declared.ground.Ground.{Ground}
use Rattle.tile_columns.specs.Sources.{SourceState, OnlyReads}
use Rattle.tile_columns.specs.Evaluating.{HasPlace}
use Rattle.tile_columns.specs.Folds.{FoldHasPlace}

-- no call
pub reads_same : {K : Type 0} (s : SourceState K) → OnlyReads s s
reads_same s = record { cells = refl; coverages = refl; kept = refl; rises = omega arith; intact = λ i. i }

-- a fold has its place later too
pub fold_later : {K : Type 0} {old new : SourceState K} (g : Ground) (f : Fold) (envs : List (List ℤ)) → OnlyReads old new → FoldHasPlace old g f envs → FoldHasPlace new g f envs
fold_later g f envs r h = record {
  signatures = h.signatures ∙ sym r.coverages;
  place = subst (λ all. HasPlace (signature_of all g.coverages.now) (length g.registers.now) (fold_view f) envs) (sym r.coverages) h.place;
}
