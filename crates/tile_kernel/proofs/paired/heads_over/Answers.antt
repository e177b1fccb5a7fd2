-- With the same counts the values of the runs stand over them.
use Rattle.std.proofs.Common.{◌≡◌, ◌∙◌, ◌≤◌, sym, ap, arith, length, List, true, refl}
use Rattle.std.proofs.lemmas.Slice.Eq.{slice_eq-Decides}
use Rattle.std.proofs.lemmas.Bool.Decides.{Decides-eqb}
use Rattle.wcps_mean.specs.declared.cell.Outcome.{Outcome}
use Rattle.tile_kernel.specs.Repeated.{shown, repeated}
use Rattle.tile_kernel.proofs.Repeats.{length-heads}
use Rattle.tile_kernel.proofs.paired.heads_over.Goals as goal

pub returns-then-eq : goal.returns-then-eq
returns-then-eq c =
    let own = c.in-Runs.own in
    let same : own.counts.now ≡ c.args.runs.now.counts.now = (slice_eq-Decides Decides-eqb own.counts.now c.args.runs.now.counts.now true c.if-eq.ensures).0 refl in
    let few : length own.counts.now ≤ length own.values.now = omega arith in
    record {
      even = ap length c.heads.ensures ∙ length-heads own.values.now (length own.counts.now) few ∙ ap length same;
      same = ap shown c.in-Runs.is ∙ ap (λ (l : List Outcome). repeated l own.counts.now) (sym c.heads.ensures) ∙ ap (repeated c.heads.result) same;
    }
