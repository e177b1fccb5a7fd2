-- Conditions that are false at each place.
use Rattle.std.proofs.Common.{◌≡◌, ℕ, zero, suc, ◌<◌, ◌++◌, arith, List, [], ◌∷◌, length, map, refl, sym, ap, ◌∙◌, subst, Bool, true, false, ◌&&◌, Option, None, Some}
use Rattle.std.specs.Prelude.{replicate, cond, ◌||◌}
use Rattle.std.specs.List.{All}
use Rattle.std.specs.Option.{is_some}
use Rattle.std.proofs.lemmas.List.{length-replicate}
use Rattle.std.proofs.lemmas.List.Elements.{All-head, All-tail}
use Rattle.arr_core.specs.Cells.{truth_of}
use Rattle.wcps_text.specs.declared.operator.Aggregate.TheVariants.{Any}
use Rattle.wcps_mean.specs.declared.cell.Outcome.{Outcome}
use Rattle.wcps_mean.specs.declared.cell.Outcome.TheVariants.{Value, Fault}
use Rattle.wcps_mean.specs.Condensers.{demanded, values, any}
use Rattle.wcps_mean.specs.Feeding.{Keeps}
use Rattle.tile_kernel.specs.declared.accumulator.Accumulator.{Accumulator}
use Rattle.tile_kernel.specs.Columns.{outcome_at}
use Rattle.tile_kernel.specs.Selected.{Chooses}
use Rattle.tile_kernel.specs.Standing.{StandsAnywhere}
use Rattle.tile_kernel.specs.Told.{Told, IsValue, IsFirst, outcomes, told_at, demanded_at}

pub and_first : (a b : Bool) → a && b ≡ true → a ≡ true
and_first true b h = refl
and_first false b h = h

pub and_second : (a b : Bool) → a && b ≡ true → b ≡ true
and_second true b h = h
and_second false b h = cc

pub none_by : {X : Type 0} (o : Option X) → is_some o ≡ false → o ≡ None
none_by None h = refl
none_by (Some x) h = cc

neither-first : (a b : Bool) → a || b ≡ false → a ≡ false
neither-first true b h = cc
neither-first false b h = refl

neither-second : (a b : Bool) → a || b ≡ false → b ≡ false
neither-second true b h = cc
neither-second false b h = h

-- where no cell has a fault and none is true, none adds anything
never-adds : (os : List Outcome) (ps : List ℕ) → length ps ≡ length os → All (λ (t : Told). IsValue t.1) (told_at ps os) → any (values (outcomes (told_at ps os))) ≡ false → (k : ℕ) (o : Outcome) → k < length os → demanded (outcome_at os k) o ≡ []
never-adds [] ps e v a k o lt = absurd (omega arith)
never-adds (x ∷ os) [] e v a k o lt = absurd (omega arith)
never-adds (Fault f ∷ os) (p ∷ ps) e v a k o lt = absurd (All-head (λ (t : Told). IsValue t.1) (p, Fault f) (told_at ps os) v)
never-adds (Value z ∷ os) (p ∷ ps) e v a zero o lt = ap (λ b. cond b (o ∷ []) []) (neither-first (truth_of z) (any (values (outcomes (told_at ps os)))) a)
never-adds (Value z ∷ os) (p ∷ ps) e v a (suc k) o lt =
    never-adds os ps (omega arith) (All-tail (λ (t : Told). IsValue t.1) (p, Value z) (told_at ps os) v) (neither-second (truth_of z) (any (values (outcomes (told_at ps os)))) a) k o (omega arith)

pub never_chosen : (a : Accumulator) (column : List Outcome) → StandsAnywhere a column → a.running.op ≡ Any → a.running.fault ≡ None → a.running.some ≡ false → Chooses (λ k. false) column
never_chosen a column stands op fault some =
    let places = replicate (length column) 0 in
    let even = length-replicate (length column) 0 in
    let told = told_at places column in
    let s = stands places even in
    never-adds column places even (subst (λ f. IsFirst f a.place told) fault s.faulted) (sym (subst (λ g. Keeps g a.running (values (outcomes told))) op s.kept) ∙ some)

-- such a condition lets nothing be told
pub never_told : (ps : List ℕ) (cs os : List Outcome) → Chooses (λ k. false) cs → demanded_at ps cs os ≡ []
never_told [] cs os h = refl
never_told (p ∷ ps) [] os h = refl
never_told (p ∷ ps) (c ∷ cs) [] h = refl
never_told (p ∷ ps) (c ∷ cs) (o ∷ os) h =
    ap (λ l. map (λ (d : Outcome). (p, d)) l ++ demanded_at ps cs os) (h 0 o (omega arith))
    ∙ never_told ps cs os (λ k d lt. h (suc k) d (omega arith))
