-- A value that is taken in, whatever place it has.
use Rattle.std.proofs.Common.{◌≡◌, ℕ, arith, ℤ, List, [], ◌∷◌, ◌++◌, length, length-append, refl, sym, ap, ◌∙◌, subst, Option, Some, None, get_or}
use Rattle.std.specs.List.{All, Contains}
use Rattle.std.proofs.lemmas.List.{length-map, map-append, get_or-map}
use Rattle.std.proofs.lemmas.List.Elements.{All-cons, All-nil}
use Rattle.wcps_mean.specs.declared.cell.PointFault.{PointFault}
use Rattle.wcps_mean.specs.declared.cell.Outcome.{Outcome}
use Rattle.wcps_mean.specs.declared.cell.Outcome.TheVariants.{Value, Fault}
use Rattle.wcps_mean.specs.declared.running.Running.{Running}
use Rattle.wcps_mean.specs.Condensers.{first_fault, values}
use Rattle.wcps_mean.specs.Feeding.{Keeps, Fed, Feeds}
use Rattle.tile_kernel.specs.declared.accumulator.Accumulator.{Accumulator}
use Rattle.tile_kernel.specs.Told.{Told, outcomes, IsValue, IsFirst}
use Rattle.tile_kernel.specs.Standing.{Stands, TakesIn}
use Rattle.tile_kernel.proofs.Faults.{left_alone, none_first, same_fault}
use Rattle.tile_kernel.proofs.Merges.{values-append}

-- each fault as this one
abbrev all_faults : PointFault → List Outcome → List Outcome
all_faults f [] = []
all_faults f (Value z ∷ os) = Value z ∷ all_faults f os
all_faults f (Fault g ∷ os) = Fault f ∷ all_faults f os

values-all_faults : (f : PointFault) (os : List Outcome) → values (all_faults f os) ≡ values os
values-all_faults f [] = refl
values-all_faults f (Value z ∷ os) = ap (λ l. z ∷ l) (values-all_faults f os)
values-all_faults f (Fault g ∷ os) = values-all_faults f os

length-all_faults : (f : PointFault) (os : List Outcome) → length (all_faults f os) ≡ length os
length-all_faults f [] = refl
length-all_faults f (Value z ∷ os) = let e = length-all_faults f os in omega arith
length-all_faults f (Fault g ∷ os) = let e = length-all_faults f os in omega arith

first-all_faults : (f : PointFault) (os : List Outcome) → (All IsValue os → ⊥) → first_fault (all_faults f os) ≡ Some f
first-all_faults f [] h = absurd (h (All-nil IsValue))
first-all_faults f (Value z ∷ os) h = first-all_faults f os (λ a. h (All-cons IsValue (Value z) os tt a))
first-all_faults f (Fault g ∷ os) h = refl

not_all_values : (told : List Told) (place : ℕ) (f : PointFault) → Contains told (place, Fault f) → All IsValue (outcomes told) → ⊥
not_all_values told place f c a =
    let n = length-map told (λ (t : Told). t.1) in
    let there : get_or (outcomes told) c.0 (Fault f) ≡ Fault f = get_or-map (λ (t : Told). t.1) told c.0 (place, Fault f) (Fault f) c.1 ∙ ap (λ (t : Told). t.1) c.2 in
    subst IsValue there (a c.0 (Fault f) (omega (arith, c.1, n)))

-- outcomes that a running condenser could have been fed for what an accumulator stands for
record IsLike (r : Running) (told : List Told) (outs : List Outcome) : Type 0 where
  fed : Fed r outs
  values : values outs ≡ values (outcomes told)
  counted : length outs ≡ length told

like : (r : Running) (place : ℕ) (told : List Told) (fault : Option PointFault) → r.fault ≡ fault → Stands (record { running = r; place = place }) told → (outs : List Outcome) × IsLike r told outs
like r place told None e h = (
  outcomes told,
  record {
    fed = record {
      counted = h.counted ∙ sym (length-map told (λ (t : Told). t.1));
      faulted = e ∙ sym (none_first told (subst (λ f. IsFirst f place told) e h.faulted));
      kept = h.kept;
    };
    values = refl;
    counted = length-map told (λ (t : Told). t.1);
  },
)
like r place told (Some f) e h =
    let first : IsFirst (Some f) place told = subst (λ f. IsFirst f place told) e h.faulted in
    let n = length-all_faults f (outcomes told) ∙ length-map told (λ (t : Told). t.1) in (
      all_faults f (outcomes told),
      record {
        fed = record {
          counted = h.counted ∙ sym n;
          faulted = e ∙ sym (first-all_faults f (outcomes told) (not_all_values told place f first.0));
          kept = subst (Keeps r.op r) (sym (values-all_faults f (outcomes told))) h.kept;
        };
        values = values-all_faults f (outcomes told);
        counted = n;
      },
    )

first-value : (os : List Outcome) (x : ℤ) → first_fault (os ++ Value x ∷ []) ≡ first_fault os
first-value [] x = refl
first-value (Value z ∷ os) x = first-value os x
first-value (Fault f ∷ os) x = refl

pub value_taken : (a b : Accumulator) (place : ℕ) (x : ℤ) → b.place ≡ a.place → Feeds a.running b.running (Value x ∷ []) → TakesIn a b ((place, Value x) ∷ [])
value_taken a b place x e feeds told h =
    let l = like a.running a.place told a.running.fault refl h in
    let outs = l.0 in
    let fed : Fed b.running (outs ++ Value x ∷ []) = feeds outs l.1.fed in
    let more : List Told = (place, Value x) ∷ [] in
    let one = All-cons (λ (t : Told). IsValue t.1) (place, Value x) [] tt (All-nil (λ (t : Told). IsValue t.1)) in
    let list : values (outs ++ Value x ∷ []) ≡ values (outcomes (told ++ more)) =
    values-append outs (Value x ∷ []) ∙ ap (λ l. l ++ x ∷ []) l.1.values
    ∙ sym (ap values (map-append (λ (t : Told). t.1) told more) ∙ values-append (outcomes told) (Value x ∷ [])) in
    record {
      counted = let m = length-append outs (Value x ∷ []) in let n = length-append told more in omega (arith, fed.counted, l.1.counted, m, n);
      faulted = same_fault b.running.fault a.running.fault b.place a.place (told ++ more) (fed.faulted ∙ first-value outs x ∙ sym l.1.fed.faulted) e (left_alone a.running.fault a.place told more h.faulted one);
      kept = subst (Keeps b.running.op b.running) list fed.kept;
    }
