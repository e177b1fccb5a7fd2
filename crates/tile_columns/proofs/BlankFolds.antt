-- Points whose value is 0, and what an accumulator keeps of them.
use Rattle.std.proofs.Common.{◌≡◌, ℕ, zero, suc, ◌+◌, arith, List, [], ◌∷◌, ◌++◌, length, map, refl, sym, ap, ◌∙◌, subst, ℤ, pos, ◌+ℤ◌, Bool, true, false, ◌||◌, cond, Option, Some, None}
use Rattle.std.specs.Prelude.{replicate, IsTrue}
use Rattle.std.specs.List.{All, Contains}
use Rattle.std.proofs.lemmas.Bool.{false≢true}
use Rattle.std.proofs.lemmas.Int.{ints}
use Rattle.std.proofs.lemmas.List.Elements.{All-cons}
use Rattle.wcps_text.specs.declared.operator.Aggregate.{Aggregate}
use Rattle.wcps_text.specs.declared.operator.Aggregate.TheVariants.{Sum, Product, Greatest, Least, Every, Any, Count, Average}
use Rattle.wcps_mean.specs.declared.running.Running.{Running}
use Rattle.wcps_mean.specs.declared.cell.PointFault.{PointFault}
use Rattle.wcps_mean.specs.declared.cell.Outcome.{Outcome}
use Rattle.wcps_mean.specs.declared.cell.Outcome.TheVariants.{Value, Fault}
use Rattle.arr_core.specs.Cells.{truth_of}
use Rattle.wcps_mean.specs.Cells.{int_eq, truth, operate1, operate2}
use Rattle.wcps_mean.specs.Condensers.{values, total, any, trues}
use Rattle.wcps_mean.specs.Feeding.{Keeps}
use Rattle.wcps_text.specs.declared.operator.UnaryOperator.TheVariants.{Plus}
use Rattle.wcps_text.specs.declared.operator.BinaryOperator.TheVariants.{Equal}
use Rattle.tile_kernel.specs.declared.accumulator.Accumulator.{Accumulator}
use Rattle.tile_kernel.specs.Keyed.{having}
use Rattle.tile_kernel.specs.Told.{Told, outcomes, told_at, demanded_of, demanded_at, IsValue, IsFirst, StandsFrom}
use Rattle.tile_kernel.proofs.Places.{operate_all-map, length-operate_all}
use Rattle.tile_columns.specs.declared.shapes.Shape.{Shape}
use Rattle.tile_columns.specs.declared.shapes.Shape.TheVariants.{Alone, First, Second}
use Rattle.tile_columns.specs.Shapes.{joined, joined_all, IsZero}
use Rattle.tile_columns.specs.Blanks.{skips_zeros, AddsZeros, none, point, blank, CountsZeros}

-- ---- what is kept of the values

total_first : (o : Outcome) (a b : List Outcome) → total (values a) ≡ total (values b) → total (values (o ∷ a)) ≡ total (values (o ∷ b))
total_first (Fault f) a b h = h
total_first (Value z) a b h = ap (λ s. z +ℤ s) h

any_first : (o : Outcome) (a b : List Outcome) → any (values a) ≡ any (values b) → any (values (o ∷ a)) ≡ any (values (o ∷ b))
any_first (Fault f) a b h = h
any_first (Value z) a b h = ap (λ s. truth_of z || s) h

trues_first : (o : Outcome) (a b : List Outcome) → trues (values a) ≡ trues (values b) → trues (values (o ∷ a)) ≡ trues (values (o ∷ b))
trues_first (Fault f) a b h = h
trues_first (Value z) a b h = ap (λ s. cond (truth_of z) 1 0 + s) h

total_zeros : {told more : List Told} → AddsZeros told more → total (values (outcomes told)) ≡ total (values (outcomes more))
total_zeros none = refl
total_zeros (point t told more h) = total_first t.1 (outcomes told) (outcomes more) (total_zeros h)
total_zeros (blank p told more h) = let e = total_zeros h in omega (arith, ints, e)

any_zeros : {told more : List Told} → AddsZeros told more → any (values (outcomes told)) ≡ any (values (outcomes more))
any_zeros none = refl
any_zeros (point t told more h) = any_first t.1 (outcomes told) (outcomes more) (any_zeros h)
any_zeros (blank p told more h) = any_zeros h

trues_zeros : {told more : List Told} → AddsZeros told more → trues (values (outcomes told)) ≡ trues (values (outcomes more))
trues_zeros none = refl
trues_zeros (point t told more h) = trues_first t.1 (outcomes told) (outcomes more) (trues_zeros h)
trues_zeros (blank p told more h) = let e = trues_zeros h in omega (arith, e)

keeps_zeros : {told more : List Told} (op : Aggregate) (r s : Running) → IsTrue (skips_zeros op) → s.sum ≡ r.sum → s.trues ≡ r.trues → s.some ≡ r.some → AddsZeros told more → Keeps op r (values (outcomes told)) → Keeps op s (values (outcomes more))
keeps_zeros Sum r s i a b c h k = a ∙ k ∙ total_zeros h
keeps_zeros Average r s i a b c h k = a ∙ k ∙ total_zeros h
keeps_zeros Count r s i a b c h k = b ∙ k ∙ trues_zeros h
keeps_zeros Any r s i a b c h k = c ∙ k ∙ any_zeros h
keeps_zeros Product r s i a b c h k = absurd (false≢true i)
keeps_zeros Greatest r s i a b c h k = absurd (false≢true i)
keeps_zeros Least r s i a b c h k = absurd (false≢true i)
keeps_zeros Every r s i a b c h k = absurd (false≢true i)

-- ---- the fault at the least place

all_zeros : {told more : List Told} (P : Told → Type 0) → ((p : ℕ) → P (p, Value (pos 0))) → AddsZeros told more → All P told → All P more
all_zeros P z none a = a
all_zeros P z (point t told more h) a = All-cons P t more (a 0 t (omega arith)) (all_zeros P z h (λ k d lt. a (suc k) d (omega (arith, lt))))
all_zeros P z (blank p told more h) a = All-cons P (p, Value (pos 0)) more (z p) (all_zeros P z h a)

contains_zeros : {told more : List Told} (x : Told) → AddsZeros told more → Contains told x → Contains more x
contains_zeros x none c = c
contains_zeros x (point t told more h) (zero, lt, e) = (0, omega arith, e)
contains_zeros x (point t told more h) (suc k, lt, e) = let r = contains_zeros x h (k, omega (arith, lt), e) in (suc r.0, omega (arith, r.1), r.2)
contains_zeros x (blank p told more h) c = let r = contains_zeros x h c in (suc r.0, omega (arith, r.1), r.2)

first_zeros : {told more : List Told} (fault : Option PointFault) (place : ℕ) → AddsZeros told more → IsFirst fault place told → IsFirst fault place more
first_zeros None place h f = all_zeros (λ (t : Told). IsValue t.1) (λ p. tt) h f
first_zeros (Some g) place h f = (contains_zeros (place, Fault g) h f.0, all_zeros (λ (t : Told). StandsFrom place t.0 t.1) (λ p. tt) h f.1)

-- an accumulator that differs in its count alone
pub counts_zeros : (before after : Accumulator) (count : ℕ) → IsTrue (skips_zeros before.running.op) → after.running.op ≡ before.running.op → after.running.count ≡ count → after.running.fault ≡ before.running.fault → after.place ≡ before.place
    → after.running.sum ≡ before.running.sum → after.running.trues ≡ before.running.trues → after.running.some ≡ before.running.some → CountsZeros count before after
counts_zeros before after count i o n f p a b c = λ told more s h l. record {
  counted = n ∙ sym l;
  faulted =
      subst (λ g. IsFirst g after.place more) (sym f)
      (subst (λ k. IsFirst before.running.fault k more) (sym p) (first_zeros before.running.fault before.place h s.faulted));
  kept = subst (λ q. Keeps q after.running (values (outcomes more))) (sym o) (keeps_zeros before.running.op before.running after.running i a b c h s.kept);
}

-- ---- columns of bodies of a shape

pub joined_map : {X : Type 0} (shape : Shape) (g e : X → Outcome) (xs : List X) → joined_all shape (map g xs) (map e xs) ≡ map (λ v. joined shape (g v) (e v)) xs
joined_map Alone g e xs = refl
joined_map (First op) g e xs = operate_all-map op g e xs
joined_map (Second op) g e xs = operate_all-map op e g xs

pub length-joined : (shape : Shape) (qs es : List Outcome) → length qs ≡ length es → length (joined_all shape qs es) ≡ length es
length-joined Alone qs es h = h
length-joined (First op) qs es h = length-operate_all op qs es h ∙ h
length-joined (Second op) qs es h = length-operate_all op es qs (sym h)

joined_cons : (shape : Shape) (q e : Outcome) (qs es : List Outcome) → joined_all shape (q ∷ qs) (e ∷ es) ≡ joined shape q e ∷ joined_all shape qs es
joined_cons Alone q e qs es = refl
joined_cons (First op) q e qs es = refl
joined_cons (Second op) q e qs es = refl

plus_one : (o : Outcome) → operate1 Plus o ≡ o
plus_one (Fault f) = refl
plus_one (Value z) = refl

-- the operation that leaves each outcome as it is
pub plus_all : (os : List Outcome) → map (operate1 Plus) os ≡ os
plus_all [] = refl
plus_all (o ∷ os) = ap (λ p. p ∷ map (operate1 Plus) os) (plus_one o) ∙ ap (λ l. o ∷ l) (plus_all os)

-- ---- points of other zones

zone_or_blank : (b : Bool) (p : ℕ) (shape : Shape) (e : Outcome) (told more : List Told) → IsZero (joined shape (Value (pos 0)) e) → AddsZeros told more
    → AddsZeros (demanded_of p (truth b) (joined shape (Value (pos 1)) e) ++ told) ((p, joined shape (truth b) e) ∷ more)
zone_or_blank true p shape e told more z h = point (p, joined shape (Value (pos 1)) e) told more h
zone_or_blank false p shape e told more z h = subst (λ o. AddsZeros told ((p, o) ∷ more)) (sym z) (blank p told more h)

-- a fault of the equation is one of the body, where that gives a value
fault_first : (shape : Shape) (f : PointFault) (e : Outcome) → IsZero (joined shape (Value (pos 0)) e) → joined shape (Fault f) e ≡ Fault f
fault_first Alone f e z = refl
fault_first (First op) f e z = refl
fault_first (Second op) f (Value x) z = refl
fault_first (Second op) f (Fault g) z = cc

point_or_blank : (q : Outcome) (p : ℕ) (shape : Shape) (z : ℤ) (e : Outcome) (told more : List Told) → IsZero (joined shape (Value (pos 0)) e) → AddsZeros told more
    → AddsZeros (demanded_of p (operate2 Equal q (Value z)) (joined shape (Value (pos 1)) e) ++ told) ((p, joined shape (operate2 Equal q (Value z)) e) ∷ more)
point_or_blank (Value x) p shape z e told more h a = zone_or_blank (int_eq x z) p shape e told more h a
point_or_blank (Fault f) p shape z e told more h a = subst (λ o. AddsZeros ((p, Fault f) ∷ told) ((p, o) ∷ more)) (sym (fault_first shape f e h)) (point (p, Fault f) told more a)

-- where each point gives 0 if the equation is false, those of a zone and blanks are all points
pub blanks_between : (shape : Shape) (z : ℤ) (n : ℕ) (ps : List ℕ) (own es : List Outcome) → length ps ≡ length es → length own ≡ length es → n ≡ length es
    → All IsZero (joined_all shape (replicate n (Value (pos 0))) es)
    → AddsZeros (demanded_at ps (having own z) (joined_all shape (replicate n (Value (pos 1))) es)) (told_at ps (joined_all shape (having own z) es))
blanks_between shape z n [] own es a b c h = none
blanks_between shape z n (p ∷ ps) own [] a b c h = absurd (omega (arith, a))
blanks_between shape z n (p ∷ ps) [] (e ∷ es) a b c h = absurd (omega (arith, b))
blanks_between shape z zero (p ∷ ps) (q ∷ own) (e ∷ es) a b c h = absurd (omega (arith, c))
blanks_between shape z (suc n) (p ∷ ps) (q ∷ own) (e ∷ es) a b c h =
    let hits = joined_all shape (replicate n (Value (pos 1))) es in
    let all = joined_all shape (having own z) es in
    let here = operate2 Equal q (Value z) in
    let zeros : All IsZero (joined shape (Value (pos 0)) e ∷ joined_all shape (replicate n (Value (pos 0))) es) =
    subst (λ l. All IsZero l) (joined_cons shape (Value (pos 0)) e (replicate n (Value (pos 0))) es) h in
    let rest : AddsZeros (demanded_at ps (having own z) hits) (told_at ps all) =
    blanks_between shape z n ps own es (omega (arith, a)) (omega (arith, b)) (omega (arith, c)) (λ k d lt. zeros (suc k) d (omega (arith, lt))) in
    subst (λ l. AddsZeros (demanded_at (p ∷ ps) (having (q ∷ own) z) l) (told_at (p ∷ ps) (joined_all shape (having (q ∷ own) z) (e ∷ es)))) (sym (joined_cons shape (Value (pos 1)) e (replicate n (Value (pos 1))) es))
    (subst (λ l. AddsZeros (demanded_of p here (joined shape (Value (pos 1)) e) ++ demanded_at ps (having own z) hits) (told_at (p ∷ ps) l)) (sym (joined_cons shape here e (having own z) es))
    (point_or_blank q p shape z e (demanded_at ps (having own z) hits) (told_at ps all) (zeros 0 (Value (pos 0)) (omega arith)) rest))
