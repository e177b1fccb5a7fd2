-- The fault at the least place.
use Rattle.std.proofs.Common.{◌≡◌, ℕ, zero, suc, ◌<◌, ◌≤◌, arith, List, [], ◌∷◌, ◌++◌, length, get_or, refl, sym, ap, subst, Option, Some, None}
use Rattle.std.specs.List.{All, Contains}
use Rattle.std.specs.List.Sorted.{IsPermutation}
use Rattle.std.proofs.lemmas.List.Elements.{All-append, All-cons, All-nil, Contains-append_left, Contains-append_right}
use Rattle.std.proofs.lemmas.List.Sorted.{All-permutation, Contains-permutation}
use Rattle.wcps_mean.specs.declared.cell.PointFault.{PointFault}
use Rattle.wcps_mean.specs.declared.cell.Outcome.{Outcome}
use Rattle.wcps_mean.specs.declared.cell.Outcome.TheVariants.{Value, Fault}
use Rattle.wcps_mean.specs.Condensers.{first_fault}
use Rattle.tile_kernel.specs.Told.{Told, outcomes, AreRising, IsValue, StandsFrom, IsFirst}

value_from : (p k : ℕ) (o : Outcome) → IsValue o → StandsFrom p k o
value_from p k (Value z) h = tt
value_from p k (Fault f) h = absurd h

lower_from : (p q k : ℕ) (o : Outcome) → p ≤ q → StandsFrom q k o → StandsFrom p k o
lower_from p q k (Value z) le h = tt
lower_from p q k (Fault f) le h = omega arith

values_from : (p : ℕ) (told : List Told) → All (λ (t : Told). IsValue t.1) told → All (λ (t : Told). StandsFrom p t.0 t.1) told
values_from p told h = λ k d lt. value_from p (get_or told k d).0 (get_or told k d).1 (h k d lt)

all_from : (p q : ℕ) (told : List Told) → p ≤ q → All (λ (t : Told). StandsFrom q t.0 t.1) told → All (λ (t : Told). StandsFrom p t.0 t.1) told
all_from p q told le h = λ k d lt. lower_from p q (get_or told k d).0 (get_or told k d).1 le (h k d lt)

-- ---- the points of two lists

pub left_alone : (a : Option PointFault) (p : ℕ) (told more : List Told) → IsFirst a p told → All (λ (t : Told). IsValue t.1) more → IsFirst a p (told ++ more)
left_alone None p told more h g = All-append (λ (t : Told). IsValue t.1) told more h g
left_alone (Some f) p told more h g = (Contains-append_left told more (p, Fault f) h.0, All-append (λ (t : Told). StandsFrom p t.0 t.1) told more h.1 (values_from p more g))

pub right_alone : (b : Option PointFault) (q : ℕ) (told more : List Told) → All (λ (t : Told). IsValue t.1) told → IsFirst b q more → IsFirst b q (told ++ more)
right_alone None q told more h g = All-append (λ (t : Told). IsValue t.1) told more h g
right_alone (Some f) q told more h g = (Contains-append_right told more (q, Fault f) g.0, All-append (λ (t : Told). StandsFrom q t.0 t.1) told more (values_from q told h) g.1)

pub right_first : (f g : PointFault) (p q : ℕ) (told more : List Told) → q ≤ p → IsFirst (Some f) p told → IsFirst (Some g) q more → IsFirst (Some g) q (told ++ more)
right_first f g p q told more le h k = (Contains-append_right told more (q, Fault g) k.0, All-append (λ (t : Told). StandsFrom q t.0 t.1) told more (all_from q p told le h.1) k.1)

pub same_fault : (f g : Option PointFault) (p q : ℕ) (told : List Told) → f ≡ g → p ≡ q → IsFirst g q told → IsFirst f p told
same_fault f g p q told e h k = subst (λ f. IsFirst f p told) (sym e) (subst (λ p. IsFirst g p told) (sym h) k)

pub fault_of_one : (place : ℕ) (o : Outcome) → IsFirst (first_fault (o ∷ [])) place ((place, o) ∷ [])
fault_of_one place (Value z) = All-cons (λ (t : Told). IsValue t.1) (place, Value z) [] tt (All-nil (λ (t : Told). IsValue t.1))
fault_of_one place (Fault f) = ((0, omega arith, refl), All-cons (λ (t : Told). StandsFrom place t.0 t.1) (place, Fault f) [] (omega arith) (All-nil (λ (t : Told). StandsFrom place t.0 t.1)))

-- ---- the first fault in the order of the places

found : (k : ℕ) (o : Outcome) (told : List Told) (f : PointFault) (place j : ℕ) → All (λ (u : Told). k < u.0) told → StandsFrom place k o → j < suc (length told) → get_or ((k, o) ∷ told) j (place, Fault f) ≡ (place, Fault f)
    → (Contains told (place, Fault f) → first_fault (outcomes told) ≡ Some f) → first_fault (o ∷ outcomes told) ≡ Some f
found k (Value z) told f place zero up at lt e rest = let g : Value z ≡ Fault f = ap (λ (t : Told). t.1) e in cc
found k (Value z) told f place (suc j) up at lt e rest = rest (j, omega arith, e)
found k (Fault g) told f place zero up at lt e rest = let h : Fault g ≡ Fault f = ap (λ (t : Told). t.1) e in cc
found k (Fault g) told f place (suc j) up at lt e rest =
    let above : k < (get_or told j (place, Fault f)).0 = up j (place, Fault f) (omega arith) in
    let same : (get_or told j (place, Fault f)).0 ≡ place = ap (λ (t : Told). t.0) e in
    absurd (omega arith)

first_of_rising : (told : List Told) (f : PointFault) (place : ℕ) → AreRising told → Contains told (place, Fault f) → All (λ (t : Told). StandsFrom place t.0 t.1) told → first_fault (outcomes told) ≡ Some f
first_of_rising [] f place r c a = absurd (omega (arith, c.1))
first_of_rising (t ∷ told) f place r c a = found t.0 t.1 told f place c.0 r.0 (a 0 t (omega arith)) c.1 c.2 (λ d. first_of_rising told f place r.1 d (λ k e lt. a (suc k) e (omega arith)))

none_more : (o : Outcome) (outs : List Outcome) → IsValue o → first_fault outs ≡ None → first_fault (o ∷ outs) ≡ None
none_more (Value z) outs h e = e
none_more (Fault f) outs h e = absurd h

pub none_first : (told : List Told) → All (λ (t : Told). IsValue t.1) told → first_fault (outcomes told) ≡ None
none_first [] a = refl
none_first (t ∷ told) a = none_more t.1 (outcomes told) (a 0 t (omega arith)) (none_first told (λ k d lt. a (suc k) d (omega arith)))

pub fault_in_order : (fault : Option PointFault) (place : ℕ) (told ordered : List Told) → IsFirst fault place told → IsPermutation told ordered → AreRising ordered → fault ≡ first_fault (outcomes ordered)
fault_in_order None place told ordered h p r = sym (none_first ordered (All-permutation (λ (t : Told). IsValue t.1) told ordered p h))
fault_in_order (Some f) place told ordered h p r = sym (first_of_rising ordered f place r (Contains-permutation told ordered (place, Fault f) p h.0) (All-permutation (λ (t : Told). StandsFrom place t.0 t.1) told ordered p h.1))
