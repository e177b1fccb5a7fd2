-- What can be taken at points can be taken at fewer ones.
use Rattle.std.proofs.Common.{◌≡◌, ℕ, zero, suc, ◌≤◌, ℤ, ◌≤ℤ◌, List, [], ◌∷◌, ◌++◌, length, insert, refl, arith, length-append, Option, Some, None}
use Rattle.std.specs.Prelude.{slice_get, remove, option_map, IfSome}
use Rattle.std.proofs.lemmas.Int.{ints}
use Rattle.arr_core.specs.declared.domain.Axis.{Axis}
use Rattle.arr_core.specs.declared.signature.Signature.{Signature}
use Rattle.arr_core.specs.Domains.{narrowed}
use Rattle.wcps_types.specs.Typed.{Typed, number, iterator, cell, unary, binary, scalar, select, bracket, slice, array, listed, condense, condense_where, reduce}
use Rattle.wcps_types.specs.Brackets.{BoundsOf, bounds_of}
use Rattle.wcps_types.specs.WellTyped.{LieWithin, HasCells, from_to, IsTyped}

at_most-refl : (z : ℤ) → z ≤ℤ z
at_most-refl z = grind (arith, ints)

at_most-trans : (x y z : ℤ) → x ≤ℤ y → y ≤ℤ z → x ≤ℤ z
at_most-trans x y z h k = grind (arith, ints)

pub within-refl : (axes : List Axis) → LieWithin axes axes
within-refl [] = tt
within-refl (a ∷ axes) = (at_most-refl a.lo, at_most-refl a.hi, within-refl axes)

pub within-trans : (xs ys zs : List Axis) → LieWithin xs ys → LieWithin ys zs → LieWithin xs zs
within-trans [] [] [] h k = tt
within-trans [] [] (z ∷ zs) h k = absurd k
within-trans [] (y ∷ ys) zs h k = absurd h
within-trans (x ∷ xs) [] zs h k = absurd h
within-trans (x ∷ xs) (y ∷ ys) [] h k = absurd k
within-trans (x ∷ xs) (y ∷ ys) (z ∷ zs) h k =
    (at_most-trans z.lo y.lo x.lo k.0 h.0, at_most-trans x.hi y.hi z.hi h.1 k.1, within-trans xs ys zs h.2 k.2)

pub within-length : (xs ys : List Axis) → LieWithin xs ys → length xs ≡ length ys
within-length [] [] h = refl
within-length [] (y ∷ ys) h = absurd h
within-length (x ∷ xs) [] h = absurd h
within-length (x ∷ xs) (y ∷ ys) h = omega (arith, within-length xs ys h.2)

-- another axis put into both
within-insert : (xs ys : List Axis) (n : ℕ) (a : Axis) → LieWithin xs ys → LieWithin (insert xs n a) (insert ys n a)
within-insert [] [] zero a h = (at_most-refl a.lo, at_most-refl a.hi, tt)
within-insert [] [] (suc n) a h = (at_most-refl a.lo, at_most-refl a.hi, tt)
within-insert [] (y ∷ ys) n a h = absurd h
within-insert (x ∷ xs) [] n a h = absurd h
within-insert (x ∷ xs) (y ∷ ys) zero a h = (at_most-refl a.lo, at_most-refl a.hi, h)
within-insert (x ∷ xs) (y ∷ ys) (suc n) a h = (h.0, h.1, within-insert xs ys n a h.2)

cells-narrow : (s : Option Signature) (f : ℕ) (dom less : List Axis) → LieWithin less dom → HasCells s f dom → HasCells s f less
cells-narrow None f dom less w h = absurd h
cells-narrow (Some s) f dom less w h = (h.0, within-trans less dom s.domain w h.1)

longer : (xs ys as' bs : List Axis) → length xs ≡ length as' → length ys ≡ length bs → length (xs ++ ys) ≡ length (as' ++ bs)
longer xs ys as' bs h k = omega (arith, h, k, length-append xs ys, length-append as' bs)

-- where as many iterators are in scope, at points of narrower axes
pub typed-narrow : (cs : List Signature) (t : Typed) (scope other dom less : List Axis) → length other ≡ length scope → LieWithin less dom → IsTyped cs t scope dom → IsTyped cs t other less
typed-narrow cs (number z) scope other dom less e w h = tt
typed-narrow cs (iterator k) scope other dom less e w h = omega (arith, e, h)
typed-narrow cs (cell c f) scope other dom less e w h = cells-narrow (slice_get cs c) f dom less w h
typed-narrow cs (unary op t) scope other dom less e w h = typed-narrow cs t scope other dom less e w h
typed-narrow cs (binary op l r) scope other dom less e w h = (typed-narrow cs l scope other dom less e w h.0, typed-narrow cs r scope other dom less e w h.1)
typed-narrow cs (scalar t) scope other dom less e w h = typed-narrow cs t scope other [] [] e tt h
typed-narrow cs (select t) scope other dom less e w h = typed-narrow cs t scope other dom less e w h
typed-narrow cs (bracket t) scope other dom less e w h = typed-narrow cs t scope other dom less e w h
typed-narrow cs (slice t axis lo hi i) scope other dom less e w h = (
  omega (arith, within-length less dom w, h.0),
  typed-narrow cs i scope other [] [] e tt h.1,
  typed-narrow cs t scope other (insert dom axis (from_to lo hi)) (insert less axis (from_to lo hi)) e (within-insert less dom axis (from_to lo hi) w) h.2,
)
typed-narrow cs (array t) scope other dom less e w h =
    typed-narrow cs t (scope ++ dom) (other ++ less) [] [] (longer other less scope dom e (within-length less dom w)) tt h
typed-narrow cs (listed box items) scope other dom less e w h = (within-trans less dom box w h.0, h.1)
typed-narrow cs (condense op box t) scope other dom less e w h = typed-narrow cs t (scope ++ box) (other ++ box) [] [] (longer other box scope box e refl) tt h
typed-narrow cs (condense_where op box c t) scope other dom less e w h =
    (typed-narrow cs c (scope ++ box) (other ++ box) [] [] (longer other box scope box e refl) tt h.0, typed-narrow cs t (scope ++ box) (other ++ box) [] [] (longer other box scope box e refl) tt h.1)
typed-narrow cs (reduce op box t) scope other dom less e w h = typed-narrow cs t scope other box box e (within-refl box) h

some-more : {A : Type 0} {P Q : A → Type 0} (o : Option A) → ((x : A) → P x → Q x) → IfSome o P → IfSome o Q
some-more None go h = tt
some-more (Some x) go h = go x h

-- an axis taken out, and put back under no name
pub within-cut : (dom : List Axis) (k : ℕ) → IfSome (option_map bounds_of (slice_get dom k)) (λ (i : BoundsOf). LieWithin (insert (remove dom k) k (from_to i.lo i.hi)) dom × (k ≤ length (remove dom k)))
within-cut [] k = tt
within-cut (a ∷ dom) zero = ((at_most-refl a.lo, at_most-refl a.hi, within-refl dom), omega arith)
within-cut (a ∷ dom) (suc k) =
    some-more (option_map bounds_of (slice_get dom k)) (λ i h. ((at_most-refl a.lo, at_most-refl a.hi, h.0), omega (arith, h.1))) (within-cut dom k)

-- an axis with bounds inside its own
pub within-narrowed : (dom : List Axis) (k : ℕ) (lo hi : ℤ) → IfSome (option_map bounds_of (slice_get dom k)) (λ (i : BoundsOf). i.lo ≤ℤ lo → hi ≤ℤ i.hi → LieWithin (narrowed dom k lo hi) dom)
within-narrowed [] k lo hi = tt
within-narrowed (a ∷ dom) zero lo hi = λ h k. (h, k, within-refl dom)
within-narrowed (a ∷ dom) (suc k) lo hi =
    some-more (option_map bounds_of (slice_get dom k)) (λ i go h l. (at_most-refl a.lo, at_most-refl a.hi, go h l)) (within-narrowed dom k lo hi)
