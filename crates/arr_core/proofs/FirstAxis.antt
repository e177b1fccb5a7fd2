-- The first axis of some, and what is left of a place behind it.
use Rattle.std.proofs.Common.{◌≡◌, ℕ, ◌*◌, ◌/◌, ◌%◌, ◌<◌, ◌≤◌, List, [], ◌∷◌, ◌++◌, length, get_or, take, drop, refl, sym, ap, ◌∙◌, subst, arith, append_assoc, mod-lt, ◌-◌, ℤ, pos, ◌+ℤ◌, ◌≤ℤ◌}
use Rattle.std.proofs.lemmas.Grind.{common_steps}
use Rattle.std.proofs.lemmas.Nat.{div_below}
use Rattle.std.proofs.Math.Nat.{mul-div_cancel_left}
use Rattle.arr_core.specs.declared.domain.Axis.{Axis}
use Rattle.arr_core.specs.Domains.{gap, size_of, count, point_at, AreOrdered}
use Rattle.arr_core.proofs.Points.{count-pos}

-- what is left of a count after the first axis
pub rest-count : (a : Axis) (axes : List Axis) (n : ℕ) → n ≡ count (a ∷ axes) → n / size_of a ≡ count axes
rest-count a axes n e =
    let s : 0 < size_of a = omega arith in
    rw e (mul-div_cancel_left (count axes) s)

-- a list that is not empty, cut after its first element
pub cut : {X : Type 0} (xs : List X) (x : X) → 1 ≤ length xs → x ≡ get_or xs 0 x → xs ≡ x ∷ take (length xs - 1) (drop 1 xs)
cut [] x h e = absurd (omega arith)
cut (y ∷ ys) x h e = grind (arith, common_steps)

-- the first axis of a box, and what is left of a place after it
pub record Step (axes rest : List Axis) (a : Axis) (inner place : ℕ) : Type 0 where
  pub positive_inner : 0 < inner
  pub here : a.lo ≤ℤ a.hi
  pub within : place / inner ≤ gap a.lo a.hi
  pub ordered : AreOrdered rest
  pub left : inner ≡ count rest
  pub inside : place % inner < inner
  pub made : point_at axes place ≡ (a.lo +ℤ pos (place / inner)) ∷ point_at rest (place % inner)

pub step : (axes rest : List Axis) (a : Axis) (n inner place : ℕ) → axes ≡ a ∷ rest → AreOrdered axes → n ≡ count axes → place < n → inner ≡ n / size_of a → Step axes rest a inner place
step axes rest a n inner place e o c h s =
    let left : inner ≡ count rest = s ∙ rest-count a rest n (c ∙ ap count e) in
    let some : 0 < inner = omega (arith, count-pos rest) in
    let ordered : AreOrdered (a ∷ rest) = subst AreOrdered e o in
    let whole : n ≡ size_of a * inner = c ∙ ap count e ∙ ap (λ k. size_of a * k) (sym left) in
    let below : place / inner < size_of a = div_below place inner (size_of a) some (omega (arith, whole)) in
    record {
      positive_inner = some;
      here = ordered.0;
      within = omega arith;
      ordered = ordered.1;
      left = left;
      inside = mod-lt place some;
      made = rw (e, left) refl;
    }

-- one more coordinate, then the others
pub onto : (p q made rest whole : List ℤ) (x y : ℤ) → q ≡ p ++ y ∷ [] → y ≡ x → whole ≡ x ∷ rest → made ≡ q ++ rest → made ≡ p ++ whole
onto p q made rest whole x y e f w m = m ∙ ap (λ l. l ++ rest) e ∙ append_assoc p (y ∷ []) rest ∙ ap (λ z. p ++ (z ∷ rest)) f ∙ ap (λ l. p ++ l) (sym w)
