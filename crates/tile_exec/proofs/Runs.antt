-- What one more unit of an executor adds to those before it.
use Rattle.std.proofs.Common.{◌≡◌, ℕ, zero, suc, ◌+◌, ◌-◌, ◌^◌, ◌<◌, ◌≤◌, min, List, [], ◌∷◌, take, drop, refl, sym, ap, ◌∙◌, subst, arith}
use Rattle.std.specs.Prelude.{sum_by}
use Rattle.std.proofs.lemmas.List.Sums.{sum_by-cons}
use Rattle.plan_ir.specs.Plans.{PlanTree}
use Rattle.plan_ir.specs.Units.{Stage, bound}
use Rattle.tile_exec.specs.declared.exec.Exec.{Exec}
use Rattle.tile_exec.specs.Standing.{MovesOver, MovesOn, plan_of, left_of, boxes_left, most_fetched}

drop_none : (k : ℕ) → drop {A = Stage} k [] ≡ []
drop_none zero = refl
drop_none (suc k) = refl

take_none : (k : ℕ) → take {A = Stage} k [] ≡ []
take_none zero = refl
take_none (suc k) = refl

-- the boxes that are left after one more of them
boxes_after : (plan : PlanTree) (k : ℕ) (xs after : List Stage) (n : ℕ) → MovesOver plan (drop k xs) after n → after ≡ drop (k + 1) xs
boxes_after plan zero [] after n m = m.0
boxes_after plan (suc k) [] after n m = m.0 ∙ sym (drop_none (suc k + 1))
boxes_after plan zero (x ∷ xs) after n m = m.0
boxes_after plan (suc k) (x ∷ xs) after n m =
    let e : suc k + 1 ≡ suc (k + 1) = omega arith in
    boxes_after plan k xs after n m ∙ sym (ap (λ i. drop i (x ∷ xs)) e)

-- the bounds of the boxes that are done, after one more of them
bounds_after : (plan : PlanTree) (k : ℕ) (xs after : List Stage) (n : ℕ) → MovesOver plan (drop k xs) after n → sum_by (bound plan) (take k xs) + n ≤ sum_by (bound plan) (take (k + 1) xs)
bounds_after plan zero [] after n m = let z = m.1 in omega (arith, z)
bounds_after plan (suc k) [] after n m =
    let z = m.1 in
    let e = ap (sum_by (bound plan)) (take_none (suc k + 1)) in
    omega (arith, z, e)
bounds_after plan zero (x ∷ xs) after n m = let le = m.1 in omega (arith, le)
bounds_after plan (suc k) (x ∷ xs) after n m =
    let e : suc k + 1 ≡ suc (k + 1) = omega arith in
    let rest = bounds_after plan k xs after n m in
    let all = ap (λ i. sum_by (bound plan) (take i (x ∷ xs))) e in
    let before : sum_by (bound plan) (take (suc k) (x ∷ xs)) ≡ bound plan x + sum_by (bound plan) (take k xs) = sum_by-cons (bound plan) x (take k xs) in
    let then : sum_by (bound plan) (take (suc (k + 1)) (x ∷ xs)) ≡ bound plan x + sum_by (bound plan) (take (k + 1) xs) = sum_by-cons (bound plan) x (take (k + 1) xs) in
    omega (arith, rest, all, before, then)

-- a unit between two states, as it stands behind those before it
moved : (was is new : Exec) (n : ℕ) → plan_of is ≡ plan_of was → boxes_left is ≡ drop (left_of was - left_of is) (boxes_left was) → MovesOn is new n → MovesOver (plan_of was) (drop (left_of was - left_of is) (boxes_left was)) (boxes_left new) n
moved was is new n plan boxes m = subst (λ p. MovesOver p (drop (left_of was - left_of is) (boxes_left was)) (boxes_left new) n) plan (subst (λ bs. MovesOver (plan_of is) bs (boxes_left new) n) boxes m)

pub boxes_more : (was is new : Exec) (n : ℕ) → plan_of is ≡ plan_of was → boxes_left is ≡ drop (left_of was - left_of is) (boxes_left was) → left_of is ≤ left_of was → 0 < left_of is → left_of new ≡ left_of is - 1 → MovesOn is new n → boxes_left new ≡ drop (left_of was - left_of new) (boxes_left was)
boxes_more was is new n plan boxes fewer some one m =
    let e : left_of was - left_of is + 1 ≡ left_of was - left_of new = omega arith in
    boxes_after (plan_of was) (left_of was - left_of is) (boxes_left was) (boxes_left new) n (moved was is new n plan boxes m) ∙ ap (λ k. drop k (boxes_left was)) e

pub fetched_more : (was is new : Exec) (n before here after : ℕ) → plan_of is ≡ plan_of was → boxes_left is ≡ drop (left_of was - left_of is) (boxes_left was) → left_of is ≤ left_of was → 0 < left_of is → left_of new ≡ left_of is - 1 → MovesOn is new n → after ≡ min (2 ^ 64 - 1) (here + n) → here ≤ before + most_fetched was is → after ≤ before + most_fetched was new
fetched_more was is new n before here after plan boxes fewer some one m count within =
    let e : left_of was - left_of is + 1 ≡ left_of was - left_of new = omega arith in
    let f = λ (k : ℕ). sum_by (bound (plan_of was)) (take k (boxes_left was)) in
    let more : f (left_of was - left_of is) + n ≤ f (left_of was - left_of is + 1) = bounds_after (plan_of was) (left_of was - left_of is) (boxes_left was) (boxes_left new) n (moved was is new n plan boxes m) in
    let same : f (left_of was - left_of is + 1) ≡ f (left_of was - left_of new) = ap f e in
    let w : here ≤ before + f (left_of was - left_of is) = within in
    let least : after ≤ here + n = omega (arith, count) in
    let goal : after ≤ before + f (left_of was - left_of new) = omega (arith, more, same, w, least) in goal
