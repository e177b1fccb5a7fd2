-- Bodies at the points of a tile.
use Rattle.std.proofs.Common.{◌≡◌, ℕ, ◌+◌, ◌*◌, ◌<◌, ◌≤◌, List, [], ◌∷◌, length, map, get_or, ℤ, refl, sym, ap, ◌∙◌, subst, arith, cond, Option}
use Rattle.std.specs.Prelude.{All}
use Rattle.std.specs.List.{list_all}
use Rattle.std.proofs.lemmas.Int.{ints}
use Rattle.arr_core.specs.declared.domain.Axis.{Axis}
use Rattle.arr_core.specs.declared.signature.Signature.{Signature}
use Rattle.arr_core.specs.Domains.{points, count, IsInside, IsBoxOf, AreOrdered}
use Rattle.arr_core.proofs.Points.{length-points, at_place, point-inside}
use Rattle.arr_core.specs.Meeting.{tile_number}
use Rattle.plan_ir.specs.Bodies.{Tree, lit, var, reg, op1, op2, read, table, bind, fold}
use Rattle.plan_ir.specs.Placed.{spans}
use Rattle.plan_ir.specs.Units.{bound_of, bound_times, index_below, distinct, domain_of}
use Rattle.plan_ir.specs.Run.{numbers_at}
use Rattle.tile_columns.specs.Evaluating.{AreWithin, fetches}

pub box-inside : (area box : List Axis) (p : List ℤ) → IsBoxOf area box → IsInside box p → IsInside area p
box-inside [] [] [] b i = tt
box-inside [] [] (x ∷ p) b i = absurd i
box-inside [] (c ∷ box) p b i = absurd b
box-inside (a ∷ area) [] p b i = absurd b
box-inside (a ∷ area) (c ∷ box) [] b i = absurd i
box-inside (a ∷ area) (c ∷ box) (x ∷ p) b i =
    let w = b.0 in
    let w1 = w.1 in let w2 = w.2 in let i0 = i.0 in let i1 = i.1 in
    (omega (arith, ints, w1, i0), omega (arith, ints, w2, i1), box-inside area box p b.1 i.2)

-- each point of a box is inside it
pub points_inside : (box : List Axis) → AreOrdered box → All (IsInside box) (points box)
points_inside box o k d lt =
    let n = length-points box in
    let kc : k < count box = omega (arith, lt, n) in
    subst (IsInside box) (sym (at_place box k d kc)) (point-inside box k kc o)

within_one : (area : List Axis) (p : List ℤ) → IsInside area p → AreWithin (spans area) p
within_one [] [] i = tt
within_one [] (x ∷ p) i = absurd i
within_one (a ∷ area) [] i = absurd i
within_one (a ∷ area) (x ∷ p) i = (i.0, i.1, within_one area p i.2)

-- the coordinates of each point of a part lie in the intervals of the box's axes
pub points_within : (area box : List Axis) → IsBoxOf area box → AreOrdered box → All (AreWithin (spans area)) (points box)
points_within area box b o k d lt = within_one area (get_or (points box) k d) (box-inside area box (get_or (points box) k d) b (points_inside box o k d lt))

length-inside : (box : List Axis) (p : List ℤ) → IsInside box p → length p ≡ length box
length-inside [] [] i = refl
length-inside [] (x ∷ p) i = absurd i
length-inside (a ∷ box) [] i = absurd i
length-inside (a ∷ box) (x ∷ p) i = let h = length-inside box p i.2 in omega (arith, h)

pub points_deep : (box : List Axis) → AreOrdered box → All (λ (e : List ℤ). length box ≤ length e) (points box)
points_deep box o k d lt = let h = length-inside box (get_or (points box) k d) (points_inside box o k d lt) in omega (arith, h)

-- at the points of a box the tiles that may be fetched are those that are counted for it
pub fetches_bound : (cs : ℕ → Option Signature) (box : List Axis) (t : Tree) → fetches cs (length box) (points box) t ≡ bound_of cs box t
fetches_bound cs box (lit z) = refl
fetches_bound cs box (var k) = refl
fetches_bound cs box (reg k) = refl
fetches_bound cs box (op1 op e) = fetches_bound cs box e
fetches_bound cs box (op2 op l r) = ap (λ n. n + fetches cs (length box) (points box) r) (fetches_bound cs box l) ∙ ap (λ n. bound_of cs box l + n) (fetches_bound cs box r)
fetches_bound cs box (read c f is) = ap (λ n. cond (list_all (index_below (length box)) is) (length (distinct (map (λ p. tile_number (domain_of (cs c)) (numbers_at p is)) (points box)))) n) (length-points box)
fetches_bound cs box (table b items is) = refl
fetches_bound cs box (bind i lo hi e) = ap (λ n. n + fetches cs (length box) (points box) e) (fetches_bound cs box i) ∙ ap (λ n. bound_of cs box i + n) (fetches_bound cs box e)
fetches_bound cs box (fold op b c e) = ap (λ n. bound_times (n * count b) c + bound_times (n * count b) e) (length-points box)
