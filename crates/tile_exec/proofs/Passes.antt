-- The points of a pass in the order of their places.
use Rattle.std.proofs.Common.{◌≡◌, ℕ, zero, suc, ◌+◌, ◌≤◌, List, [], ◌∷◌, ◌++◌, length, map, ℤ, refl, sym, ap, ◌∙◌, subst, arith, Bool, true, false, cond}
use Rattle.std.specs.List.{All, flat_map, range_with_len}
use Rattle.std.proofs.lemmas.List.Elements.{All-cons, All-nil}
use Rattle.arr_core.specs.Domains.{points, count, IsDomain, rank_of, point_at}
use Rattle.arr_core.specs.Tiles.{tile_boxes}
use Rattle.arr_core.proofs.Points.{rank-point}
use Rattle.wcps_mean.specs.declared.cell.Outcome.{Outcome}
use Rattle.wcps_mean.specs.declared.cell.Outcome.TheVariants.{Value, Fault}
use Rattle.arr_core.specs.Cells.{truth_of}
use Rattle.wcps_mean.specs.Condensers.{demanded, condensed}
use Rattle.plan_ir.specs.Plans.{PassTree}
use Rattle.plan_ir.specs.Run.{run}
use Rattle.plan_ir.specs.Planned.{pass_outcome}
use Rattle.tile_kernel.specs.Told.{Told, outcomes, demanded_of, AreRising, ComesTo}
use Rattle.tile_columns.specs.TileOrder.{points_to}
use Rattle.tile_exec.specs.Passes.{told_to_pass}
use Rattle.tile_columns.proofs.TileOrders.{told_all, points_by_place}

pub outcomes-append : (a b : List Told) → outcomes (a ++ b) ≡ outcomes a ++ outcomes b
outcomes-append [] b = refl
outcomes-append (t ∷ a) b = ap (λ l. t.1 ∷ l) (outcomes-append a b)

outcomes-same : (p : ℕ) (os : List Outcome) → outcomes (map (λ (d : Outcome). (p, d)) os) ≡ os
outcomes-same p [] = refl
outcomes-same p (o ∷ os) = ap (λ l. o ∷ l) (outcomes-same p os)

-- what all points tell a pass are the outcomes that it condenses
pass_outcomes : (s : ℕ → ℕ → List ℤ → ℤ) (regs : List Outcome) (p : PassTree) (qs : List (List ℤ)) → outcomes (flat_map (told_to_pass s regs p) qs) ≡ flat_map (λ q. demanded (run s regs p.condition q) (run s regs p.body q)) qs
pass_outcomes s regs p [] = refl
pass_outcomes s regs p (q ∷ qs) =
    let d = demanded (run s regs p.condition q) (run s regs p.body q) in
    outcomes-append (told_to_pass s regs p q) (flat_map (told_to_pass s regs p) qs)
    ∙ ap (λ l. l ++ outcomes (flat_map (told_to_pass s regs p) qs)) (outcomes-same (rank_of p.domain q) d)
    ∙ ap (λ l. d ++ l) (pass_outcomes s regs p qs)

-- told of one more place below all others, in order still
chosen_place : (n : ℕ) (b : Bool) (o : Outcome) (told : List Told) → All (λ (t : Told). n + 1 ≤ t.0) told → AreRising told
    → AreRising (map (λ (d : Outcome). (n, d)) (cond b (o ∷ []) []) ++ told) × All (λ (t : Told). n ≤ t.0) (map (λ (d : Outcome). (n, d)) (cond b (o ∷ []) []) ++ told)
chosen_place n true o told h r = (((λ k d lt. let w = h k d lt in omega (arith, w)), r), All-cons (λ (t : Told). n ≤ t.0) (n, o) told (omega arith) (λ k d lt. let w = h k d lt in omega (arith, w)))
chosen_place n false o told h r = (r, λ k d lt. let w = h k d lt in omega (arith, w))

one_place : (n : ℕ) (c o : Outcome) (told : List Told) → All (λ (t : Told). n + 1 ≤ t.0) told → AreRising told → AreRising (demanded_of n c o ++ told) × All (λ (t : Told). n ≤ t.0) (demanded_of n c o ++ told)
one_place n (Fault f) o told h r = (((λ k d lt. let w = h k d lt in omega (arith, w)), r), All-cons (λ (t : Told). n ≤ t.0) (n, Fault f) told (omega arith) (λ k d lt. let w = h k d lt in omega (arith, w)))
one_place n (Value z) o told h r = chosen_place n (truth_of z) o told h r

rising_from : (s : ℕ → ℕ → List ℤ → ℤ) (regs : List Outcome) (p : PassTree) (a n : ℕ) → a + n ≤ count p.domain
    → AreRising (flat_map (told_to_pass s regs p) (map (point_at p.domain) (range_with_len a n))) × All (λ (t : Told). a ≤ t.0) (flat_map (told_to_pass s regs p) (map (point_at p.domain) (range_with_len a n)))
rising_from s regs p a zero h = (tt, All-nil (λ (t : Told). a ≤ t.0))
rising_from s regs p a (suc n) h =
    let rest = rising_from s regs p (a + 1) n (omega (arith, h)) in
    let q = point_at p.domain a in
    let told = flat_map (told_to_pass s regs p) (map (point_at p.domain) (range_with_len (a + 1) n)) in
    subst (λ k. AreRising (demanded_of k (run s regs p.condition q) (run s regs p.body q) ++ told) × All (λ (t : Told). a ≤ t.0) (demanded_of k (run s regs p.condition q) (run s regs p.body q) ++ told))
    (sym (rank-point p.domain a (omega (arith, h)))) (one_place a (run s regs p.condition q) (run s regs p.body q) told rest.1 rest.0)

-- a pass that was told of all tiles has its outcome
pub passed : (s : ℕ → ℕ → List ℤ → ℤ) (regs : List Outcome) (p : PassTree) (o : Outcome) → IsDomain p.domain → ComesTo p.op (flat_map (told_to_pass s regs p) (points_to p.domain (length (tile_boxes p.domain)))) o → o ≡ pass_outcome s regs p
passed s regs p o d h =
    let g = told_to_pass s regs p in
    let ordered = flat_map g (points p.domain) in
    let rising : AreRising ordered = subst (λ l. AreRising (flat_map g l)) (sym (points_by_place p.domain)) (rising_from s regs p 0 (count p.domain) (omega arith)).0 in
    h ordered record { same = told_all g p.domain d.ordered; rising = rising } ∙ ap (condensed p.op) (pass_outcomes s regs p (points p.domain))
