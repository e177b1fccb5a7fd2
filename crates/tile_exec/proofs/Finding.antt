-- The task at hand, by its place in the plan.
use Rattle.std.proofs.Common.{◌≡◌, ℕ, zero, suc, ◌+◌, ℤ, ◌<◌, ◌≤◌, List, [], ◌∷◌, ◌++◌, length, map, get_or, take, drop, refl, sym, ap, ◌∙◌, subst, arith, Option, Some, None}
use Rattle.std.specs.Prelude.{slice_get, IsSomeAnd, IfOk, OnOk, Result, Ok, Err, sum_by}
use Rattle.std.specs.List.{All, flat_map}
use Rattle.std.proofs.lemmas.List.{length-take-le, length-drop}
use Rattle.std.proofs.lemmas.List.Concat.{flat_map-cons}
use Rattle.arr_core.specs.declared.domain.Axis.{Axis}
use Rattle.arr_core.specs.Tiles.{tile_boxes, tile_box}
use Rattle.plan_ir.specs.declared.body.Fold.{Fold}
use Rattle.plan_ir.specs.declared.plan.Plan.{Plan}
use Rattle.plan_ir.specs.declared.plan.Steps.{Steps}
use Rattle.arr_core.specs.declared.signature.Signature.{Signature}
use Rattle.arr_core.specs.Domains.{points, rank_of, IsBoxOf, AreOrdered}
use Rattle.plan_ir.specs.Bodies.{Tree, always}
use Rattle.plan_ir.specs.Placed.{IsPlaced, spans}
use Rattle.plan_ir.specs.Run.{run}
use Rattle.tile_kernel.specs.Told.{told_at, demanded_at, demanded_of}
use Rattle.plan_ir.specs.Plans.{PlanTree, PassTree, pass_view, item_view, signature_of}
use Rattle.plan_ir.specs.Units.{Stage, bound, bound_of}
use Rattle.wcps_mean.specs.declared.cell.Outcome.{Outcome}
use Rattle.tile_exec.specs.declared.task.Task.{Task}
use Rattle.tile_exec.specs.declared.task.Part.TheVariants as part
use Rattle.tile_exec.specs.declared.state.State.{State}
use Rattle.tile_exec.specs.Tasks.{PartTree, TaskTree, pass, condition, item, fieldless, area_of, bodies_of, stages_of}
use Rattle.tile_columns.specs.Evaluating.{HasPlace, fetches}
use Rattle.tile_columns.proofs.Boxes.{points_within, points_deep, fetches_bound}
use Rattle.tile_exec.specs.Passes.{told_to_pass}
use Rattle.tile_exec.specs.Standing.{plan_of, tasks_left, boxes_left, IsPartOf, IsTask, AreTasks, MovesOver}
use Rattle.tile_exec.specs.Units.{first_bound, LosesFirst}

pub is_pass : (s : Steps) (n : ℕ) (q : Fold) (p : PartTree) → slice_get s.passes.items n ≡ Some q → IsPartOf s n part.Pass p → p ≡ pass (pass_view q)
is_pass s n q (pass x) at h = let e : pass_view q ≡ x = subst (λ o. IsSomeAnd o (λ q. pass_view q ≡ x)) at h in ap pass (sym e)
is_pass s n q (condition c) at h = absurd h
is_pass s n q (item i) at h = absurd h
is_pass s n q (fieldless i) at h = absurd h

pub is_item : (s : Steps) (n : ℕ) (p : PartTree) → IsPartOf s n part.Item p → p ≡ item (item_view s.item)
is_item s n (pass x) h = absurd h
is_item s n (condition c) h = absurd h
is_item s n (item i) h = ap item (sym h)
is_item s n (fieldless i) h = absurd h

pub is_fieldless : (s : Steps) (n : ℕ) (p : PartTree) → IsPartOf s n part.Fieldless p → p ≡ fieldless (item_view s.item)
is_fieldless s n (pass x) h = absurd h
is_fieldless s n (condition c) h = absurd h
is_fieldless s n (item i) h = absurd h
is_fieldless s n (fieldless i) h = ap fieldless (sym h)

-- a task by its place, and what it stands for
pub record FoundTask (plan : Plan) (x : Task) (ts : List TaskTree) : Type 0 where
  pub tree : TaskTree
  pub rest : List TaskTree
  pub hand : ts ≡ tree ∷ rest
  pub is : IsTask plan x tree

pub found_task : (plan : Plan) (n : ℕ) (xs : List Task) (x : Task) (ts : List TaskTree) → AreTasks plan (drop n xs) ts → slice_get xs n ≡ Some x → FoundTask plan x ts
found_task plan zero [] x ts h at = cc
found_task plan (suc n) [] x ts h at = cc
found_task plan zero (y ∷ xs) x [] h at = absurd h
found_task plan zero (y ∷ xs) x (t ∷ ts) h at = let e : y ≡ x = cc in record { tree = t; rest = ts; hand = refl; is = subst (λ z. IsTask plan z t) e h.0 }
found_task plan (suc n) (y ∷ xs) x ts h at = found_task plan n xs x ts h at

pub some_within : {X : Type 0} (P : X → Type 0) (xs : List X) (k : ℕ) → IsSomeAnd (slice_get xs k) P → k < length xs
some_within P [] zero h = absurd h
some_within P [] (suc k) h = absurd h
some_within P (x ∷ xs) zero h = omega arith
some_within P (x ∷ xs) (suc k) h = let r = some_within P xs k h in omega (arith, r)

pub read_length : (first count : ℕ) (regs : List Outcome) → first + count ≤ length regs → length (take count (drop first regs)) ≡ count
read_length first count regs h =
    let n = length-drop first regs in
    length-take-le count (drop first regs) (omega (arith, n, h))

pub none_past : {X : Type 0} (xs : List X) (k : ℕ) → slice_get xs k ≡ None → length xs ≤ k
none_past [] k h = omega arith
none_past (x ∷ xs) zero h = cc
none_past (x ∷ xs) (suc k) h = let r = none_past xs k h in omega (arith, r)

-- a unit goes over one box, and fetches no more than that bounds
pub moves : (plan : PlanTree) (before after : List Stage) (n : ℕ) → LosesFirst before after → n ≤ first_bound plan before → MovesOver plan before after n
moves plan [] after n h le = (h, omega (arith, le))
moves plan (b ∷ before) after n h le = (h, le)

-- what the points of a part tell, by columns
pub told_always : (s : ℕ → ℕ → List ℤ → ℤ) (regs : List Outcome) (p : PassTree) (qs : List (List ℤ)) → p.condition ≡ always → told_at (map (rank_of p.domain) qs) (map (run s regs p.body) qs) ≡ flat_map (told_to_pass s regs p) qs
told_always s regs p [] h = refl
told_always s regs p (q ∷ qs) h =
    let o = run s regs p.body q in
    ap (λ l. (rank_of p.domain q, o) ∷ l) (told_always s regs p qs h)
    ∙ ap (λ c. demanded_of (rank_of p.domain q) (run s regs c q) o ++ flat_map (told_to_pass s regs p) qs) (sym h)

pub told_where : (s : ℕ → ℕ → List ℤ → ℤ) (regs : List Outcome) (p : PassTree) (qs : List (List ℤ)) → demanded_at (map (rank_of p.domain) qs) (map (run s regs p.condition) qs) (map (run s regs p.body) qs) ≡ flat_map (told_to_pass s regs p) qs
told_where s regs p [] = refl
told_where s regs p (q ∷ qs) = ap (λ l. told_to_pass s regs p q ++ l) (told_where s regs p qs)

-- a body that has its place over a box has it at the points of a part
pub placed_within : (cs : ℕ → Option Signature) (regs : ℕ) (area part : List Axis) (body : Tree) → IsPlaced cs regs (spans area) body → IsBoxOf area part → AreOrdered part → HasPlace cs regs body (points part)
placed_within cs regs area part body h inside o = record { scope = spans area; placed = h; within = points_within area part inside o }

-- what a body fetches at the points of a box
pub bounded_over : (cs : ℕ → Option Signature) (box : List Axis) (envs : List (List ℤ)) (t : Tree) (old new : ℕ) → envs ≡ points box → AreOrdered box → ((n : ℕ) → All (λ (e : List ℤ). n ≤ length e) envs → new ≤ old + fetches cs n envs t) → new ≤ old + bound_of cs box t
bounded_over cs box envs t old new e o h =
    let deep : All (λ (v : List ℤ). length box ≤ length v) envs = subst (All (λ (v : List ℤ). length box ≤ length v)) (sym e) (points_deep box o) in
    subst (λ n. new ≤ old + n) (ap (λ l. fetches cs (length box) l t) e ∙ fetches_bound cs box t) (h (length box) deep)

pub ok_map : {A E : Type 0} (r : Result A E) (P Q : A → Type 0) → ((a : A) → P a → Q a) → IfOk r P → IfOk r Q
ok_map (Ok a) P Q f h = f a h
ok_map (Err e) P Q f h = h

pub on_ok : {A E : Type 0} (r : Result A E) (P Q : Type 0) → (P → Q) → OnOk r P → OnOk r Q
on_ok (Ok a) P Q f h = f h
on_ok (Err e) P Q f h = h

first_there : (plan : PlanTree) (f : List Axis → Stage) (n : ℕ) (xs : List (List Axis)) (ys : List Stage) → n < length xs → first_bound plan (drop n (map f xs ++ ys)) ≡ bound plan (f (get_or xs n []))
first_there plan f zero [] ys h = absurd (omega arith)
first_there plan f (suc n) [] ys h = absurd (omega arith)
first_there plan f zero (x ∷ xs) ys h = refl
first_there plan f (suc n) (x ∷ xs) ys h = first_there plan f n xs ys (omega arith)

-- the box of the next unit bounds what it fetches
pub next_bound : (e : State) (t : TaskTree) (ts : List TaskTree) → tasks_left e ≡ t ∷ ts → e.tile < length (tile_boxes (area_of t.part))
    → first_bound (plan_of e) (boxes_left e) ≡ sum_by (bound_of (signature_of (plan_of e).coverages t.coverages) (tile_box (area_of t.part) e.tile)) (bodies_of t.part)
next_bound e t ts h lt =
    ap (λ l. first_bound (plan_of e) (drop e.tile (flat_map stages_of l))) h
    ∙ ap (λ l. first_bound (plan_of e) (drop e.tile l)) (flat_map-cons stages_of t ts)
    ∙ first_there (plan_of e) (λ b. record { box = b; coverages = t.coverages; bodies = bodies_of t.part }) e.tile (tile_boxes (area_of t.part)) (flat_map stages_of ts) lt
