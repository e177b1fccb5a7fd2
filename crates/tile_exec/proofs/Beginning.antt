-- The tasks of a plan before the first unit.
use Rattle.std.proofs.Common.{◌≡◌, ℕ, zero, suc, ◌+◌, ◌^◌, ◌<◌, ◌≤◌, max, List, [], ◌∷◌, ◌++◌, length, map, take, drop, refl, sym, ap, ◌∙◌, subst, arith, length-append, append_assoc, append-nil, Option, Some, None, inl, inr}
use Rattle.std.specs.Prelude.{slice_get, IsSomeAnd, sum_by, vec_capacity, All}
use Rattle.std.specs.List.{flat_map}
use Rattle.std.proofs.lemmas.List.{length-map}
use Rattle.std.proofs.lemmas.List.Concat.{flat_map-cons}
use Rattle.std.proofs.lemmas.List.Sums.{sum_by-cons}
use Rattle.std.proofs.lemmas.Grind.{flat_map-append}
use Rattle.arr_core.specs.declared.domain.Axis.{Axis}
use Rattle.arr_core.specs.declared.signature.Signature.{Signature}
use Rattle.arr_core.specs.Domains.{count}
use Rattle.arr_core.specs.Tiles.{tile_boxes}
use Rattle.plan_ir.specs.declared.plan.Plan.{Plan}
use Rattle.plan_ir.specs.Bodies.{Tree}
use Rattle.plan_ir.specs.Plans.{PassTree, BindTree, FieldBody, ItemTree, StepsTree, Choice, PlanTree, signature_of, plan_view}
use Rattle.plan_ir.specs.Placed.{spans, PassesArePlaced, ConditionIsPlaced, ItemIsPlaced, AreDemanded, AreSteps, IsChoice, IsPlan}
use Rattle.plan_ir.specs.Units.{condition_units, item_units, steps_units, units, tile_stages, pass_stages, condition_stages, item_stages, passes_boxes, out_boxes, boxes}
use Rattle.tile_exec.specs.declared.task.Task.{Task}
use Rattle.tile_exec.specs.declared.begin.Listing.{Listing}
use Rattle.tile_exec.specs.declared.state.State.{State}
use Rattle.tile_exec.specs.Tasks.{PartTree, TaskTree, pass, area_of, bodies_of, stages_of, item_part, pass_tasks, choice_passes, register_count, all_passes, condition_tasks, choice_outs, all_outs, tasks_of, IsPartPlaced, registers_made, AreReady}
use Rattle.tile_exec.specs.Progress.{start, after_all}
use Rattle.tile_exec.specs.Standing.{plan_of, tasks_left, progress_of, AreTasks, IsLeft, IsBegun}
use Rattle.tile_exec.specs.Begun.{IsFit, AreFit, Lists}
use Rattle.tile_columns.proofs.TileOrders.{tiles-few, tiles-pos}
use Rattle.tile_exec.proofs.Moves.{at_start, stands_start}
use Rattle.tile_exec.proofs.Begun.{total}

fit_front : (xs ys : List TaskTree) → AreFit (xs ++ ys) → AreFit xs
fit_front [] ys h = tt
fit_front (x ∷ xs) ys h = (h.0, fit_front xs ys h.1)

fit_back : (xs ys : List TaskTree) → AreFit (xs ++ ys) → AreFit ys
fit_back [] ys h = h
fit_back (x ∷ xs) ys h = fit_back xs ys h.1

-- the passes of a combination can be done, each after those before it
passes_ready : (all : List Signature) (coverages : List ℕ) (first n : ℕ) (passes : List PassTree) (rest : List TaskTree) → PassesArePlaced (signature_of all coverages) n passes → AreFit (pass_tasks coverages first n passes)
    → AreReady all (first + (n + length passes)) rest → AreReady all (first + n) (pass_tasks coverages first n passes ++ rest)
passes_ready all coverages first n [] rest p f r = let e : first + (n + length {A = PassTree} []) ≡ first + n = omega arith in subst (λ k. AreReady all k rest) e r
passes_ready all coverages first n (q ∷ passes) rest p f r =
    let a : first + (n + length (q ∷ passes)) ≡ first + ((n + 1) + length passes) = omega arith in
    let b : first + (n + 1) ≡ (first + n) + 1 = omega arith in
    let more = passes_ready all coverages first (n + 1) passes rest p.2 f.1 (subst (λ k. AreReady all k rest) a r) in
    (omega arith, (f.0, p.0, p.1), subst (λ k. AreReady all k (pass_tasks coverages first (n + 1) passes ++ rest)) b more)

choice_ready : (all : List Signature) (coverages : List ℕ) (first : ℕ) (o : Option StepsTree) (rest : List TaskTree) → IsSomeAnd o (AreSteps (signature_of all coverages)) → AreFit (choice_passes coverages first o)
    → AreReady all (first + register_count o) rest → AreReady all first (choice_passes coverages first o ++ rest)
choice_ready all coverages first None rest p f r = absurd p
choice_ready all coverages first (Some s) rest p f r =
    let a : first + length s.passes ≡ first + (0 + length s.passes) = omega arith in
    let b : first + 0 ≡ first = omega arith in
    subst (λ k. AreReady all k (pass_tasks coverages first 0 s.passes ++ rest)) b (passes_ready all coverages first 0 s.passes rest p.passes f (subst (λ k. AreReady all k rest) a r))

all_later : (plan : PlanTree) (c : Choice) (cs : List Choice) → All (IsChoice plan) (c ∷ cs) → All (IsChoice plan) cs
all_later plan c cs h k d lt = h (suc k) d (omega (arith, lt))

all_ready : (plan : PlanTree) (first : ℕ) (cs : List Choice) (rest : List TaskTree) → All (IsChoice plan) cs → AreFit (all_passes plan.steps first cs)
    → AreReady plan.coverages (total plan.steps first cs) rest → AreReady plan.coverages first (all_passes plan.steps first cs ++ rest)
all_ready plan first [] rest h f r = r
all_ready plan first (c ∷ cs) rest h f r =
    let o = slice_get plan.steps c.steps in
    let here = choice_passes c.coverages first o in
    let next = all_passes plan.steps (first + register_count o) cs in
    subst (AreReady plan.coverages first) (sym (append_assoc here next rest))
    (choice_ready plan.coverages c.coverages first o (next ++ rest) (h 0 c (omega arith)) (fit_front here next f)
    (all_ready plan (first + register_count o) cs rest (all_later plan c cs h) (fit_back here next f) r))

same_after : (all : List Signature) (n : ℕ) (ts : List TaskTree) → AreReady all n ts → AreReady all (n + 0) ts
same_after all n ts h = let e : n ≡ n + 0 = omega arith in subst (λ k. AreReady all k ts) e h

outs_ready : (all : List Signature) (coverages : List ℕ) (first m n : ℕ) (c : Option Tree) (p : PartTree) (rest : List TaskTree) → ConditionIsPlaced (signature_of all coverages) m [] c
    → AreReady all n (record { coverages = coverages; first = first; count = m; part = p } ∷ rest) → first + m ≤ n
    → AreReady all n ((condition_tasks coverages first m c ++ record { coverages = coverages; first = first; count = m; part = p } ∷ []) ++ rest)
outs_ready all coverages first m n None p rest h r le = r
outs_ready all coverages first m n (Some c) p rest h r le = (le, h, same_after all n (record { coverages = coverages; first = first; count = m; part = p } ∷ rest) r)

item_fit : (coverages : List ℕ) (first m : ℕ) (c : Option Tree) (p : PartTree) → AreFit (condition_tasks coverages first m c ++ record { coverages = coverages; first = first; count = m; part = p } ∷ [])
    → AreFit (record { coverages = coverages; first = first; count = m; part = p } ∷ [])
item_fit coverages first m c p f = fit_back (condition_tasks coverages first m c) (record { coverages = coverages; first = first; count = m; part = p } ∷ []) f

item_ready : (cs : ℕ → Option Signature) (m : ℕ) (i : ItemTree) (fields : List FieldBody) → i.fields ≡ fields → ItemIsPlaced cs m (spans i.domain) i.binds i.fields → AreDemanded i.binds i.fields → IsFit (item_part i fields)
    → IsPartPlaced cs m (item_part i fields)
item_ready cs m i [] e p d f = (subst (AreDemanded i.binds) e d, e)
item_ready cs m i (x ∷ fields) e p d f = (f, p, subst (λ l. 0 < length l) (sym e) (omega arith))

item_after : (all : List Signature) (n : ℕ) (i : ItemTree) (fields : List FieldBody) (ts : List TaskTree) → AreReady all n ts → AreReady all (n + registers_made (item_part i fields)) ts
item_after all n i [] ts h = same_after all n ts h
item_after all n i (x ∷ fields) ts h = same_after all n ts h

out_ready : (all : List Signature) (coverages : List ℕ) (first n : ℕ) (o : Option StepsTree) (rest : List TaskTree) → IsSomeAnd o (AreSteps (signature_of all coverages)) → AreFit (choice_outs coverages first o)
    → first + register_count o ≤ n → AreReady all n rest → AreReady all n (choice_outs coverages first o ++ rest)
out_ready all coverages first n None rest p f le r = r
out_ready all coverages first n (Some s) rest p f le r =
    let m = length s.passes in
    let i = s.item in
    let fit = (item_fit coverages first m s.condition (item_part i i.fields) f).0 in
    outs_ready all coverages first m n s.condition (item_part i i.fields) rest p.condition
    (le, item_ready (signature_of all coverages) m i i.fields refl p.item p.demanded fit, item_after all n i i.fields rest r) le

total_above : (steps : List StepsTree) (first : ℕ) (cs : List Choice) → first ≤ total steps first cs
total_above steps first [] = omega arith
total_above steps first (c ∷ cs) = let h = total_above steps (first + register_count (slice_get steps c.steps)) cs in omega (arith, h)

all_outs_ready : (plan : PlanTree) (first n : ℕ) (cs : List Choice) → All (IsChoice plan) cs → AreFit (all_outs plan.steps first cs) → total plan.steps first cs ≤ n
    → AreReady plan.coverages n (all_outs plan.steps first cs)
all_outs_ready plan first n [] h f le = tt
all_outs_ready plan first n (c ∷ cs) h f le =
    let o = slice_get plan.steps c.steps in
    let here = choice_outs c.coverages first o in
    let next = all_outs plan.steps (first + register_count o) cs in
    let above = total_above plan.steps (first + register_count o) cs in
    out_ready plan.coverages c.coverages first n o next (h 0 c (omega arith)) (fit_front here next f) (omega (arith, above, le))
    (all_outs_ready plan (first + register_count o) n cs (all_later plan c cs h) (fit_back here next f) le)

tasks_ready : (plan : PlanTree) → IsPlan plan → AreFit (tasks_of plan) → AreReady plan.coverages 0 (tasks_of plan)
tasks_ready plan h f =
    let passes = all_passes plan.steps 0 plan.combinations in
    let outs = all_outs plan.steps 0 plan.combinations in
    all_ready plan 0 plan.combinations outs h.choices (fit_front passes outs f) (all_outs_ready plan 0 (total plan.steps 0 plan.combinations) plan.combinations h.choices (fit_back passes outs f) (omega arith))

-- the boxes of the tasks
pass_boxes : (coverages : List ℕ) (first n : ℕ) (passes : List PassTree) → flat_map stages_of (pass_tasks coverages first n passes) ≡ flat_map (pass_stages coverages) passes
pass_boxes coverages first n [] = refl
pass_boxes coverages first n (p ∷ passes) =
    flat_map-cons stages_of (record { coverages = coverages; first = first; count = n; part = pass p }) (pass_tasks coverages first (n + 1) passes)
    ∙ ap (λ l. pass_stages coverages p ++ l) (pass_boxes coverages first (n + 1) passes)
    ∙ sym (flat_map-cons (pass_stages coverages) p passes)

choice_boxes : (coverages : List ℕ) (first : ℕ) (o : Option StepsTree) → flat_map stages_of (choice_passes coverages first o) ≡ passes_boxes coverages o
choice_boxes coverages first None = refl
choice_boxes coverages first (Some s) = pass_boxes coverages first 0 s.passes

all_boxes : (steps : List StepsTree) (first : ℕ) (cs : List Choice) → flat_map stages_of (all_passes steps first cs) ≡ flat_map (λ (c : Choice). passes_boxes c.coverages (slice_get steps c.steps)) cs
all_boxes steps first [] = refl
all_boxes steps first (c ∷ cs) =
    let o = slice_get steps c.steps in
    let next = all_passes steps (first + register_count o) cs in
    flat_map-append stages_of (choice_passes c.coverages first o) next
    ∙ ap (λ l. l ++ flat_map stages_of next) (choice_boxes c.coverages first o)
    ∙ ap (λ l. passes_boxes c.coverages o ++ l) (all_boxes steps (first + register_count o) cs)
    ∙ sym (flat_map-cons (λ (c : Choice). passes_boxes c.coverages (slice_get steps c.steps)) c cs)

item_boxes : (coverages : List ℕ) (i : ItemTree) (fields : List FieldBody) → i.fields ≡ fields
    → tile_stages coverages (bodies_of (item_part i fields)) (area_of (item_part i fields)) ≡ item_stages coverages i fields
item_boxes coverages i [] e = refl
item_boxes coverages i (f ∷ fields) e = ap (λ l. tile_stages coverages (map (λ (b : BindTree). b.position) i.binds ++ map (λ (f : FieldBody). f.body) l) i.domain) e

condition_boxes : (coverages : List ℕ) (first m : ℕ) (c : Option Tree) → flat_map stages_of (condition_tasks coverages first m c) ≡ condition_stages coverages c
condition_boxes coverages first m None = refl
condition_boxes coverages first m (Some c) = refl

one_boxes : (t : TaskTree) → flat_map stages_of (t ∷ []) ≡ stages_of t
one_boxes t = flat_map-cons stages_of t [] ∙ append-nil (stages_of t)

out_boxes_are : (coverages : List ℕ) (first : ℕ) (o : Option StepsTree) → flat_map stages_of (choice_outs coverages first o) ≡ out_boxes coverages o
out_boxes_are coverages first None = refl
out_boxes_are coverages first (Some s) =
    let m = length s.passes in
    let i = s.item in
    let t : TaskTree = record { coverages = coverages; first = first; count = m; part = item_part i i.fields } in
    flat_map-append stages_of (condition_tasks coverages first m s.condition) (t ∷ [])
    ∙ ap (λ l. l ++ flat_map stages_of (t ∷ [])) (condition_boxes coverages first m s.condition)
    ∙ ap (λ l. condition_stages coverages s.condition ++ l) (one_boxes t ∙ item_boxes coverages i i.fields refl)

all_out_boxes : (steps : List StepsTree) (first : ℕ) (cs : List Choice) → flat_map stages_of (all_outs steps first cs) ≡ flat_map (λ (c : Choice). out_boxes c.coverages (slice_get steps c.steps)) cs
all_out_boxes steps first [] = refl
all_out_boxes steps first (c ∷ cs) =
    let o = slice_get steps c.steps in
    let here = choice_outs c.coverages first o in
    let next = all_outs steps (first + register_count o) cs in
    flat_map-append stages_of here next
    ∙ ap (λ l. l ++ flat_map stages_of next) (out_boxes_are c.coverages first o)
    ∙ ap (λ l. out_boxes c.coverages o ++ l) (all_out_boxes steps (first + register_count o) cs)
    ∙ sym (flat_map-cons (λ (c : Choice). out_boxes c.coverages (slice_get steps c.steps)) c cs)

-- the stages of the tasks are the boxes of the plan
tasks_boxes : (plan : PlanTree) → flat_map stages_of (tasks_of plan) ≡ boxes plan
tasks_boxes plan =
    let passes = all_passes plan.steps 0 plan.combinations in
    let outs = all_outs plan.steps 0 plan.combinations in
    flat_map-append stages_of passes outs
    ∙ ap (λ l. l ++ flat_map stages_of outs) (all_boxes plan.steps 0 plan.combinations)
    ∙ ap (λ l. flat_map (λ (c : Choice). passes_boxes c.coverages (slice_get plan.steps c.steps)) plan.combinations ++ l) (all_out_boxes plan.steps 0 plan.combinations)

-- no more boxes than units
tiles_few : (coverages : List ℕ) (bodies : List Tree) (box : List Axis) → length (tile_stages coverages bodies box) ≤ count box
tiles_few coverages bodies box =
    let a : length (tile_stages coverages bodies box) ≡ length (tile_boxes box) = length-map (tile_boxes box) _ in
    let b = tiles-few box in
    omega (arith, a, b)

passes_few : (coverages : List ℕ) (passes : List PassTree) → length (flat_map (pass_stages coverages) passes) ≤ sum_by (λ (p : PassTree). count p.domain) passes
passes_few coverages [] = omega arith
passes_few coverages (p ∷ passes) =
    let a = ap length (flat_map-cons (pass_stages coverages) p passes) in
    let b = length-append (pass_stages coverages p) (flat_map (pass_stages coverages) passes) in
    let h = passes_few coverages passes in
    let k = tiles_few coverages (p.condition ∷ p.body ∷ []) p.domain in
    let m = sum_by-cons (λ (p : PassTree). count p.domain) p passes in
    omega (arith, a, b, h, k, m)

condition_few : (coverages : List ℕ) (c : Option Tree) → length (condition_stages coverages c) ≤ condition_units c
condition_few coverages None = omega arith
condition_few coverages (Some c) = omega arith

item_few : (coverages : List ℕ) (i : ItemTree) (fields : List FieldBody) → length (item_stages coverages i fields) ≤ item_units i.domain fields
item_few coverages i [] = omega arith
item_few coverages i (f ∷ fields) = tiles_few coverages (map (λ (b : BindTree). b.position) i.binds ++ map (λ (f : FieldBody). f.body) (f ∷ fields)) i.domain

steps_few : (coverages : List ℕ) (o : Option StepsTree) → length (passes_boxes coverages o) + length (out_boxes coverages o) ≤ steps_units o
steps_few coverages None = omega arith
steps_few coverages (Some s) =
    let a = passes_few coverages s.passes in
    let b = length-append (condition_stages coverages s.condition) (item_stages coverages s.item s.item.fields) in
    let c = condition_few coverages s.condition in
    let d = item_few coverages s.item s.item.fields in
    omega (arith, a, b, c, d)

choices_few : (steps : List StepsTree) (cs : List Choice)
    → length (flat_map (λ (c : Choice). passes_boxes c.coverages (slice_get steps c.steps)) cs) + length (flat_map (λ (c : Choice). out_boxes c.coverages (slice_get steps c.steps)) cs)
    ≤ sum_by (λ (c : Choice). steps_units (slice_get steps c.steps)) cs
choices_few steps [] = omega arith
choices_few steps (c ∷ cs) =
    let f = λ (c : Choice). passes_boxes c.coverages (slice_get steps c.steps) in
    let g = λ (c : Choice). out_boxes c.coverages (slice_get steps c.steps) in
    let a = ap length (flat_map-cons f c cs) in
    let b = length-append (f c) (flat_map f cs) in
    let d = ap length (flat_map-cons g c cs) in
    let e = length-append (g c) (flat_map g cs) in
    let h = choices_few steps cs in
    let k = steps_few c.coverages (slice_get steps c.steps) in
    let m = sum_by-cons (λ (c : Choice). steps_units (slice_get steps c.steps)) c cs in
    omega (arith, a, b, d, e, h, k, m)

boxes_few : (plan : PlanTree) → length (boxes plan) ≤ units plan
boxes_few plan =
    let f = flat_map (λ (c : Choice). passes_boxes c.coverages (slice_get plan.steps c.steps)) plan.combinations in
    let g = flat_map (λ (c : Choice). out_boxes c.coverages (slice_get plan.steps c.steps)) plan.combinations in
    let a = length-append f g in
    let h = choices_few plan.steps plan.combinations in
    omega (arith, a, h)

-- no more registers than units
passes_some : (passes : List PassTree) → length passes ≤ sum_by (λ (p : PassTree). count p.domain) passes
passes_some [] = omega arith
passes_some (p ∷ passes) =
    let a = tiles-pos p.domain in
    let b = tiles-few p.domain in
    let h = passes_some passes in
    let m = sum_by-cons (λ (p : PassTree). count p.domain) p passes in
    omega (arith, a, b, h, m)

registers_some : (o : Option StepsTree) → register_count o ≤ steps_units o
registers_some None = omega arith
registers_some (Some s) = let h = passes_some s.passes in omega (arith, h)

total_few : (steps : List StepsTree) (first : ℕ) (cs : List Choice) → total steps first cs ≤ first + sum_by (λ (c : Choice). steps_units (slice_get steps c.steps)) cs
total_few steps first [] = omega arith
total_few steps first (c ∷ cs) =
    let h = total_few steps (first + register_count (slice_get steps c.steps)) cs in
    let k = registers_some (slice_get steps c.steps) in
    let m = sum_by-cons (λ (c : Choice). steps_units (slice_get steps c.steps)) c cs in
    omega (arith, h, k, m)

total_front : (steps : List StepsTree) (first n : ℕ) (cs : List Choice) → total steps first (take n cs) ≤ total steps first cs
total_front steps first zero [] = omega arith
total_front steps first (suc n) [] = omega arith
total_front steps first zero (c ∷ cs) = total_above steps first (c ∷ cs)
total_front steps first (suc n) (c ∷ cs) = total_front steps (first + register_count (slice_get steps c.steps)) n cs

-- the registers of the first combinations can be counted
pub registers_few : (plan : PlanTree) (n : ℕ) → IsPlan plan → total plan.steps 0 (take n plan.combinations) < 2 ^ 64
registers_few plan n h =
    let a = total_front plan.steps 0 n plan.combinations in
    let b = total_few plan.steps 0 plan.combinations in
    let few = h.few in
    omega (arith, a, b, few)

tasks_many : (plan : Plan) (xs : List Task) (ts : List TaskTree) → AreTasks plan xs ts → length xs ≡ length ts
tasks_many plan [] [] h = refl
tasks_many plan [] (t ∷ ts) h = absurd h
tasks_many plan (x ∷ xs) [] h = absurd h
tasks_many plan (x ∷ xs) (t ∷ ts) h = let r = tasks_many plan xs ts h.1 in omega (arith, r)

drop_zero : {X : Type 0} (xs : List X) → drop 0 xs ≡ xs
drop_zero [] = refl
drop_zero (x ∷ xs) = refl

take_zero : {X : Type 0} (xs : List X) → take 0 xs ≡ []
take_zero [] = refl
take_zero (x ∷ xs) = refl

left_start : (n left : ℕ) → left ≡ max n 1 → IsLeft left 0 n
left_start zero left h = inr (refl, refl)
left_start (suc n) left h = inl (omega (arith, h))

-- the executor with the list of its tasks, before the first unit
pub record Starts (plan : Plan) (l : Listing) (e : State) : Type 0 where
  pub plan_is : e.plan ≡ plan
  pub tasks : e.tasks ≡ l.tasks
  pub at : e.at ≡ 0
  pub tile : e.tile ≡ 0
  pub left : e.left ≡ max l.boxes 1
  pub progress : progress_of e ≡ start
  pub registers : length l.tasks.items ≤ vec_capacity e.registers
  pub items : length l.tasks.items ≤ vec_capacity e.items

pub begun_is : (plan : Plan) (l : Listing) (e : State) → IsPlan (plan_view plan) → Lists plan l (tasks_of (plan_view plan)) → Starts plan l e → IsBegun (plan_view plan) e
begun_is plan l e h list g =
    let tree = plan_view plan in
    let trees = tasks_of tree in
    let is : plan_of e ≡ tree = ap plan_view g.plan_is in
    let hand : tasks_left e ≡ trees = ap (λ p. drop e.at (tasks_of p)) is ∙ ap (λ k. drop k trees) g.at ∙ drop_zero trees in
    let tasks : drop e.at e.tasks.items ≡ l.tasks.items = ap (λ v. drop e.at v.items) g.tasks ∙ ap (λ k. drop k l.tasks.items) g.at ∙ drop_zero l.tasks.items in
    let none : length e.registers.items ≡ 0 = ap (λ p. length p.registers) g.progress in
    let no_items : length e.items.items ≡ 0 = ap (λ p. length p.items) g.progress in
    let many = tasks_many plan l.tasks.items trees list.tasks in
    let n = ap length hand in
    let r = g.registers in
    let i = g.items in
    let z = g.tile in
    let same = ap length (tasks_boxes tree) in
    let few = boxes_few tree in
    let bounded = h.few in
    let listed = list.boxes in
    let counted : l.boxes ≡ length (flat_map stages_of trees) = omega (arith, listed, same, few, bounded) in
    let left = g.left in
    record {
      sound = record {
        tasks = subst (λ ts. AreTasks e.plan (drop e.at e.tasks.items) ts) (sym hand) (subst (λ p. AreTasks p (drop e.at e.tasks.items) trees) (sym g.plan_is) (subst (λ v. AreTasks plan v trees) (sym tasks) list.tasks));
        ready = subst (λ ts. AreReady (plan_of e).coverages (length e.registers.items) ts) (sym hand)
            (subst (λ p. AreReady p.coverages (length e.registers.items) trees) (sym is) (subst (λ k. AreReady tree.coverages k trees) (sym none) (tasks_ready tree h list.fit)));
        at_hand = at_start (tasks_left e) e g.tile;
        room = record { registers = omega (arith, none, n, many, r); items = omega (arith, no_items, n, many, i) };
        left = subst (λ ts. IsLeft e.left e.tile (length (flat_map stages_of ts))) (sym hand)
            (subst (λ k. IsLeft e.left k (length (flat_map stages_of trees))) (sym z) (subst (IsLeft e.left 0) counted (left_start l.boxes e.left left)));
      };
      plan = is;
      stands = λ s. record {
        progress = g.progress ∙ sym (ap (λ k. after_all s start (take k (tasks_of (plan_of e)))) g.at ∙ ap (after_all s start) (take_zero (tasks_of (plan_of e))));
        at_hand = stands_start s e (tasks_left e) z;
      };
      boxes = ap (λ ts. drop e.tile (flat_map stages_of ts)) hand ∙ ap (λ k. drop k (flat_map stages_of trees)) z ∙ drop_zero (flat_map stages_of trees) ∙ tasks_boxes tree ∙ ap boxes (sym is);
      some = omega (arith, left);
      few = subst (λ p. e.left ≤ max 1 (units p)) (sym is) (omega (arith, left, counted, same, few));
    }
