-- The list of a plan's tasks, as it is made.
use Rattle.std.proofs.Common.{◌≡◌, ◌==◌, ℕ, zero, suc, ◌+◌, ◌-◌, ◌^◌, min, List, [], ◌∷◌, ◌++◌, length, map, take, refl, sym, ap, ◌∙◌, subst, arith, length-append, append_assoc, append-nil, Some, option_map, Bool, true, false}
use Rattle.std.specs.Prelude.{slice_get, IsSomeAnd}
use Rattle.std.specs.List.{flat_map}
use Rattle.std.proofs.lemmas.List.{length-map, length-take-le}
use Rattle.std.proofs.lemmas.Option.{slice_get-map, slice_get_within, get_or_from_slice_get}
use Rattle.std.proofs.lemmas.Grind.{flat_map-append}
use Rattle.std.proofs.Math.Dec.{eqb-suc-zero}
use Rattle.arr_core.specs.Tiles.{tile_boxes}
use Rattle.plan_ir.specs.declared.body.Fold.{Fold}
use Rattle.plan_ir.specs.declared.plan.Plan.{Plan}
use Rattle.plan_ir.specs.declared.plan.Steps.{Steps}
use Rattle.plan_ir.specs.Plans.{PassTree, FieldBody, ItemTree, StepsTree, Choice, pass_view, steps_view, choice_view, plan_view}
use Rattle.tile_exec.specs.declared.task.Task.{Task}
use Rattle.tile_exec.specs.declared.begin.Listing.{Listing}
use Rattle.tile_exec.specs.Tasks.{TaskTree, pass, item, fieldless, area_of, stages_of, item_part, pass_tasks, choice_passes, choice_outs, register_count, all_passes, all_outs}
use Rattle.tile_exec.specs.Standing.{IsPartOf, IsStepsOf, IsTask, AreTasks}
use Rattle.tile_exec.specs.Begun.{IsFit, AreFit, Lists, Adds, IsChosen}
use Rattle.tile_columns.proofs.TileOrders.{take_more}
use Rattle.tile_exec.proofs.Moves.{stages_more}

tasks_push : (plan : Plan) (xs : List Task) (ts : List TaskTree) (x : Task) (t : TaskTree) → AreTasks plan xs ts → IsTask plan x t → AreTasks plan (xs ++ x ∷ []) (ts ++ t ∷ [])
tasks_push plan [] [] x t h i = (i, tt)
tasks_push plan [] (u ∷ ts) x t h i = absurd h
tasks_push plan (y ∷ xs) [] x t h i = absurd h
tasks_push plan (y ∷ xs) (u ∷ ts) x t h i = (h.0, tasks_push plan xs ts x t h.1 i)

fit_push : (ts : List TaskTree) (t : TaskTree) → AreFit ts → IsFit t.part → AreFit (ts ++ t ∷ [])
fit_push [] t h f = (f, tt)
fit_push (u ∷ ts) t h f = (h.0, fit_push ts t h.1 f)

boxes_push : (ts : List TaskTree) (t : TaskTree) → length (flat_map stages_of (ts ++ t ∷ [])) ≡ length (flat_map stages_of ts) + length (tile_boxes (area_of t.part))
boxes_push ts t =
    let a = ap length (flat_map-append stages_of ts (t ∷ [])) in
    let b = length-append (flat_map stages_of ts) (flat_map stages_of (t ∷ [])) in
    let c = stages_more t [] in
    omega (arith, a, b, c)

-- one more task is listed
pub pushed : (plan : Plan) (old new : Listing) (x : Task) (t : TaskTree) (boxes : ℕ) → new.tasks.items ≡ old.tasks.items ++ x ∷ [] → new.boxes ≡ min (old.boxes + boxes) (2 ^ 64 - 1)
    → IsTask plan x t → IsFit t.part → boxes ≡ length (tile_boxes (area_of t.part)) → Adds plan old new (t ∷ [])
pushed plan old new x t boxes items more is fit few trees l = record {
  tasks = subst (λ v. AreTasks plan v (trees ++ t ∷ [])) (sym items) (tasks_push plan old.tasks.items trees x t l.tasks is);
  fit = fit_push trees t l.fit fit;
  boxes = let a = boxes_push trees t in let b = l.boxes in omega (arith, a, b, more, few);
}

pub adds_none : (plan : Plan) (a : Listing) → Adds plan a a []
adds_none plan a trees l = subst (Lists plan a) (sym (append-nil trees)) l

pub adds_more : (plan : Plan) (a b c : Listing) (xs ys : List TaskTree) → Adds plan a b xs → Adds plan b c ys → Adds plan a c (xs ++ ys)
adds_more plan a b c xs ys f g trees l = subst (Lists plan c) (append_assoc trees xs ys) (g (trees ++ xs) (f trees l))

pub chosen_task : (plan : Plan) (n : ℕ) (s : Steps) (c : Choice) (t : Task) (tree : TaskTree) → IsChosen plan n s c → t.combination ≡ n → t.first ≡ tree.first → t.count ≡ tree.count
    → c.coverages ≡ tree.coverages → IsPartOf s t.count t.part tree.part → IsTask plan t tree
chosen_task plan n s c t tree x at first count coverages part = record {
  first = first;
  count = count;
  steps = subst (λ o. IsSomeAnd o (IsStepsOf plan t tree)) (sym (ap (slice_get plan.combinations.items) at ∙ x.there))
      (ap (λ (c : Choice). c.coverages) x.view ∙ coverages, subst (λ o. IsSomeAnd o (λ s. IsPartOf s t.count t.part tree.part)) (sym x.steps) part);
}

pub take_there : {X : Type 0} (n : ℕ) (xs : List X) (x : X) → slice_get xs n ≡ Some x → take (n + 1) xs ≡ take n xs ++ x ∷ []
take_there n xs x h = take_more n xs x (slice_get_within xs n x h) ∙ ap (λ y. take n xs ++ y ∷ []) (get_or_from_slice_get xs n x x h)

length_taken : {X : Type 0} (n : ℕ) (xs : List X) (x : X) → slice_get xs n ≡ Some x → length (take n xs) ≡ n
length_taken n xs x h = let lt = slice_get_within xs n x h in length-take-le n xs (omega (arith, lt))

pass_tasks_push : (coverages : List ℕ) (first n : ℕ) (passes : List PassTree) (p : PassTree)
    → pass_tasks coverages first n (passes ++ p ∷ []) ≡ pass_tasks coverages first n passes ++ record { coverages = coverages; first = first; count = n + length passes; part = pass p } ∷ []
pass_tasks_push coverages first n [] p = let e : n ≡ n + 0 = omega arith in ap (λ (k : ℕ). record { coverages = coverages; first = first; count = k; part = pass p } ∷ []) e
pass_tasks_push coverages first n (q ∷ passes) p =
    let e : (n + 1) + length passes ≡ n + length (q ∷ passes) = omega arith in
    let t : TaskTree = record { coverages = coverages; first = first; count = n; part = pass q } in
    ap (λ l. t ∷ l) (pass_tasks_push coverages first (n + 1) passes p
    ∙ ap (λ (k : ℕ). pass_tasks coverages first (n + 1) passes ++ record { coverages = coverages; first = first; count = k; part = pass p } ∷ []) e)

-- one more pass of a combination is listed
pub pass_more : (plan : Plan) (a b d : Listing) (coverages : List ℕ) (first k : ℕ) (passes : List Fold) (q : Fold) → slice_get passes k ≡ Some q
    → Adds plan a b (pass_tasks coverages first 0 (take k (map pass_view passes)))
    → Adds plan b d (record { coverages = coverages; first = first; count = k; part = pass (pass_view q) } ∷ [])
    → Adds plan a d (pass_tasks coverages first 0 (take (k + 1) (map pass_view passes)))
pass_more plan a b d coverages first k passes q at f g =
    let views = map pass_view passes in
    let there : slice_get views k ≡ Some (pass_view q) = slice_get-map pass_view passes k ∙ ap (option_map pass_view) at in
    let front : 0 + length (take k views) ≡ k = let n = length_taken k views (pass_view q) there in omega (arith, n) in
    let e : pass_tasks coverages first 0 (take (k + 1) views) ≡ pass_tasks coverages first 0 (take k views) ++ record { coverages = coverages; first = first; count = k; part = pass (pass_view q) } ∷ [] =
    ap (pass_tasks coverages first 0) (take_there k views (pass_view q) there)
    ∙ pass_tasks_push coverages first 0 (take k views) (pass_view q)
    ∙ ap (λ (n : ℕ). pass_tasks coverages first 0 (take k views) ++ record { coverages = coverages; first = first; count = n; part = pass (pass_view q) } ∷ []) front in
    subst (Adds plan a d) (sym e) (adds_more plan a b d (pass_tasks coverages first 0 (take k views)) (record { coverages = coverages; first = first; count = k; part = pass (pass_view q) } ∷ []) f g)

pub chosen_steps : (plan : Plan) (n : ℕ) (s : Steps) (c : Choice) → IsChosen plan n s c → slice_get (plan_view plan).steps c.steps ≡ Some (steps_view s)
chosen_steps plan n s c x =
    slice_get-map steps_view plan.steps.items c.steps
    ∙ ap (option_map steps_view) (ap (slice_get plan.steps.items) (sym (ap (λ (c : Choice). c.steps) x.view)) ∙ x.steps)

pub chosen_there : (plan : Plan) (n : ℕ) (s : Steps) (c : Choice) → IsChosen plan n s c → slice_get (plan_view plan).combinations n ≡ Some c
chosen_there plan n s c x = slice_get-map choice_view plan.combinations.items n ∙ ap (option_map choice_view) x.there ∙ ap Some x.view

-- how many registers are before those of the next combination
abbrev pub total : List StepsTree → ℕ → List Choice → ℕ
total steps first [] = first
total steps first (c ∷ choices) = total steps (first + register_count (slice_get steps c.steps)) choices

total_push : (steps : List StepsTree) (first : ℕ) (cs : List Choice) (c : Choice) → total steps first (cs ++ c ∷ []) ≡ total steps first cs + register_count (slice_get steps c.steps)
total_push steps first [] c = refl
total_push steps first (b ∷ cs) c = total_push steps (first + register_count (slice_get steps b.steps)) cs c

passes_push : (steps : List StepsTree) (first : ℕ) (cs : List Choice) (c : Choice)
    → all_passes steps first (cs ++ c ∷ []) ≡ all_passes steps first cs ++ choice_passes c.coverages (total steps first cs) (slice_get steps c.steps)
passes_push steps first [] c = append-nil (choice_passes c.coverages first (slice_get steps c.steps))
passes_push steps first (b ∷ cs) c =
    let o = slice_get steps b.steps in
    let next = first + register_count o in
    ap (λ l. choice_passes b.coverages first o ++ l) (passes_push steps next cs c)
    ∙ sym (append_assoc (choice_passes b.coverages first o) (all_passes steps next cs) (choice_passes c.coverages (total steps next cs) (slice_get steps c.steps)))

outs_push : (steps : List StepsTree) (first : ℕ) (cs : List Choice) (c : Choice)
    → all_outs steps first (cs ++ c ∷ []) ≡ all_outs steps first cs ++ choice_outs c.coverages (total steps first cs) (slice_get steps c.steps)
outs_push steps first [] c = append-nil (choice_outs c.coverages first (slice_get steps c.steps))
outs_push steps first (b ∷ cs) c =
    let o = slice_get steps b.steps in
    let next = first + register_count o in
    ap (λ l. choice_outs b.coverages first o ++ l) (outs_push steps next cs c)
    ∙ sym (append_assoc (choice_outs b.coverages first o) (all_outs steps next cs) (choice_outs c.coverages (total steps next cs) (slice_get steps c.steps)))

-- the registers before those of the combination after this one
pub total_more : (plan : Plan) (k : ℕ) (s : Steps) (c : Choice) (n : ℕ) → IsChosen plan k s c → n ≡ total (plan_view plan).steps 0 (take k (plan_view plan).combinations)
    → n + length s.passes.items ≡ total (plan_view plan).steps 0 (take (k + 1) (plan_view plan).combinations)
total_more plan k s c n x h =
    let tree = plan_view plan in
    let e = ap (total tree.steps 0) (take_there k tree.combinations c (chosen_there plan k s c x)) ∙ total_push tree.steps 0 (take k tree.combinations) c in
    let r : register_count (slice_get tree.steps c.steps) ≡ length s.passes.items = ap register_count (chosen_steps plan k s c x) ∙ length-map s.passes.items pass_view in
    omega (arith, e, r, h)

-- the passes of one more combination are listed
pub passes_more : (plan : Plan) (a b d : Listing) (k : ℕ) (s : Steps) (c : Choice) (n : ℕ) → IsChosen plan k s c → n ≡ total (plan_view plan).steps 0 (take k (plan_view plan).combinations)
    → Adds plan a b (all_passes (plan_view plan).steps 0 (take k (plan_view plan).combinations))
    → Adds plan b d (choice_passes c.coverages n (Some (steps_view s)))
    → Adds plan a d (all_passes (plan_view plan).steps 0 (take (k + 1) (plan_view plan).combinations))
passes_more plan a b d k s c n x h f g =
    let tree = plan_view plan in
    let front = take k tree.combinations in
    let e : all_passes tree.steps 0 (take (k + 1) tree.combinations) ≡ all_passes tree.steps 0 front ++ choice_passes c.coverages n (Some (steps_view s)) =
    ap (all_passes tree.steps 0) (take_there k tree.combinations c (chosen_there plan k s c x))
    ∙ passes_push tree.steps 0 front c
    ∙ ap (λ o. all_passes tree.steps 0 front ++ choice_passes c.coverages (total tree.steps 0 front) o) (chosen_steps plan k s c x)
    ∙ ap (λ m. all_passes tree.steps 0 front ++ choice_passes c.coverages m (Some (steps_view s))) (sym h) in
    subst (Adds plan a d) (sym e) (adds_more plan a b d (all_passes tree.steps 0 front) (choice_passes c.coverages n (Some (steps_view s))) f g)

-- the condition and the item of one more combination are listed
pub outs_more : (plan : Plan) (a b d : Listing) (k : ℕ) (s : Steps) (c : Choice) (n : ℕ) → IsChosen plan k s c → n ≡ total (plan_view plan).steps 0 (take k (plan_view plan).combinations)
    → Adds plan a b (all_outs (plan_view plan).steps 0 (take k (plan_view plan).combinations))
    → Adds plan b d (choice_outs c.coverages n (Some (steps_view s)))
    → Adds plan a d (all_outs (plan_view plan).steps 0 (take (k + 1) (plan_view plan).combinations))
outs_more plan a b d k s c n x h f g =
    let tree = plan_view plan in
    let front = take k tree.combinations in
    let e : all_outs tree.steps 0 (take (k + 1) tree.combinations) ≡ all_outs tree.steps 0 front ++ choice_outs c.coverages n (Some (steps_view s)) =
    ap (all_outs tree.steps 0) (take_there k tree.combinations c (chosen_there plan k s c x))
    ∙ outs_push tree.steps 0 front c
    ∙ ap (λ o. all_outs tree.steps 0 front ++ choice_outs c.coverages (total tree.steps 0 front) o) (chosen_steps plan k s c x)
    ∙ ap (λ m. all_outs tree.steps 0 front ++ choice_outs c.coverages m (Some (steps_view s))) (sym h) in
    subst (Adds plan a d) (sym e) (adds_more plan a b d (all_outs tree.steps 0 front) (choice_outs c.coverages n (Some (steps_view s))) f g)

-- an item is a task by whether it has fields
pub item_some : (i : ItemTree) (fields : List FieldBody) (n : ℕ) (b : Bool) → b ≡ false → b ≡ (n == 0) → length fields ≡ n → item_part i fields ≡ item i
item_some i [] zero b f e m = cc
item_some i [] (suc n) b f e m = absurd (omega (arith, m))
item_some i (x ∷ fields) n b f e m = refl

pub item_none : (i : ItemTree) (fields : List FieldBody) (n : ℕ) (b : Bool) → b ≡ true → b ≡ (n == 0) → length fields ≡ n → item_part i fields ≡ fieldless i
item_none i [] n b f e m = refl
item_none i (x ∷ fields) zero b f e m = absurd (omega (arith, m))
item_none i (x ∷ fields) (suc n) b f e m = let k : (suc n == 0) ≡ false = eqb-suc-zero n in cc
