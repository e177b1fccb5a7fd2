-- The tasks of a plan, done one after the other, give what the plan gives.
use Rattle.std.proofs.Common.{◌≡◌, ℕ, ◌+◌, List, [], ◌∷◌, ◌++◌, length, map, ℤ, take, drop, refl, sym, ap, ◌∙◌, arith, length-append, append_assoc, append-nil, Option, Some, None, Bool, true, false, cond}
use Rattle.std.specs.Prelude.{slice_get, Result, Ok, Err}
use Rattle.wcps_mean.specs.declared.cell.PointFault.{PointFault}
use Rattle.wcps_mean.specs.declared.cell.Outcome.{Outcome}
use Rattle.wcps_mean.specs.declared.cell.Outcome.TheVariants.{Value, Fault}
use Rattle.wcps_mean.specs.declared.item.Item.{Item}
use Rattle.arr_core.specs.Cells.{truth_of}
use Rattle.wcps_mean.specs.Answer.{joined, then_of, given}
use Rattle.plan_ir.specs.Bodies.{Tree}
use Rattle.plan_ir.specs.Plans.{PassTree, FieldBody, ItemTree, StepsTree, Choice, PlanTree}
use Rattle.plan_ir.specs.Run.{run}
use Rattle.plan_ir.specs.Planned.{pass_outcome, registers, registers_after, item_planned, chosen, cells_of, choice_planned, planned}
use Rattle.tile_exec.specs.declared.task.Status.TheVariants.{Giving, Skipping, Failed}
use Rattle.tile_exec.specs.Tasks.{TaskTree, item_part, pass_tasks, choice_passes, register_count, all_passes, condition_tasks, choice_outs, all_outs, tasks_of}
use Rattle.tile_exec.specs.Progress.{Progress, start, tested, with_item, after_item, after_part, after, after_all, answer_of}

pub after_append : (s : ℕ → ℕ → List ℤ → ℤ) (g : Progress) (xs ys : List TaskTree) → after_all s g (xs ++ ys) ≡ after_all s (after_all s g xs) ys
after_append s g [] ys = refl
after_append s g (x ∷ xs) ys = after_append s (after s g x) xs ys

take_front : {X : Type 0} (xs ys : List X) → take (length xs) (xs ++ ys) ≡ xs
take_front [] ys = refl
take_front (x ∷ xs) ys = ap (λ l. x ∷ l) (take_front xs ys)

drop_front : {X : Type 0} (xs ys : List X) → drop (length xs) (xs ++ ys) ≡ ys
drop_front [] ys = refl
drop_front (x ∷ xs) ys = drop_front xs ys

-- those of one combination among all registers
middle : {X : Type 0} (before own more : List X) → take (length own) (drop (length before) (before ++ (own ++ more))) ≡ own
middle before own more = ap (take (length own)) (drop_front before (own ++ more)) ∙ take_front own more

abbrev with_registers : List Outcome → Progress
with_registers regs = record { registers = regs; items = []; status = Giving }

-- the passes of a combination add its registers
passes_done : (s : ℕ → ℕ → List ℤ → ℤ) (coverages : List ℕ) (before own : List Outcome) (first n : ℕ) (passes : List PassTree) → first ≡ length before → n ≡ length own
    → after_all s (with_registers (before ++ own)) (pass_tasks coverages first n passes) ≡ with_registers (before ++ registers_after (cells_of s coverages) own passes)
passes_done s coverages before own first n [] f m = refl
passes_done s coverages before own first n (p ∷ passes) f m =
    let c = cells_of s coverages in
    let read : take n (drop first (before ++ own)) ≡ own =
    ap (λ k. take k (drop first (before ++ own))) m ∙ ap (λ k. take (length own) (drop k (before ++ own))) f ∙ ap (λ l. take (length own) (drop (length before) (before ++ l))) (sym (append-nil own)) ∙ middle before own [] in
    let o = pass_outcome c own p in
    let here : (before ++ own) ++ pass_outcome c (take n (drop first (before ++ own))) p ∷ [] ≡ before ++ (own ++ o ∷ []) =
    ap (λ r. (before ++ own) ++ pass_outcome c r p ∷ []) read ∙ append_assoc before own (o ∷ []) in
    ap (λ r. after_all s (with_registers r) (pass_tasks coverages first (n + 1) passes)) here
    ∙ passes_done s coverages before (own ++ o ∷ []) first (n + 1) passes f (let k = length-append own (o ∷ []) in omega (arith, k, m))

-- the registers of a combination
abbrev own_registers : (s : ℕ → ℕ → List ℤ → ℤ) → List ℕ → Option StepsTree → List Outcome
own_registers s coverages None = []
own_registers s coverages (Some t) = registers (cells_of s coverages) t.passes

-- the registers of all combinations, one after the other
abbrev all_registers : (ℕ → ℕ → List ℤ → ℤ) → List StepsTree → List Choice → List Outcome
all_registers s steps [] = []
all_registers s steps (c ∷ choices) = own_registers s c.coverages (slice_get steps c.steps) ++ all_registers s steps choices

length-after : (s : ℕ → ℕ → List ℤ → ℤ) (regs : List Outcome) (passes : List PassTree) → length (registers_after s regs passes) ≡ length regs + length passes
length-after s regs [] = omega arith
length-after s regs (p ∷ passes) =
    let o = pass_outcome s regs p in
    let h = length-after s (regs ++ o ∷ []) passes in
    let k = length-append regs (o ∷ []) in
    omega (arith, h, k)

length-own : (s : ℕ → ℕ → List ℤ → ℤ) (coverages : List ℕ) (o : Option StepsTree) → length (own_registers s coverages o) ≡ register_count o
length-own s coverages None = refl
length-own s coverages (Some t) = let h = length-after (cells_of s coverages) [] t.passes in omega (arith, h)

choice_done : (s : ℕ → ℕ → List ℤ → ℤ) (coverages : List ℕ) (before : List Outcome) (first : ℕ) (o : Option StepsTree) → first ≡ length before
    → after_all s (with_registers before) (choice_passes coverages first o) ≡ with_registers (before ++ own_registers s coverages o)
choice_done s coverages before first None f = ap with_registers (sym (append-nil before))
choice_done s coverages before first (Some t) f =
    ap (λ r. after_all s (with_registers r) (pass_tasks coverages first 0 t.passes)) (sym (append-nil before))
    ∙ passes_done s coverages before [] first 0 t.passes f refl

all_done : (s : ℕ → ℕ → List ℤ → ℤ) (steps : List StepsTree) (before : List Outcome) (first : ℕ) (choices : List Choice) → first ≡ length before
    → after_all s (with_registers before) (all_passes steps first choices) ≡ with_registers (before ++ all_registers s steps choices)
all_done s steps before first [] f = ap with_registers (sym (append-nil before))
all_done s steps before first (c ∷ choices) f =
    let o = slice_get steps c.steps in
    let own = own_registers s c.coverages o in
    after_append s (with_registers before) (choice_passes c.coverages first o) (all_passes steps (first + register_count o) choices)
    ∙ ap (λ g. after_all s g (all_passes steps (first + register_count o) choices)) (choice_done s c.coverages before first o f)
    ∙ all_done s steps (before ++ own) (first + register_count o) choices (let k = length-append before own in let n = length-own s c.coverages o in omega (arith, k, n, f))
    ∙ ap with_registers (append_assoc before own (all_registers s steps choices))

abbrev giving : List Outcome → List Item → Progress
giving regs items = record { registers = regs; items = items; status = Giving }

abbrev failed : List Outcome → List Item → PointFault → Progress
failed regs items f = record { registers = regs; items = items; status = Failed f }

-- a combination that gives items, or a fault
abbrev settled : List Outcome → List Item → Result (List Item) PointFault → Progress
settled regs items (Ok more) = giving regs (items ++ more)
settled regs items (Err f) = failed regs items f

item_settled : (regs : List Outcome) (items : List Item) (r : Result Item PointFault) → with_item (giving regs items) r ≡ settled regs items (then_of r (λ i. Ok (i ∷ [])))
item_settled regs items (Ok i) = refl
item_settled regs items (Err f) = refl

chosen_settled : (regs : List Outcome) (items : List Item) (b : Bool) (r : Result Item PointFault)
    → after_item (record { registers = regs; items = items; status = cond b Giving Skipping }) (cond b Giving Skipping) r ≡ settled regs items (cond b (then_of r (λ i. Ok (i ∷ []))) (Ok []))
chosen_settled regs items true r = item_settled regs items r
chosen_settled regs items false r = ap (giving regs) (sym (append-nil items))

-- after a condition that was tested the item comes
tested_settled : (regs : List Outcome) (items : List Item) (o : Outcome) (r : Result Item PointFault)
    → after_item (record { registers = regs; items = items; status = tested o }) (tested o) r ≡ settled regs items (then_of (given truth_of o) (λ b. cond b (then_of r (λ i. Ok (i ∷ []))) (Ok [])))
tested_settled regs items (Fault f) r = refl
tested_settled regs items (Value z) r = chosen_settled regs items (truth_of z) r

-- with fields or without, an item gives what it gives
item_after : (i : ItemTree) (fields : List FieldBody) (s : ℕ → ℕ → List ℤ → ℤ) (regs : List Outcome) (g : Progress) → after_part s regs g (item_part i fields) ≡ after_item g g.status (item_planned s regs i)
item_after i [] s regs g = refl
item_after i (f ∷ fields) s regs g = refl

-- the condition and the item of a combination, with its registers
outs_settled : (s : ℕ → ℕ → List ℤ → ℤ) (coverages : List ℕ) (regs own : List Outcome) (items : List Item) (first n : ℕ) (c : Option Tree) (i : ItemTree) (fields : List FieldBody) → take n (drop first regs) ≡ own
    → after_all s (giving regs items) (condition_tasks coverages first n c ++ record { coverages = coverages; first = first; count = n; part = item_part i fields } ∷ [])
    ≡ settled regs items (then_of (chosen (cells_of s coverages) own c) (λ b. cond b (then_of (item_planned (cells_of s coverages) own i) (λ i. Ok (i ∷ []))) (Ok [])))
outs_settled s coverages regs own items first n None i fields h =
    let f = cells_of s coverages in
    item_after i fields f (take n (drop first regs)) (giving regs items)
    ∙ ap (λ r. with_item (giving regs items) (item_planned f r i)) h ∙ item_settled regs items (item_planned f own i)
outs_settled s coverages regs own items first n (Some c) i fields h =
    let f = cells_of s coverages in
    let r = take n (drop first regs) in
    item_after i fields f r (record { registers = regs; items = items; status = tested (run f r c []) })
    ∙ ap (λ r. after_item (record { registers = regs; items = items; status = tested (run f r c []) }) (tested (run f r c [])) (item_planned f r i)) h
    ∙ tested_settled regs items (run f own c []) (item_planned f own i)

choice_settled : (s : ℕ → ℕ → List ℤ → ℤ) (coverages : List ℕ) (regs : List Outcome) (items : List Item) (first : ℕ) (o : Option StepsTree) → take (register_count o) (drop first regs) ≡ own_registers s coverages o
    → after_all s (giving regs items) (choice_outs coverages first o) ≡ settled regs items (choice_planned s coverages o)
choice_settled s coverages regs items first None h = ap (giving regs) (sym (append-nil items))
choice_settled s coverages regs items first (Some t) h = outs_settled s coverages regs (own_registers s coverages (Some t)) items first (length t.passes) t.condition t.item t.item.fields h

outs_failed : (s : ℕ → ℕ → List ℤ → ℤ) (coverages : List ℕ) (regs : List Outcome) (items : List Item) (f : PointFault) (first n : ℕ) (c : Option Tree) (i : ItemTree) (fields : List FieldBody)
    → after_all s (failed regs items f) (condition_tasks coverages first n c ++ record { coverages = coverages; first = first; count = n; part = item_part i fields } ∷ []) ≡ failed regs items f
outs_failed s coverages regs items f first n None i fields = item_after i fields (cells_of s coverages) (take n (drop first regs)) (failed regs items f)
outs_failed s coverages regs items f first n (Some c) i fields = item_after i fields (cells_of s coverages) (take n (drop first regs)) (failed regs items f)

choice_failed : (s : ℕ → ℕ → List ℤ → ℤ) (coverages : List ℕ) (regs : List Outcome) (items : List Item) (f : PointFault) (first : ℕ) (o : Option StepsTree)
    → after_all s (failed regs items f) (choice_outs coverages first o) ≡ failed regs items f
choice_failed s coverages regs items f first None = refl
choice_failed s coverages regs items f first (Some t) = outs_failed s coverages regs items f first (length t.passes) t.condition t.item t.item.fields

all_failed : (s : ℕ → ℕ → List ℤ → ℤ) (steps : List StepsTree) (regs : List Outcome) (items : List Item) (f : PointFault) (first : ℕ) (choices : List Choice)
    → after_all s (failed regs items f) (all_outs steps first choices) ≡ failed regs items f
all_failed s steps regs items f first [] = refl
all_failed s steps regs items f first (c ∷ choices) =
    let o = slice_get steps c.steps in
    after_append s (failed regs items f) (choice_outs c.coverages first o) (all_outs steps (first + register_count o) choices)
    ∙ ap (λ g. after_all s g (all_outs steps (first + register_count o) choices)) (choice_failed s c.coverages regs items f first o)
    ∙ all_failed s steps regs items f (first + register_count o) choices

-- further items behind those that are there
abbrev behind_items : List Item → Result (List Item) PointFault → Result (List Item) PointFault
behind_items items (Ok more) = Ok (items ++ more)
behind_items items (Err f) = Err f

joined_behind : (items more : List Item) (j : Result (List Item) PointFault) → behind_items (items ++ more) j ≡ behind_items items (then_of j (λ ys. Ok (more ++ ys)))
joined_behind items more (Ok ys) = ap Ok (append_assoc items more ys)
joined_behind items more (Err f) = refl

one_settled : (s : ℕ → ℕ → List ℤ → ℤ) (regs : List Outcome) (items : List Item) (tasks : List TaskTree) (r j : Result (List Item) PointFault)
    → ((items : List Item) → answer_of (after_all s (giving regs items) tasks) ≡ behind_items items j)
    → ((f : PointFault) → after_all s (failed regs items f) tasks ≡ failed regs items f)
    → answer_of (after_all s (settled regs items r) tasks) ≡ behind_items items (then_of r (λ xs. then_of j (λ ys. Ok (xs ++ ys))))
one_settled s regs items tasks (Ok more) j h k = h (items ++ more) ∙ joined_behind items more j
one_settled s regs items tasks (Err f) j h k = ap answer_of (k f)

all_settled : (s : ℕ → ℕ → List ℤ → ℤ) (steps : List StepsTree) (before : List Outcome) (first : ℕ) (choices : List Choice) (items : List Item) → first ≡ length before
    → answer_of (after_all s (giving (before ++ all_registers s steps choices) items) (all_outs steps first choices))
    ≡ behind_items items (joined (map (λ (c : Choice). choice_planned s c.coverages (slice_get steps c.steps)) choices))
all_settled s steps before first [] items f = ap Ok (sym (append-nil items))
all_settled s steps before first (c ∷ choices) items f =
    let o = slice_get steps c.steps in
    let own = own_registers s c.coverages o in
    let more = all_registers s steps choices in
    let regs = before ++ (own ++ more) in
    let next = all_outs steps (first + register_count o) choices in
    let n = length-own s c.coverages o in
    let read : take (register_count o) (drop first regs) ≡ own = ap (λ k. take k (drop first regs)) (sym n) ∙ ap (λ k. take (length own) (drop k regs)) f ∙ middle before own more in
    let rest = λ (items : List Item).
    ap (λ r. answer_of (after_all s (giving r items) next)) (sym (append_assoc before own more))
    ∙ all_settled s steps (before ++ own) (first + register_count o) choices items (let k = length-append before own in omega (arith, k, n, f)) in
    ap answer_of (after_append s (giving regs items) (choice_outs c.coverages first o) next)
    ∙ ap (λ g. answer_of (after_all s g next)) (choice_settled s c.coverages regs items first o read)
    ∙ one_settled s regs items next (choice_planned s c.coverages o) (joined (map (λ (c : Choice). choice_planned s c.coverages (slice_get steps c.steps)) choices)) rest (λ e. all_failed s steps regs items e (first + register_count o) choices)

behind_none : (r : Result (List Item) PointFault) → behind_items [] r ≡ r
behind_none (Ok items) = refl
behind_none (Err f) = refl

-- all tasks give what the plan gives
pub tasks_answer : (s : ℕ → ℕ → List ℤ → ℤ) (plan : PlanTree) → answer_of (after_all s start (tasks_of plan)) ≡ planned s plan
tasks_answer s plan =
    ap answer_of (after_append s start (all_passes plan.steps 0 plan.combinations) (all_outs plan.steps 0 plan.combinations))
    ∙ ap (λ g. answer_of (after_all s g (all_outs plan.steps 0 plan.combinations))) (all_done s plan.steps [] 0 plan.combinations refl)
    ∙ all_settled s plan.steps [] 0 plan.combinations [] refl
    ∙ behind_none (planned s plan)
