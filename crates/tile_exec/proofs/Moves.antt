-- From one unit to the next.
use Rattle.std.proofs.Common.{◌≡◌, ℕ, zero, suc, ◌+◌, ◌<◌, ◌≤◌, List, [], ◌∷◌, ◌++◌, length, take, drop, refl, sym, ap, ◌∙◌, subst, arith, length-append, inl, inr}
use Rattle.std.specs.Prelude.{vec_capacity}
use Rattle.std.specs.List.{flat_map}
use Rattle.std.proofs.lemmas.List.{length-map}
use Rattle.std.proofs.lemmas.List.Concat.{flat_map-cons}
use Rattle.arr_core.specs.Tiles.{tile_boxes}
use Rattle.wcps_mean.specs.declared.cell.Outcome.{Outcome}
use Rattle.plan_ir.specs.declared.plan.Plan.{Plan}
use Rattle.plan_ir.specs.Plans.{ItemTree, plan_view}
use Rattle.plan_ir.specs.Planned.{cells_of}
use Rattle.plan_ir.specs.Units.{Stage}
use Rattle.tile_exec.specs.declared.task.Status.{Status}
use Rattle.tile_exec.specs.declared.task.Status.TheVariants.{Giving, Skipping, Failed}
use Rattle.tile_exec.specs.declared.task.Task.{Task}
use Rattle.tile_exec.specs.declared.state.State.{State}
use Rattle.wcps_mean.specs.Reading.{CellsOf}
use Rattle.tile_exec.specs.Tasks.{PartTree, TaskTree, pass, condition, item, fieldless, area_of, stages_of, registers_made, tasks_of, AreReady}
use Rattle.tile_exec.specs.Progress.{start, read_by, after, after_all}
use Rattle.tile_exec.specs.Standing.{plan_of, tasks_done, tasks_left, boxes_left, progress_of, AtItem, AtPart, AtTask, StandsFor, HasCells, IsUnder, IsAt, AreTasks, IsLeft, HasRoom, IsSound}
use Rattle.tile_exec.specs.Units.{LosesFirst}
use Rattle.tile_columns.proofs.TileOrders.{tiles-pos}
use Rattle.tile_exec.proofs.Answers.{after_append}

take_next : {X : Type 0} (n : ℕ) (xs : List X) (y : X) (ys : List X) → drop n xs ≡ y ∷ ys → take (n + 1) xs ≡ take n xs ++ y ∷ []
take_next zero [] y ys h = cc
take_next (suc n) [] y ys h = cc
take_next zero (x ∷ xs) y ys h = let e : x ≡ y = cc in ap (λ z. z ∷ []) e
take_next (suc n) (x ∷ xs) y ys h = let e : suc n + 1 ≡ suc (n + 1) = omega arith in ap (λ k. take k (x ∷ xs)) e ∙ ap (λ l. x ∷ l) (take_next n xs y ys h)

drop_next : {X : Type 0} (n : ℕ) (xs : List X) (y : X) (ys : List X) → drop n xs ≡ y ∷ ys → drop (n + 1) xs ≡ ys
drop_next zero [] y ys h = cc
drop_next (suc n) [] y ys h = cc
drop_next zero (x ∷ xs) y ys h = cc
drop_next (suc n) (x ∷ xs) y ys h = let e : suc n + 1 ≡ suc (n + 1) = omega arith in ap (λ k. drop k (x ∷ xs)) e ∙ drop_next n xs y ys h

pub drop_front : {X : Type 0} (n : ℕ) (xs ys : List X) → n ≡ length xs → drop n (xs ++ ys) ≡ ys
drop_front zero [] ys h = refl
drop_front (suc n) [] ys h = absurd (omega arith)
drop_front zero (x ∷ xs) ys h = absurd (omega arith)
drop_front (suc n) (x ∷ xs) ys h = drop_front n xs ys (omega arith)

pub drop_none : (n : ℕ) → drop {A = Stage} n [] ≡ []
drop_none zero = refl
drop_none (suc n) = refl

pub loses_drop : (n : ℕ) (xs : List Stage) → LosesFirst (drop n xs) (drop (n + 1) xs)
loses_drop zero [] = refl
loses_drop (suc n) [] = drop_none (suc n + 1)
loses_drop zero (x ∷ xs) = refl
loses_drop (suc n) (x ∷ xs) = let e : suc n + 1 ≡ suc (n + 1) = omega arith in subst (λ k. LosesFirst (drop n xs) (drop k (x ∷ xs))) (sym e) (loses_drop n xs)

-- the tasks by places go on with those that are left
pub tasks_next : (plan : Plan) (n : ℕ) (xs : List Task) (t : TaskTree) (ts : List TaskTree) → AreTasks plan (drop n xs) (t ∷ ts) → AreTasks plan (drop (n + 1) xs) ts
tasks_next plan zero [] t ts h = absurd h
tasks_next plan (suc n) [] t ts h = absurd h
tasks_next plan zero (x ∷ xs) t ts h = h.1
tasks_next plan (suc n) (x ∷ xs) t ts h = let e : suc n + 1 ≡ suc (n + 1) = omega arith in subst (λ k. AreTasks plan (drop k (x ∷ xs)) ts) (sym e) (tasks_next plan n xs t ts h)

pub stages_more : (t : TaskTree) (ts : List TaskTree) → length (flat_map stages_of (t ∷ ts)) ≡ length (tile_boxes (area_of t.part)) + length (flat_map stages_of ts)
stages_more t ts =
    let a = ap length (flat_map-cons stages_of t ts) in
    let b = length-append (stages_of t) (flat_map stages_of ts) in
    let c : length (stages_of t) ≡ length (tile_boxes (area_of t.part)) = length-map (tile_boxes (area_of t.part)) _ in
    omega (arith, a, b, c)

cells_start : (i : ItemTree) (e : State) (st : Status) → e.tile ≡ 0 → HasCells i e st
cells_start i e Giving z = λ lt. absurd (omega arith)
cells_start i e Skipping z = tt
cells_start i e (Failed f) z = tt

under_start : (p : PartTree) (e : State) → e.tile ≡ 0 → IsUnder p e
under_start (pass p) e z = λ lt. absurd (omega arith)
under_start (condition c) e z = tt
under_start (item i) e z = cells_start i e e.status z
under_start (fieldless i) e z = tt

pub at_start : (ts : List TaskTree) (e : State) → e.tile ≡ 0 → IsAt ts e
at_start [] e z = z
at_start (t ∷ ts) e z = ((let k = tiles-pos (area_of t.part) in omega (arith, k, z)), under_start t.part e z)

item_start : (s : CellsOf) (regs : List Outcome) (i : ItemTree) (e : State) (st : Status) → e.tile ≡ 0 → AtItem s regs i e st
item_start s regs i e Giving z = λ lt. absurd (omega arith)
item_start s regs i e Skipping z = tt
item_start s regs i e (Failed f) z = tt

part_start : (s : CellsOf) (regs : List Outcome) (e : State) (p : PartTree) → e.tile ≡ 0 → AtPart s regs e p
part_start s regs e (pass p) z = λ lt. absurd (omega arith)
part_start s regs e (condition c) z = tt
part_start s regs e (item i) z = item_start s regs i e e.status z
part_start s regs e (fieldless i) z = tt

pub stands_start : (s : CellsOf) (e : State) (ts : List TaskTree) → e.tile ≡ 0 → AtTask s e ts
stands_start s e [] z = tt
stands_start s e (t ∷ ts) z = part_start (cells_of s t.coverages) (read_by t e.registers.items) e t.part z

-- the executor goes on to the next task
pub record GoesOn (e d : State) (t : TaskTree) (ts : List TaskTree) : Type 0 where
  pub hand : tasks_left e ≡ t ∷ ts
  pub plan : d.plan ≡ e.plan
  pub tasks : d.tasks ≡ e.tasks
  pub at : d.at ≡ e.at + 1
  pub tile : d.tile ≡ 0
  pub left : d.left + 1 ≡ e.left
  pub last : e.tile + 1 ≡ length (tile_boxes (area_of t.part))

pub left_next : (e d : State) (t : TaskTree) (ts : List TaskTree) → GoesOn e d t ts → tasks_left d ≡ ts
left_next e d t ts g = ap (λ p. drop d.at (tasks_of (plan_view p))) g.plan ∙ ap (λ k. drop k (tasks_of (plan_of e))) g.at ∙ drop_next e.at (tasks_of (plan_of e)) t ts g.hand

pub sound_next : (e d : State) (t : TaskTree) (ts : List TaskTree) → GoesOn e d t ts → length d.registers.items ≡ length e.registers.items + registers_made t.part → HasRoom d (length ts) → IsSound e → IsSound d
sound_next e d t ts g n room h =
    let next = left_next e d t ts g in
    let tasks : AreTasks e.plan (drop e.at e.tasks.items) (t ∷ ts) = subst (AreTasks e.plan (drop e.at e.tasks.items)) g.hand h.tasks in
    let ready : AreReady (plan_of e).coverages (length e.registers.items) (t ∷ ts) = subst (AreReady (plan_of e).coverages (length e.registers.items)) g.hand h.ready in
    let more = subst (λ l. IsLeft e.left e.tile (length (flat_map stages_of l))) g.hand h.left in
    let k = stages_more t ts in
    let some = tiles-pos (area_of t.part) in
    let l = g.left in
    let z = g.tile in
    let last = g.last in
    record {
      tasks = subst (AreTasks d.plan (drop d.at d.tasks.items)) (sym next)
          (subst (λ p. AreTasks p (drop d.at d.tasks.items) ts) (sym g.plan) (subst (λ v. AreTasks e.plan (drop d.at v.items) ts) (sym g.tasks) (subst (λ k. AreTasks e.plan (drop k e.tasks.items) ts) (sym g.at) (tasks_next e.plan e.at e.tasks.items t ts tasks))));
      ready = subst (AreReady (plan_of d).coverages (length d.registers.items)) (sym next)
          (subst (λ p. AreReady (plan_view p).coverages (length d.registers.items) ts) (sym g.plan) (subst (λ k. AreReady (plan_of e).coverages k ts) (sym n) ready.2));
      at_hand = at_start (tasks_left d) d g.tile;
      room = subst (λ l. HasRoom d (length l)) (sym next) room;
      left = subst (λ l. IsLeft d.left d.tile (length (flat_map stages_of l))) (sym next)
          (elim more [ inl e1 ↦ inl (omega (arith, e1, k, l, z, last)) | inr e2 ↦ (let e3 = e2.0 in absurd (omega (arith, e3, k, some))) ]);
    }

pub stands_next : (s : CellsOf) (e d : State) (t : TaskTree) (ts : List TaskTree) → GoesOn e d t ts → progress_of d ≡ after s (progress_of e) t → StandsFor s e → StandsFor s d
stands_next s e d t ts g p st =
    let done : tasks_done d ≡ tasks_done e ++ t ∷ [] = ap (λ p. take d.at (tasks_of (plan_view p))) g.plan ∙ ap (λ k. take k (tasks_of (plan_of e))) g.at ∙ take_next e.at (tasks_of (plan_of e)) t ts g.hand in
    record {
      progress = p ∙ ap (λ x. after s x t) st.progress ∙ sym (after_append s start (tasks_done e) (t ∷ [])) ∙ ap (after_all s start) (sym done);
      at_hand = stands_start s d (tasks_left d) g.tile;
    }

pub boxes_next : (e d : State) (t : TaskTree) (ts : List TaskTree) → GoesOn e d t ts → LosesFirst (boxes_left e) (boxes_left d)
boxes_next e d t ts g =
    let next = left_next e d t ts g in
    let all = flat_map stages_of (tasks_left e) in
    let n : e.tile + 1 ≡ length (stages_of t) = g.last ∙ sym (length-map (tile_boxes (area_of t.part)) _) in
    let here : drop (e.tile + 1) all ≡ flat_map stages_of ts = ap (λ l. drop (e.tile + 1) (flat_map stages_of l)) g.hand ∙ ap (drop (e.tile + 1)) (flat_map-cons stages_of t ts) ∙ drop_front (e.tile + 1) (stages_of t) (flat_map stages_of ts) n in
    let there : boxes_left d ≡ flat_map stages_of ts = ap (λ l. drop d.tile (flat_map stages_of l)) next ∙ ap (λ k. drop k (flat_map stages_of ts)) g.tile in
    subst (LosesFirst (boxes_left e)) (here ∙ sym there) (loses_drop e.tile all)

-- the executor stays with its task
pub record GoesFurther (e d : State) (t : TaskTree) (ts : List TaskTree) : Type 0 where
  pub hand : tasks_left e ≡ t ∷ ts
  pub plan : d.plan ≡ e.plan
  pub tasks : d.tasks ≡ e.tasks
  pub at : d.at ≡ e.at
  pub tile : d.tile ≡ e.tile + 1
  pub left : d.left + 1 ≡ e.left
  pub below : e.tile + 1 < length (tile_boxes (area_of t.part))
  pub registers : d.registers ≡ e.registers
  pub items : d.items ≡ e.items
  pub status : d.status ≡ e.status

pub left_further : (e d : State) (t : TaskTree) (ts : List TaskTree) → GoesFurther e d t ts → tasks_left d ≡ tasks_left e
left_further e d t ts g = ap (λ p. drop d.at (tasks_of (plan_view p))) g.plan ∙ ap (λ k. drop k (tasks_of (plan_of e))) g.at

pub sound_further : (e d : State) (t : TaskTree) (ts : List TaskTree) → GoesFurther e d t ts → IsUnder t.part d → IsSound e → IsSound d
sound_further e d t ts g under h =
    let same = left_further e d t ts g in
    let l = g.left in
    let z = g.tile in
    let k = stages_more t ts in
    let some = tiles-pos (area_of t.part) in
    let room = h.room in
    record {
      tasks = subst (AreTasks d.plan (drop d.at d.tasks.items)) (sym same)
          (subst (λ p. AreTasks p (drop d.at d.tasks.items) (tasks_left e)) (sym g.plan) (subst (λ v. AreTasks e.plan (drop d.at v.items) (tasks_left e)) (sym g.tasks) (subst (λ k. AreTasks e.plan (drop k e.tasks.items) (tasks_left e)) (sym g.at) h.tasks)));
      ready = subst (AreReady (plan_of d).coverages (length d.registers.items)) (sym same)
          (subst (λ p. AreReady (plan_view p).coverages (length d.registers.items) (tasks_left e)) (sym g.plan) (subst (λ v. AreReady (plan_of e).coverages (length v.items) (tasks_left e)) (sym g.registers) h.ready));
      at_hand = subst (λ l. IsAt l d) (sym (same ∙ g.hand)) ((let b = g.below in omega (arith, z, b)), under);
      room = subst (λ l. HasRoom d (length l)) (sym same) record {
        registers = subst (λ v. length v.items + length (tasks_left e) ≤ vec_capacity v) (sym g.registers) room.registers;
        items = subst (λ v. length v.items + length (tasks_left e) ≤ vec_capacity v) (sym g.items) room.items;
      };
      left = subst (λ l. IsLeft d.left d.tile (length (flat_map stages_of l))) (sym same)
          (elim h.left [ inl e1 ↦ inl (omega (arith, e1, l, z)) | inr e2 ↦ (let e3 = e2.0 in let e4 = ap (λ l. length (flat_map stages_of l)) g.hand in absurd (omega (arith, e3, e4, k, some))) ]);
    }

pub stands_further : (s : CellsOf) (e d : State) (t : TaskTree) (ts : List TaskTree) → GoesFurther e d t ts → AtPart (cells_of s t.coverages) (read_by t e.registers.items) d t.part → StandsFor s e → StandsFor s d
stands_further s e d t ts g part st =
    let same = left_further e d t ts g in
    let done : tasks_done d ≡ tasks_done e = ap (λ p. take d.at (tasks_of (plan_view p))) g.plan ∙ ap (λ k. take k (tasks_of (plan_of e))) g.at in
    let progress : progress_of d ≡ progress_of e =
    ap (λ v. record { registers = v.items; items = d.items.items; status = d.status }) g.registers
    ∙ ap (λ v. record { registers = e.registers.items; items = v.items; status = d.status }) g.items
    ∙ ap (λ x. record { registers = e.registers.items; items = e.items.items; status = x }) g.status in
    record {
      progress = progress ∙ st.progress ∙ ap (after_all s start) (sym done);
      at_hand = subst (AtTask s d) (sym (same ∙ g.hand)) (subst (λ v. AtPart (cells_of s t.coverages) (read_by t v.items) d t.part) (sym g.registers) part);
    }

pub boxes_further : (e d : State) (t : TaskTree) (ts : List TaskTree) → GoesFurther e d t ts → LosesFirst (boxes_left e) (boxes_left d)
boxes_further e d t ts g =
    let same = left_further e d t ts g in
    let all = flat_map stages_of (tasks_left e) in
    let there : boxes_left d ≡ drop (e.tile + 1) all = ap (λ l. drop d.tile (flat_map stages_of l)) same ∙ ap (λ k. drop k all) g.tile in
    subst (LosesFirst (boxes_left e)) (sym there) (loses_drop e.tile all)

-- what is kept of the task at hand
pub at_hand : (e : State) (t : TaskTree) (ts : List TaskTree) → tasks_left e ≡ t ∷ ts → IsSound e → (e.tile < length (tile_boxes (area_of t.part))) × IsUnder t.part e
at_hand e t ts h sound = subst (λ l. IsAt l e) h sound.at_hand

pub stands_at : (s : CellsOf) (e : State) (t : TaskTree) (ts : List TaskTree) → tasks_left e ≡ t ∷ ts → StandsFor s e → AtPart (cells_of s t.coverages) (read_by t e.registers.items) e t.part
stands_at s e t ts h st = subst (AtTask s e) h st.at_hand
