-- What is kept of a unit.
use Rattle.std.proofs.Common.{◌≡◌, ℕ, zero, suc, ◌+◌, ◌<◌, ◌≤◌, ◌^◌, List, [], ◌∷◌, ◌++◌, length, ℤ, drop, refl, sym, ap, ◌∙◌, subst, arith, length-append, Bool, true, false, Option, Vec, Global, inl, inr}
use Rattle.std.specs.Prelude.{vec_capacity, Result}
use Rattle.std.specs.List.{flat_map}
use Rattle.arr_core.specs.declared.domain.Axis.{Axis}
use Rattle.arr_core.specs.declared.signature.Signature.{Signature}
use Rattle.arr_core.specs.Domains.{points, IsDomain}
use Rattle.arr_core.specs.Tiles.{tile_boxes, tile_box}
use Rattle.wcps_mean.specs.declared.cell.PointFault.{PointFault}
use Rattle.wcps_mean.specs.declared.cell.Outcome.{Outcome}
use Rattle.wcps_mean.specs.declared.item.Item.{Item}
use Rattle.plan_ir.specs.declared.plan.Plan.{Plan}
use Rattle.plan_ir.specs.Bodies.{Tree}
use Rattle.plan_ir.specs.Plans.{PassTree, ItemTree, signature_of}
use Rattle.plan_ir.specs.Run.{run}
use Rattle.plan_ir.specs.Planned.{pass_outcome, item_planned, cells_of}
use Rattle.tile_kernel.specs.declared.accumulator.Accumulator.{Accumulator}
use Rattle.tile_kernel.specs.Told.{Told, ComesTo}
use Rattle.tile_kernel.specs.Standing.{Stands}
use Rattle.tile_exec.specs.declared.task.Status.{Status}
use Rattle.tile_exec.specs.declared.task.Status.TheVariants.{Giving, Skipping, Failed}
use Rattle.tile_exec.specs.declared.task.Task.{Task}
use Rattle.tile_exec.specs.declared.found.Found.TheVariants as found
use Rattle.tile_exec.specs.declared.state.State.{State}
use Rattle.tile_exec.specs.Tasks.{PartTree, TaskTree, pass, condition, item, fieldless, area_of, stages_of, AreReady, IsPartPlaced, registers_made}
use Rattle.tile_exec.specs.Progress.{Progress, read_by, after_part, after_condition, after_item}
use Rattle.tile_columns.specs.TileOrder.{points_to}
use Rattle.tile_exec.specs.Passes.{told_to_pass}
use Rattle.tile_exec.specs.Standing.{plan_of, tasks_left, progress_of, HasRoom, IsSound, IsUnder, IsAt, HasCells, AtItem, AtPart, AtTask, AreTasks}
use Rattle.tile_exec.specs.Units.{Fits, FitsPart, TellsTask, TellsPart, IsLast, IsNotGiven, AfterSkipped, LosesFirst, Keeps}
use Rattle.tile_columns.proofs.TileOrders.{told_more, points_more, points_few, tiles-few}
use Rattle.tile_exec.proofs.Moves.{drop_none, stages_more, GoesOn, GoesFurther, sound_next, stands_next, boxes_next, sound_further, stands_further, boxes_further, at_hand, stands_at}
use Rattle.tile_exec.proofs.Passes.{passed}

domain_bound : (area : List Axis) → IsDomain area → length (tile_boxes area) ≤ 2 ^ 24
domain_bound area d = let k = tiles-few area in let n = d.few_points in omega (arith, k, n)

tiles_bound : (cs : ℕ → Option Signature) (n : ℕ) (p : PartTree) → IsPartPlaced cs n p → length (tile_boxes (area_of p)) ≤ 2 ^ 24
tiles_bound cs n (pass p) h = domain_bound p.domain h.0
tiles_bound cs n (condition c) h = omega arith
tiles_bound cs n (item i) h = domain_bound i.domain h.0
tiles_bound cs n (fieldless i) h = omega arith

-- the task at hand is a pass, of which a tile was found
pub record PassAt (e : State) (last : Bool) (a : Accumulator) : Type 0 where
  pub task : TaskTree
  pub tasks : List TaskTree
  pub pass_tree : PassTree
  pub hand : tasks_left e ≡ task ∷ tasks
  pub is : task.part ≡ pass pass_tree
  pub last_tile : IsLast last e.tile (length (tile_boxes pass_tree.domain))
  pub op : a.running.op ≡ pass_tree.op
  pub few : a.running.count ≤ length (points (tile_box pass_tree.domain e.tile))

pass_in : (e : State) (last : Bool) (a : Accumulator) (task : TaskTree) (tasks : List TaskTree) (p : PartTree) → tasks_left e ≡ task ∷ tasks → task.part ≡ p
    → IsLast last e.tile (length (tile_boxes (area_of p))) → FitsPart e.tile e.status p (found.Pass a) → PassAt e last a
pass_in e last a task tasks (pass p) h is l f = record { task = task; tasks = tasks; pass_tree = p; hand = h; is = is; last_tile = l; op = f.0; few = f.1 }
pass_in e last a task tasks (condition c) h is l f = absurd f
pass_in e last a task tasks (item i) h is l f = absurd f
pass_in e last a task tasks (fieldless i) h is l f = absurd f

pass_among : (e : State) (last : Bool) (a : Accumulator) (ts : List TaskTree) → tasks_left e ≡ ts → Fits e ts last (found.Pass a) → PassAt e last a
pass_among e last a [] h f = absurd f
pass_among e last a (t ∷ ts) h f = pass_in e last a t ts t.part h refl f.0 f.1

pub pass_at : (e : State) (last : Bool) (a : Accumulator) → Fits e (tasks_left e) last (found.Pass a) → PassAt e last a
pass_at e last a f = pass_among e last a (tasks_left e) refl f

-- the task at hand has its place
pub placed_at : (e : State) (t : TaskTree) (ts : List TaskTree) → tasks_left e ≡ t ∷ ts → IsSound e → (t.first + t.count ≤ length e.registers.items) × IsPartPlaced (signature_of (plan_of e).coverages t.coverages) t.count t.part
placed_at e t ts h sound = let r = subst (AreReady (plan_of e).coverages (length e.registers.items)) h sound.ready in (r.0, r.1)

pub pass_domain : (e : State) (last : Bool) (a : Accumulator) (x : PassAt e last a) → IsSound e → IsDomain x.pass_tree.domain
pass_domain e last a x sound =
    let p = (placed_at e x.task x.tasks x.hand sound).1 in
    (subst (IsPartPlaced (signature_of (plan_of e).coverages x.task.coverages) x.task.count) x.is p).0

pub pass_under : (e : State) (last : Bool) (a : Accumulator) (x : PassAt e last a) → IsSound e → (e.tile < length (tile_boxes x.pass_tree.domain)) × IsUnder (pass x.pass_tree) e
pass_under e last a x sound = let h = at_hand e x.task x.tasks x.hand sound in (subst (λ p. e.tile < length (tile_boxes (area_of p))) x.is h.0, subst (λ p. IsUnder p e) x.is h.1)

-- the points told are few
pub pass_few : (e : State) (last : Bool) (a : Accumulator) (x : PassAt e last a) (n : ℕ) → IsSound e → n ≤ length (points_to x.pass_tree.domain e.tile) → (n + a.running.count ≤ 2 ^ 24) × (n + a.running.count ≤ length (points_to x.pass_tree.domain (e.tile + 1)))
pass_few e last a x n sound h =
    let area = x.pass_tree.domain in
    let u = pass_under e last a x sound in
    let more = ap length (points_more area e.tile u.0) in
    let sum = length-append (points_to area e.tile) (points (tile_box area e.tile)) in
    let few = points_few area (e.tile + 1) (pass_domain e last a x sound) in
    let own = x.few in
    (omega (arith, h, more, sum, few, own), omega (arith, h, more, sum, own))

-- the executor after one more tile of a pass that has more
pub pass_further : (e : State) (a m : Accumulator) (l : ℕ) → IsSound e → Fits e (tasks_left e) false (found.Pass a) → l + 1 ≡ e.left
    → m.running.op ≡ a.running.op
    → ((n : ℕ) → (0 < e.tile → e.accumulator.running.count ≤ n) → m.running.count ≤ n + a.running.count)
    → ((told : ℕ → List Told) (more : List Told) → told 0 ≡ [] → (0 < e.tile → Stands e.accumulator (told e.tile)) → Stands a more → Stands m (told e.tile ++ more))
    → Keeps e (record e { accumulator = m; tile = e.tile + 1; left = l }) (found.Pass a)
pass_further e a m l sound fits left op counted stands =
    let x = pass_at e false a fits in
    let p = x.pass_tree in
    let u = pass_under e false a x sound in
    let d = record e { accumulator = m; tile = e.tile + 1; left = l } in
    let below : e.tile + 1 < length (tile_boxes (area_of x.task.part)) = subst (λ p. e.tile + 1 < length (tile_boxes (area_of p))) (sym x.is) x.last_tile in
    let g : GoesFurther e d x.task x.tasks = record { hand = x.hand; plan = refl; tasks = refl; at = refl; tile = refl; left = left; below = below; registers = refl; items = refl; status = refl } in
    let few = pass_few e false a x (length (points_to p.domain e.tile)) sound (omega arith) in
    let count = counted (length (points_to p.domain e.tile)) (λ k. (u.1 k).1) in
    let under : IsUnder x.task.part d = subst (λ p. IsUnder p d) (sym x.is) (λ k. (op ∙ x.op, omega (arith, few.1, count))) in
    record {
      sound = sound_further e d x.task x.tasks g under sound;
      plan = refl;
      left = left;
      boxes = boxes_further e d x.task x.tasks g;
      stands = λ s st t.
          let c = cells_of s x.task.coverages in
          let regs = read_by x.task e.registers.items in
          let told = λ (k : ℕ). flat_map (told_to_pass c regs p) (points_to p.domain k) in
          let now : AtPart c regs e (pass p) = subst (AtPart c regs e) x.is (stands_at s e x.task x.tasks x.hand st) in
          let here : TellsPart c regs e.tile (pass p) (found.Pass a) = subst (λ q. TellsPart c regs e.tile q (found.Pass a)) x.is (subst (λ l. TellsTask s e l (found.Pass a)) x.hand t) in
          let all = subst (Stands m) (sym (told_more (told_to_pass c regs p) p.domain e.tile u.0)) (stands told (flat_map (told_to_pass c regs p) (points (tile_box p.domain e.tile))) refl now here) in
          stands_further s e d x.task x.tasks g (subst (AtPart c regs d) (sym x.is) (λ k. all)) st;
    }

-- the executor after the last tile of a pass
pub pass_next : (e : State) (a m w : Accumulator) (v : Vec Outcome Global) (o : Outcome) (l : ℕ) → IsSound e → Fits e (tasks_left e) true (found.Pass a) → l + 1 ≡ e.left
    → m.running.op ≡ a.running.op
    → ((told : ℕ → List Told) (more : List Told) → told 0 ≡ [] → (0 < e.tile → Stands e.accumulator (told e.tile)) → Stands a more → Stands m (told e.tile ++ more))
    → ((told : List Told) → Stands m told → ComesTo m.running.op told o)
    → v.items ≡ e.registers.items ++ o ∷ [] → vec_capacity e.registers ≤ vec_capacity v
    → Keeps e (record e { accumulator = w; registers = v; at = e.at + 1; tile = 0; left = l }) (found.Pass a)
pass_next e a m w v o l sound fits left op stands comes items room =
    let x = pass_at e true a fits in
    let p = x.pass_tree in
    let u = pass_under e true a x sound in
    let d = record e { accumulator = w; registers = v; at = e.at + 1; tile = 0; left = l } in
    let last : e.tile + 1 ≡ length (tile_boxes (area_of x.task.part)) = subst (λ p. e.tile + 1 ≡ length (tile_boxes (area_of p))) (sym x.is) x.last_tile in
    let g : GoesOn e d x.task x.tasks = record { hand = x.hand; plan = refl; tasks = refl; at = refl; tile = refl; left = left; last = last } in
    let n = ap length items in
    let n2 = length-append e.registers.items (o ∷ []) in
    let had = sound.room in
    let had_registers = had.registers in
    let had_items = had.items in
    let k = ap length x.hand in
    let more : HasRoom d (length x.tasks) = record { registers = omega (arith, n, n2, had_registers, room, k); items = omega (arith, had_items, k) } in
    let made : length v.items ≡ length e.registers.items + 1 = omega (arith, n, n2) in
    record {
      sound = sound_next e d x.task x.tasks g (subst (λ p. length v.items ≡ length e.registers.items + registers_made p) (sym x.is) made) more sound;
      plan = refl;
      left = left;
      boxes = boxes_next e d x.task x.tasks g;
      stands = λ s st t.
          let c = cells_of s x.task.coverages in
          let regs = read_by x.task e.registers.items in
          let told = λ (k : ℕ). flat_map (told_to_pass c regs p) (points_to p.domain k) in
          let now : AtPart c regs e (pass p) = subst (AtPart c regs e) x.is (stands_at s e x.task x.tasks x.hand st) in
          let here : TellsPart c regs e.tile (pass p) (found.Pass a) = subst (λ q. TellsPart c regs e.tile q (found.Pass a)) x.is (subst (λ l. TellsTask s e l (found.Pass a)) x.hand t) in
          let all = subst (Stands m) (sym (told_more (told_to_pass c regs p) p.domain e.tile u.0)) (stands told (flat_map (told_to_pass c regs p) (points (tile_box p.domain e.tile))) refl now here) in
          let whole = subst (λ k. Stands m (told k)) x.last_tile all in
          let out : o ≡ pass_outcome c regs p = passed c regs p o (pass_domain e true a x sound) (subst (λ q. ComesTo q (told (length (tile_boxes p.domain))) o) (op ∙ x.op) (comes (told (length (tile_boxes p.domain))) whole)) in
          let regs_now : v.items ≡ e.registers.items ++ pass_outcome c regs p ∷ [] = items ∙ ap (λ o. e.registers.items ++ o ∷ []) out in
          stands_next s e d x.task x.tasks g (ap (λ r. record { registers = r; items = e.items.items; status = e.status }) regs_now ∙ ap (after_part c regs (progress_of e)) (sym x.is)) st;
    }

-- a unit is left where a task is
pub some_left : (e : State) (t : TaskTree) (ts : List TaskTree) → tasks_left e ≡ t ∷ ts → IsSound e → 1 ≤ e.left
some_left e t ts h sound =
    let a = at_hand e t ts h sound in
    let lt = a.0 in
    let k = stages_more t ts in
    let l = ap (λ l. length (flat_map stages_of l)) h in
    elim sound.left [ inl e1 ↦ omega (arith, lt, k, l, e1) | inr e2 ↦ (let e3 = e2.0 in absurd (omega (arith, e3, k, l, lt))) ]

-- tiles are few
pub tile_small : (e : State) (t : TaskTree) (ts : List TaskTree) → tasks_left e ≡ t ∷ ts → IsSound e → e.tile + 1 < 2 ^ 64
tile_small e t ts h sound =
    let a = at_hand e t ts h sound in
    let lt = a.0 in
    let k = tiles_bound (signature_of (plan_of e).coverages t.coverages) t.count t.part (placed_at e t ts h sound).1 in
    omega (arith, lt, k)

tasks_within : (plan : Plan) (n : ℕ) (xs : List Task) (t : TaskTree) (ts : List TaskTree) → AreTasks plan (drop n xs) (t ∷ ts) → n < length xs
tasks_within plan zero [] t ts h = absurd h
tasks_within plan (suc n) [] t ts h = absurd h
tasks_within plan zero (x ∷ xs) t ts h = omega arith
tasks_within plan (suc n) (x ∷ xs) t ts h = let k = tasks_within plan n xs t ts h in omega (arith, k)

-- the task at hand is one of the tasks by places
pub tasks_small : (e : State) (t : TaskTree) (ts : List TaskTree) → tasks_left e ≡ t ∷ ts → IsSound e → e.at < length e.tasks.items
tasks_small e t ts h sound = tasks_within e.plan e.at e.tasks.items t ts (subst (AreTasks e.plan (drop e.at e.tasks.items)) h sound.tasks)

-- the task at hand is a condition
pub record ConditionAt (e : State) : Type 0 where
  pub task : TaskTree
  pub tasks : List TaskTree
  pub tree : Tree
  pub hand : tasks_left e ≡ task ∷ tasks
  pub is : task.part ≡ condition tree

condition_in : (e : State) (o : Outcome) (task : TaskTree) (tasks : List TaskTree) (p : PartTree) → tasks_left e ≡ task ∷ tasks → task.part ≡ p → FitsPart e.tile e.status p (found.Condition o) → ConditionAt e
condition_in e o task tasks (pass p) h is f = absurd f
condition_in e o task tasks (condition c) h is f = record { task = task; tasks = tasks; tree = c; hand = h; is = is }
condition_in e o task tasks (item i) h is f = absurd f
condition_in e o task tasks (fieldless i) h is f = absurd f

condition_among : (e : State) (last : Bool) (o : Outcome) (ts : List TaskTree) → tasks_left e ≡ ts → Fits e ts last (found.Condition o) → ConditionAt e
condition_among e last o [] h f = absurd f
condition_among e last o (t ∷ ts) h f = condition_in e o t ts t.part h refl f.1

pub condition_at : (e : State) (last : Bool) (o : Outcome) → Fits e (tasks_left e) last (found.Condition o) → ConditionAt e
condition_at e last o f = condition_among e last o (tasks_left e) refl f

-- room for what the further tasks give, where nothing was added
room_after : (e d : State) (t : TaskTree) (ts : List TaskTree) → tasks_left e ≡ t ∷ ts → d.registers ≡ e.registers → d.items ≡ e.items → HasRoom e (length (tasks_left e)) → HasRoom d (length ts)
room_after e d t ts h r i room =
    let k = ap length h in
    let a = room.registers in
    let b = room.items in
    record {
      registers = subst (λ v. length v.items + length ts ≤ vec_capacity v) (sym r) (omega (arith, a, k));
      items = subst (λ v. length v.items + length ts ≤ vec_capacity v) (sym i) (omega (arith, b, k));
    }

-- the executor after a condition
pub condition_next : (e : State) (o : Outcome) (st : Status) (l : ℕ) → IsSound e → ConditionAt e → l + 1 ≡ e.left → st ≡ after_condition e.status o
    → Keeps e (record e { status = st; at = e.at + 1; tile = 0; left = l }) (found.Condition o)
condition_next e o st l sound x left tested =
    let d = record e { status = st; at = e.at + 1; tile = 0; left = l } in
    let h = at_hand e x.task x.tasks x.hand sound in
    let lt : e.tile < length (tile_boxes []) = subst (λ p. e.tile < length (tile_boxes (area_of p))) x.is h.0 in
    let last : e.tile + 1 ≡ length (tile_boxes (area_of x.task.part)) = subst (λ p. e.tile + 1 ≡ length (tile_boxes (area_of p))) (sym x.is) (omega (arith, lt)) in
    let g : GoesOn e d x.task x.tasks = record { hand = x.hand; plan = refl; tasks = refl; at = refl; tile = refl; left = left; last = last } in
    record {
      sound = sound_next e d x.task x.tasks g (subst (λ p. length e.registers.items ≡ length e.registers.items + registers_made p) (sym x.is) (omega arith)) (room_after e d x.task x.tasks x.hand refl refl sound.room) sound;
      plan = refl;
      left = left;
      boxes = boxes_next e d x.task x.tasks g;
      stands = λ s stands t.
          let c = cells_of s x.task.coverages in
          let regs = read_by x.task e.registers.items in
          let here : o ≡ run c regs x.tree [] = subst (λ q. TellsPart c regs e.tile q (found.Condition o)) x.is (subst (λ l. TellsTask s e l (found.Condition o)) x.hand t) in
          stands_next s e d x.task x.tasks g (ap (λ x. record { registers = e.registers.items; items = e.items.items; status = x }) (tested ∙ ap (after_condition e.status) here) ∙ ap (after_part c regs (progress_of e)) (sym x.is)) stands;
    }

tasks_past : (plan : Plan) (n : ℕ) (xs : List Task) → AreTasks plan (drop n xs) [] → length xs ≤ n
tasks_past plan zero [] h = omega arith
tasks_past plan (suc n) [] h = omega arith
tasks_past plan zero (x ∷ xs) h = absurd h
tasks_past plan (suc n) (x ∷ xs) h = let k = tasks_past plan n xs h in omega (arith, k)

none_among : (e : State) (ts : List TaskTree) → tasks_left e ≡ ts → IsSound e → length e.tasks.items ≤ e.at → tasks_left e ≡ []
none_among e [] h sound le = h
none_among e (t ∷ ts) h sound le = let k = tasks_small e t ts h sound in absurd (omega (arith, k, le))

pub none_left : (e : State) → IsSound e → length e.tasks.items ≤ e.at → tasks_left e ≡ []
none_left e sound le = none_among e (tasks_left e) refl sound le

-- the executor after a unit that does nothing, where no task is left
pub idle : (e : State) (l : ℕ) → IsSound e → l + 1 ≡ e.left → tasks_left e ≡ [] → Keeps e (record e { left = l }) found.Skipped
idle e l sound left none =
    let d = record e { left = l } in
    let room = sound.room in
    let z : e.tile ≡ 0 = subst (λ ts. IsAt ts e) none sound.at_hand in
    let n : length (flat_map stages_of (tasks_left e)) ≡ 0 = ap (λ ts. length (flat_map stages_of ts)) none in
    let empty : drop e.tile (flat_map stages_of (tasks_left e)) ≡ [] = ap (λ ts. drop e.tile (flat_map stages_of ts)) none ∙ drop_none e.tile in
    record {
      sound = record {
        tasks = sound.tasks;
        ready = sound.ready;
        at_hand = subst (λ ts. IsAt ts d) (sym none) z;
        room = record { registers = room.registers; items = room.items };
        left = inr (n, z);
      };
      plan = refl;
      left = left;
      boxes = subst (λ bs. LosesFirst bs bs) (sym empty) refl;
      stands = λ s st t. record { progress = st.progress; at_hand = subst (AtTask s d) (sym none) tt };
    }

no_cells : (i : ItemTree) (e : State) (st : Status) → IsNotGiven st → HasCells i e st
no_cells i e Giving h = absurd h
no_cells i e Skipping h = tt
no_cells i e (Failed f) h = tt

no_item : (s : ℕ → ℕ → List ℤ → ℤ) (regs : List Outcome) (i : ItemTree) (e : State) (st : Status) → IsNotGiven st → AtItem s regs i e st
no_item s regs i e Giving h = absurd h
no_item s regs i e Skipping h = tt
no_item s regs i e (Failed f) h = tt

-- a part that gives an item, with fields or without
pub record GivesItem (p : PartTree) (tree : ItemTree) : Type 0 where
  pub after : (s : ℕ → ℕ → List ℤ → ℤ) (regs : List Outcome) (g : Progress) → after_part s regs g p ≡ after_item g g.status (item_planned s regs tree)
  pub made : registers_made p ≡ 0
  pub under : (e : State) → IsNotGiven e.status → IsUnder p e
  pub at : (s : ℕ → ℕ → List ℤ → ℤ) (regs : List Outcome) (e : State) → IsNotGiven e.status → AtPart s regs e p

item_gives : (i : ItemTree) → GivesItem (item i) i
item_gives i = record { after = λ s regs g. refl; made = refl; under = λ e n. no_cells i e e.status n; at = λ s regs e n. no_item s regs i e e.status n }

fieldless_gives : (i : ItemTree) → GivesItem (fieldless i) i
fieldless_gives i = record { after = λ s regs g. refl; made = refl; under = λ e n. tt; at = λ s regs e n. tt }

-- the task at hand is an item that is not given
pub record SkippedAt (e : State) (last : Bool) : Type 0 where
  pub task : TaskTree
  pub tasks : List TaskTree
  pub tree : ItemTree
  pub hand : tasks_left e ≡ task ∷ tasks
  pub gives : GivesItem task.part tree
  pub last_tile : IsLast last e.tile (length (tile_boxes (area_of task.part)))
  pub not_given : IsNotGiven e.status

skipped_in : (e : State) (last : Bool) (task : TaskTree) (tasks : List TaskTree) (p : PartTree) → tasks_left e ≡ task ∷ tasks → task.part ≡ p
    → IsLast last e.tile (length (tile_boxes (area_of task.part))) → FitsPart e.tile e.status p found.Skipped → SkippedAt e last
skipped_in e last task tasks (pass p) h is l f = absurd f
skipped_in e last task tasks (condition c) h is l f = absurd f
skipped_in e last task tasks (item i) h is l f =
    record { task = task; tasks = tasks; tree = i; hand = h; gives = subst (λ p. GivesItem p i) (sym is) (item_gives i); last_tile = l; not_given = f }
skipped_in e last task tasks (fieldless i) h is l f =
    record { task = task; tasks = tasks; tree = i; hand = h; gives = subst (λ p. GivesItem p i) (sym is) (fieldless_gives i); last_tile = l; not_given = f }

skipped_among : (e : State) (last : Bool) (ts : List TaskTree) → tasks_left e ≡ ts → IsSound e → e.at < length e.tasks.items → Fits e ts last found.Skipped → SkippedAt e last
skipped_among e last [] h sound lt f = let k = tasks_past e.plan e.at e.tasks.items (subst (AreTasks e.plan (drop e.at e.tasks.items)) h sound.tasks) in absurd (omega (arith, k, lt))
skipped_among e last (t ∷ ts) h sound lt f = skipped_in e last t ts t.part h refl f.0 f.1

pub skipped_at : (e : State) (last : Bool) → IsSound e → e.at < length e.tasks.items → Fits e (tasks_left e) last found.Skipped → SkippedAt e last
skipped_at e last sound lt f = skipped_among e last (tasks_left e) refl sound lt f

after_skipped : (regs : List Outcome) (items : List Item) (st now : Status) (r : Result Item PointFault) → IsNotGiven st → AfterSkipped st now
    → record { registers = regs; items = items; status = now } ≡ after_item (record { registers = regs; items = items; status = st }) st r
after_skipped regs items Giving now r n h = absurd n
after_skipped regs items Skipping now r n h = ap (λ x. record { registers = regs; items = items; status = x }) h
after_skipped regs items (Failed f) now r n h = ap (λ x. record { registers = regs; items = items; status = x }) h

pub skipped_next : (e : State) (st : Status) (l : ℕ) → IsSound e → SkippedAt e true → l + 1 ≡ e.left → AfterSkipped e.status st
    → Keeps e (record e { status = st; at = e.at + 1; tile = 0; left = l }) found.Skipped
skipped_next e st l sound x left h =
    let d = record e { status = st; at = e.at + 1; tile = 0; left = l } in
    let g : GoesOn e d x.task x.tasks = record { hand = x.hand; plan = refl; tasks = refl; at = refl; tile = refl; left = left; last = x.last_tile } in
    let given = x.gives in
    let made = given.made in
    record {
      sound = sound_next e d x.task x.tasks g (omega (arith, made)) (room_after e d x.task x.tasks x.hand refl refl sound.room) sound;
      plan = refl;
      left = left;
      boxes = boxes_next e d x.task x.tasks g;
      stands = λ s stands t.
          let c = cells_of s x.task.coverages in
          let regs = read_by x.task e.registers.items in
          stands_next s e d x.task x.tasks g (after_skipped e.registers.items e.items.items e.status st (item_planned c regs x.tree) x.not_given h ∙ sym (given.after c regs (progress_of e))) stands;
    }

pub skipped_further : (e : State) (l : ℕ) → IsSound e → SkippedAt e false → l + 1 ≡ e.left → Keeps e (record e { tile = e.tile + 1; left = l }) found.Skipped
skipped_further e l sound x left =
    let d = record e { tile = e.tile + 1; left = l } in
    let g : GoesFurther e d x.task x.tasks = record { hand = x.hand; plan = refl; tasks = refl; at = refl; tile = refl; left = left; below = x.last_tile; registers = refl; items = refl; status = refl } in
    let given = x.gives in
    record {
      sound = sound_further e d x.task x.tasks g (given.under d x.not_given) sound;
      plan = refl;
      left = left;
      boxes = boxes_further e d x.task x.tasks g;
      stands = λ s st t.
          let c = cells_of s x.task.coverages in
          let regs = read_by x.task e.registers.items in
          stands_further s e d x.task x.tasks g (given.at c regs d x.not_given) st;
    }
