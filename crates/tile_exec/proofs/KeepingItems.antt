-- What is kept of a tile of an item.
use Rattle.std.proofs.Common.{◌≡◌, ℕ, zero, suc, ◌+◌, ◌<◌, ◌≤◌, List, [], ◌∷◌, ◌++◌, length, ℤ, refl, sym, ap, ◌∙◌, subst, arith, Bool, true, false, Option, Some, None, Vec, Global, ◌⊎◌, inl, inr, length-append}
use Rattle.std.specs.Prelude.{vec_capacity, slice_get, Ok, Err}
use Rattle.std.specs.List.{flat_map}
use Rattle.std.proofs.lemmas.List.Elements.{All-nil}
use Rattle.arr_core.specs.declared.cell.Cell.{Cell}
use Rattle.arr_core.specs.Domains.{points, IsDomain}
use Rattle.arr_core.specs.Tiles.{tile_boxes, tile_box}
use Rattle.wcps_mean.specs.declared.cell.PointFault.{PointFault}
use Rattle.wcps_mean.specs.declared.cell.Outcome.{Outcome}
use Rattle.wcps_mean.specs.declared.item.Item.{Item}
use Rattle.wcps_mean.specs.Answer.{field_count}
use Rattle.plan_ir.specs.Plans.{ItemTree, signature_of}
use Rattle.plan_ir.specs.Planned.{item_planned, cells_of}
use Rattle.tile_kernel.specs.Joins.{HoldsOfBoth}
use Rattle.tile_kernel.specs.Told.{IsFirstOf}
use Rattle.tile_exec.specs.declared.task.Status.{Status}
use Rattle.tile_exec.specs.declared.task.Status.TheVariants.{Giving}
use Rattle.tile_kernel.specs.declared.first_fault.FirstFault.{FirstFault}
use Rattle.tile_exec.specs.declared.known.Known.{Known}
use Rattle.tile_exec.specs.declared.found.ItemTile.{ItemTile}
use Rattle.tile_exec.specs.declared.found.Found.TheVariants as found
use Rattle.tile_exec.specs.declared.state.State.{State}
use Rattle.tile_exec.specs.Tasks.{PartTree, TaskTree, pass, condition, item, fieldless, area_of, IsPartPlaced, registers_made}
use Rattle.tile_exec.specs.Progress.{read_by, after_part, after_item}
use Rattle.tile_columns.specs.TileOrder.{points_to}
use Rattle.tile_exec.specs.Items.{Fills, all_cells, told_to_item, places_of, AreWritten, AreWrittenTo, cell_count}
use Rattle.tile_exec.specs.Known.{IsKnown}
use Rattle.tile_exec.specs.Rows.{all_cells_told}
use Rattle.tile_exec.specs.Standing.{plan_of, tasks_left, progress_of, HasRoom, IsSound, IsUnder, HasCells, AtItem, AtPart}
use Rattle.tile_exec.specs.Units.{cells_placed, KnowsPartOf, Fits, FitsPart, FitsItem, BeginsTile, TellsTask, TellsPart, TellsItem, IsLast, GivesBy, Gives, Keeps}
use Rattle.tile_columns.proofs.TileOrders.{told_more}
use Rattle.tile_exec.proofs.Moves.{GoesOn, GoesFurther, sound_next, stands_next, boxes_next, sound_further, stands_further, boxes_further, at_hand, stands_at}
use Rattle.tile_exec.proofs.Keeping.{placed_at}
use Rattle.tile_exec.proofs.Items.{item_or, item_told}

-- the task at hand is an item, of which a tile was found
pub record ItemAt (e : State) (last : Bool) (x : ItemTile) : Type 0 where
  pub task : TaskTree
  pub tasks : List TaskTree
  pub tree : ItemTree
  pub hand : tasks_left e ≡ task ∷ tasks
  pub is : task.part ≡ item tree
  pub last_tile : IsLast last e.tile (length (tile_boxes tree.domain))
  pub fits : FitsItem tree e.tile e.status x

item_in : (e : State) (last : Bool) (x : ItemTile) (task : TaskTree) (tasks : List TaskTree) (p : PartTree) → tasks_left e ≡ task ∷ tasks → task.part ≡ p
    → IsLast last e.tile (length (tile_boxes (area_of p))) → FitsPart e.tile e.status p (found.Item x) → ItemAt e last x
item_in e last x task tasks (pass p) h is l f = absurd f
item_in e last x task tasks (condition c) h is l f = absurd f
item_in e last x task tasks (item i) h is l f = record { task = task; tasks = tasks; tree = i; hand = h; is = is; last_tile = l; fits = f }
item_in e last x task tasks (fieldless i) h is l f = absurd f

item_among : (e : State) (last : Bool) (x : ItemTile) (ts : List TaskTree) → tasks_left e ≡ ts → Fits e ts last (found.Item x) → ItemAt e last x
item_among e last x [] h f = absurd f
item_among e last x (t ∷ ts) h f = item_in e last x t ts t.part h refl f.0 f.1

pub item_at : (e : State) (last : Bool) (x : ItemTile) → Fits e (tasks_left e) last (found.Item x) → ItemAt e last x
item_at e last x f = item_among e last x (tasks_left e) refl f

-- where the item is given, what holds of it by its status
cells_given : (i : ItemTree) (e : State) (st : Status) → st ≡ Giving → HasCells i e st → 0 < e.tile → length e.cells.items ≡ cell_count i
cells_given i e st g h = subst (HasCells i e) g h

pub item_under : (e : State) (last : Bool) (x : ItemTile) (a : ItemAt e last x) → IsSound e → (e.tile < length (tile_boxes a.tree.domain)) × (0 < e.tile → length e.cells.items ≡ cell_count a.tree)
item_under e last x a sound =
    let h = at_hand e a.task a.tasks a.hand sound in
    let u : IsUnder (item a.tree) e = subst (λ p. IsUnder p e) a.is h.1 in
    (subst (λ p. e.tile < length (tile_boxes (area_of p))) a.is h.0, cells_given a.tree e e.status a.fits.giving u)

pub item_placed : (e : State) (last : Bool) (x : ItemTile) (a : ItemAt e last x) → IsSound e → IsDomain a.tree.domain × (0 < length a.tree.fields)
item_placed e last x a sound =
    let p = subst (IsPartPlaced (signature_of (plan_of e).coverages a.task.coverages) a.task.count) a.is (placed_at e a.task a.tasks a.hand sound).1 in
    (p.0, p.2)

some_or_zero : (n : ℕ) → (n ≡ 0) ⊎ (0 < n)
some_or_zero zero = inl refl
some_or_zero (suc n) = inr (omega arith)

-- how many cells there are before a tile
pub cells_before : (e : State) (last : Bool) (x : ItemTile) (a : ItemAt e last x) (before : List Cell) → IsSound e
    → (0 < e.tile → before ≡ e.cells.items) → (e.tile ≡ 0 → before ≡ x.fresh.items) → length before ≡ cell_count a.tree
cells_before e last x a before sound kept fresh =
    elim (some_or_zero e.tile) [
      | inl z ↦ ap length (fresh z) ∙ a.fits.fresh z
      | inr some ↦ ap length (kept some) ∙ (item_under e last x a sound).1 some
    ]

-- the cells that a tile tells, by lists that are its own
pub placed_so : (x : ItemTile) (places : List ℕ) (booleans : List Bool) (columns : List (List Outcome)) → places ≡ x.places.items → booleans ≡ x.booleans.items → columns ≡ x.columns.items
    → all_cells_told places booleans columns ≡ cells_placed x
placed_so x places booleans columns a b e =
    ap (λ l. all_cells_told l booleans columns) a ∙ ap (λ l. all_cells_told x.places.items l columns) b ∙ ap (λ l. all_cells_told x.places.items x.booleans.items l) e

-- what a tile is found to tell, and what was told before it
pub record ItemKept (e : State) (x : ItemTile) (before cells : List Cell) (first now : FirstFault) (known : Option Known) : Type 0 where
  pub kept : 0 < e.tile → before ≡ e.cells.items
  pub fresh : e.tile ≡ 0 → before ≡ x.fresh.items
  pub long : length cells ≡ length before
  pub written : AreWrittenTo before cells (cells_placed x)
  pub begun : BeginsTile e.tile (IsFirstOf e.first) (IsFirstOf first)
  pub joined : HoldsOfBoth (IsFirstOf first) (IsFirstOf x.first) (IsFirstOf now)
  pub known_before : 0 < e.tile → known ≡ e.known
  pub known_found : e.tile ≡ 0 → known ≡ x.known

item_given : (s : ℕ → ℕ → List ℤ → ℤ) (regs : List Outcome) (i : ItemTree) (e : State) (st : Status) → st ≡ Giving → AtItem s regs i e st → 0 < e.tile → Fills s regs i e.tile e.cells.items e.first × IsKnown s regs i e.known
item_given s regs i e st g h = subst (AtItem s regs i e) g h

-- the cells and the first fault after one more tile
fills_more : (s : ℕ → ℕ → List ℤ → ℤ) (regs : List Outcome) (i : ItemTree) (e : State) (x : ItemTile) (before cells : List Cell) (first now : FirstFault) (known : Option Known) → e.tile < length (tile_boxes i.domain)
    → (0 < e.tile → Fills s regs i e.tile e.cells.items e.first) → TellsItem s regs i e.tile x → ItemKept e x before cells first now known
    → Fills s regs i (e.tile + 1) cells now
fills_more s regs i e x before cells first now known lt h t k =
    let told = λ (n : ℕ). flat_map (told_to_item s regs i) (points_to i.domain n) in
    let places = λ (n : ℕ). flat_map (places_of i) (points_to i.domain n) in
    let all = all_cells s regs i in
    let was : AreWritten all before (places e.tile) = elim (some_or_zero e.tile) [
      | inl z ↦ subst (λ n. AreWritten all before (places n)) (sym z) (All-nil (λ k. slice_get before k ≡ slice_get all k))
      | inr some ↦ subst (λ l. AreWritten all l (places e.tile)) (sym (k.kept some)) (h some).written
    ] in
    let is = k.written all (places e.tile) t.cells was in
    record {
      written = subst (AreWritten all cells) (ap (λ l. places e.tile ++ l) t.places ∙ sym (told_more (places_of i) i.domain e.tile lt)) is;
      first = subst (IsFirstOf now) (sym (told_more (told_to_item s regs i) i.domain e.tile lt))
          (k.joined (told e.tile) (flat_map (told_to_item s regs i) (points (tile_box i.domain e.tile))) (k.begun told refl (λ some. (h some).first)) t.first);
    }

-- what is known after one more tile
known_more : (s : ℕ → ℕ → List ℤ → ℤ) (regs : List Outcome) (i : ItemTree) (e : State) (x : ItemTile) (before cells : List Cell) (first now : FirstFault) (known : Option Known)
    → (0 < e.tile → IsKnown s regs i e.known) → TellsItem s regs i e.tile x → ItemKept e x before cells first now known → IsKnown s regs i known
known_more s regs i e x before cells first now known h t k =
    elim (some_or_zero e.tile) [
      | inl z ↦ subst (IsKnown s regs i) (sym (k.known_found z)) t.known
      | inr some ↦ subst (IsKnown s regs i) (sym (k.known_before some)) (h some)
    ]

pub filled_at : (e : State) (last : Bool) (x : ItemTile) (a : ItemAt e last x) (before cells : List Cell) (first now : FirstFault) (known : Option Known) (s : ℕ → ℕ → List ℤ → ℤ) → IsSound e → ItemKept e x before cells first now known
    → AtPart (cells_of s a.task.coverages) (read_by a.task e.registers.items) e a.task.part → TellsTask s e (tasks_left e) (found.Item x)
    → Fills (cells_of s a.task.coverages) (read_by a.task e.registers.items) a.tree (e.tile + 1) cells now × IsKnown (cells_of s a.task.coverages) (read_by a.task e.registers.items) a.tree known
filled_at e last x a before cells first now known s sound k at t =
    let c = cells_of s a.task.coverages in
    let regs = read_by a.task e.registers.items in
    let was : AtPart c regs e (item a.tree) = subst (AtPart c regs e) a.is at in
    let here : TellsPart c regs e.tile (item a.tree) (found.Item x) = subst (λ q. TellsPart c regs e.tile q (found.Item x)) a.is (subst (λ l. TellsTask s e l (found.Item x)) a.hand t) in
    let given = item_given c regs a.tree e e.status a.fits.giving was in
    (fills_more c regs a.tree e x before cells first now known (item_under e last x a sound).0 (λ some. (given some).0) here k, known_more c regs a.tree e x before cells first now known (λ some. (given some).1) here k)

by_status : (i : ItemTree) (e : State) (st : Status) → st ≡ Giving → (0 < e.tile → length e.cells.items ≡ cell_count i) → HasCells i e st
by_status i e st g h = subst (HasCells i e) (sym g) h

at_by_status : (s : ℕ → ℕ → List ℤ → ℤ) (regs : List Outcome) (i : ItemTree) (e : State) (st : Status) → st ≡ Giving → (0 < e.tile → Fills s regs i e.tile e.cells.items e.first × IsKnown s regs i e.known) → AtItem s regs i e st
at_by_status s regs i e st g h = subst (AtItem s regs i e) (sym g) h

-- the executor after one more tile of an item that has more
pub item_further : (e : State) (x : ItemTile) (before : List Cell) (v : Vec Cell Global) (first now : FirstFault) (known : Option Known) (l : ℕ) → IsSound e → Fits e (tasks_left e) false (found.Item x) → l + 1 ≡ e.left
    → ItemKept e x before v.items first now known → Keeps e (record e { cells = v; first = now; known = known; tile = e.tile + 1; left = l }) (found.Item x)
item_further e x before v first now known l sound fits left k =
    let a = item_at e false x fits in
    let d = record e { cells = v; first = now; known = known; tile = e.tile + 1; left = l } in
    let below : e.tile + 1 < length (tile_boxes (area_of a.task.part)) = subst (λ p. e.tile + 1 < length (tile_boxes (area_of p))) (sym a.is) a.last_tile in
    let g : GoesFurther e d a.task a.tasks = record { hand = a.hand; plan = refl; tasks = refl; at = refl; tile = refl; left = left; below = below; registers = refl; items = refl; status = refl } in
    let long = k.long ∙ cells_before e false x a before sound k.kept k.fresh in
    record {
      sound = sound_further e d a.task a.tasks g (subst (λ p. IsUnder p d) (sym a.is) (by_status a.tree d e.status a.fits.giving (λ some. long))) sound;
      plan = refl;
      left = left;
      boxes = boxes_further e d a.task a.tasks g;
      stands = λ s st t.
          let c = cells_of s a.task.coverages in
          let regs = read_by a.task e.registers.items in
          let fills = filled_at e false x a before v.items first now known s sound k (stands_at s e a.task a.tasks a.hand st) t in
          stands_further s e d a.task a.tasks g (subst (AtPart c regs d) (sym a.is) (at_by_status c regs a.tree d e.status a.fits.giving (λ some. fills))) st;
    }

-- how it stands once an item is given, or its fault stands
progress_given : (o : Option PointFault) (e d : State) (line fields : ℕ) → GivesBy o e d line fields → d.registers ≡ e.registers → e.status ≡ Giving
    → progress_of d ≡ after_item (progress_of e) e.status (item_or o (record { line = line; fields = fields; cells = e.cells.items }))
progress_given None e d line fields by r g =
    let i : Item = record { line = line; fields = fields; cells = e.cells.items } in
    ap (λ v. record { registers = v.items; items = d.items.items; status = d.status }) r
    ∙ ap (λ l. record { registers = e.registers.items; items = l; status = d.status }) by.1
    ∙ ap (λ x. record { registers = e.registers.items; items = e.items.items ++ i ∷ []; status = x }) by.0
    ∙ ap (λ x. after_item (progress_of e) x (Ok i)) (sym g)
progress_given (Some f) e d line fields by r g =
    ap (λ v. record { registers = v.items; items = d.items.items; status = d.status }) r
    ∙ ap (λ v. record { registers = e.registers.items; items = v.items; status = d.status }) by.1
    ∙ ap (λ x. record { registers = e.registers.items; items = e.items.items; status = x }) by.0
    ∙ ap (λ x. after_item (progress_of e) x (Err f)) (sym g)

-- at most one item more
items_given : (o : Option PointFault) (e d : State) (line fields : ℕ) → GivesBy o e d line fields → length d.items.items ≤ length e.items.items + 1
items_given None e d line fields by =
    let n = ap length by.1 in
    let i : Item = record { line = line; fields = fields; cells = e.cells.items } in
    let m = length-append e.items.items (i ∷ []) in
    omega (arith, n, m)
items_given (Some f) e d line fields by = let n = ap (λ v. length v.items) by.1 in omega (arith, n)

-- the executor after the last tile of an item
pub item_next : (e d : State) (x : ItemTile) (before : List Cell) (v : Vec Cell Global) (first now : FirstFault) (known : Option Known) (l : ℕ) → IsSound e → Fits e (tasks_left e) true (found.Item x) → l + 1 ≡ e.left
    → ItemKept e x before v.items first now known → Gives (record e { cells = v; first = now; known = known; left = l }) d x.line x.fields → Keeps e d (found.Item x)
item_next e d x before v first now known l sound fits left k gives =
    let a = item_at e true x fits in
    let i = a.tree in
    let old = record e { cells = v; first = now; known = known; left = l } in
    let last : e.tile + 1 ≡ length (tile_boxes (area_of a.task.part)) = subst (λ p. e.tile + 1 ≡ length (tile_boxes (area_of p))) (sym a.is) a.last_tile in
    let fewer = gives.left in
    let kept : d.left + 1 ≡ e.left = omega (arith, left, fewer) in
    let g : GoesOn e d a.task a.tasks = record { hand = a.hand; plan = gives.plan; tasks = gives.tasks; at = gives.at; tile = gives.tile; left = kept; last = last } in
    let more = items_given now.fault old d x.line x.fields gives.by in
    let had = sound.room in
    let had_registers = had.registers in
    let had_items = had.items in
    let n = ap length a.hand in
    let room = gives.capacity in
    let space : HasRoom d (length a.tasks) = record {
      registers = subst (λ v. length v.items + length a.tasks ≤ vec_capacity v) (sym gives.registers) (omega (arith, had_registers, n));
      items = omega (arith, had_items, n, more, room);
    } in
    let made : length d.registers.items ≡ length e.registers.items + 0 = (let r = ap (λ v. length v.items) gives.registers in omega (arith, r)) in
    let long = k.long ∙ cells_before e true x a before sound k.kept k.fresh in
    let placed = item_placed e true x a sound in
    record {
      sound = sound_next e d a.task a.tasks g (subst (λ p. length d.registers.items ≡ length e.registers.items + registers_made p) (sym a.is) made) space sound;
      plan = gives.plan;
      left = kept;
      boxes = boxes_next e d a.task a.tasks g;
      stands = λ s st t.
          let c = cells_of s a.task.coverages in
          let regs = read_by a.task e.registers.items in
          let fills = (filled_at e true x a before v.items first now known s sound k (stands_at s e a.task a.tasks a.hand st) t).0 in
          let whole : Fills c regs i (length (tile_boxes i.domain)) v.items now = subst (λ n. Fills c regs i n v.items now) a.last_tile fills in
          let planned : item_planned c regs i ≡ item_or now.fault (record { line = x.line; fields = x.fields; cells = v.items }) =
          item_told c regs i v.items now placed.0 placed.1 long whole
          ∙ ap (λ n. item_or now.fault (record { line = n; fields = field_count (length i.fields); cells = v.items })) (sym a.fits.line)
          ∙ ap (λ n. item_or now.fault (record { line = x.line; fields = n; cells = v.items })) (sym a.fits.fields) in
          stands_next s e d a.task a.tasks g (progress_given now.fault old d x.line x.fields gives.by gives.registers a.fits.giving ∙ ap (after_item (progress_of e) e.status) (sym planned) ∙ ap (after_part c regs (progress_of e)) (sym a.is)) st;
    }

-- what is known of the item at hand is that of the tiles before
item_known : (s : ℕ → ℕ → List ℤ → ℤ) (regs : List Outcome) (i : ItemTree) (e : State) (known : Option Known) → (e.tile ≡ 0 → known ≡ None) → (0 < e.tile → known ≡ e.known) → AtItem s regs i e Giving → IsKnown s regs i known
item_known s regs i e known first later at =
    elim (some_or_zero e.tile) [
      | inl z ↦ subst (IsKnown s regs i) (sym (first z)) tt
      | inr some ↦ subst (IsKnown s regs i) (sym (later some)) (at some).1
    ]

pub knows_part : (s : ℕ → ℕ → List ℤ → ℤ) (regs : List Outcome) (intact : Type 0) (e : State) (p : PartTree) (known : Option Known) → (e.tile ≡ 0 → known ≡ None) → (0 < e.tile → known ≡ e.known) → AtPart s regs e p → KnowsPartOf s regs intact e.status p known
knows_part s regs intact e (pass p) known first later at = tt
knows_part s regs intact e (condition c) known first later at = tt
knows_part s regs intact e (item i) known first later at = λ giving i2. item_known s regs i e known first later (subst (AtItem s regs i e) giving at)
knows_part s regs intact e (fieldless i) known first later at = tt
