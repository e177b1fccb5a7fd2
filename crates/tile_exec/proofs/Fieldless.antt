-- An item without fields is given as one without cells.
use Rattle.std.proofs.Common.{◌≡◌, ℕ, ◌+◌, ◌<◌, ◌≤◌, List, [], ◌∷◌, ◌++◌, length, map, ℤ, refl, sym, ap, ◌∙◌, subst, arith, Bool, Vec, Global, length-append}
use Rattle.std.specs.Prelude.{vec_capacity, Result, Ok}
use Rattle.arr_core.specs.declared.cell.Cell.{Cell}
use Rattle.arr_core.specs.declared.domain.Axis.{Axis}
use Rattle.arr_core.specs.Domains.{points}
use Rattle.arr_core.specs.Tiles.{tile_boxes}
use Rattle.wcps_mean.specs.declared.cell.PointFault.{PointFault}
use Rattle.wcps_mean.specs.declared.cell.Outcome.{Outcome}
use Rattle.wcps_mean.specs.declared.item.Item.{Item}
use Rattle.wcps_mean.specs.Answer.{then_of, joined, line_of}
use Rattle.plan_ir.specs.Plans.{ItemTree, signature_of}
use Rattle.plan_ir.specs.Planned.{cells_at, item_planned, cells_of}
use Rattle.tile_exec.specs.declared.task.Status.{Status}
use Rattle.tile_exec.specs.declared.task.Status.TheVariants.{Giving}
use Rattle.tile_exec.specs.declared.found.Found.TheVariants as found
use Rattle.tile_exec.specs.declared.state.State.{State}
use Rattle.tile_exec.specs.Tasks.{PartTree, TaskTree, pass, condition, item, fieldless, area_of, IsPartPlaced, registers_made}
use Rattle.tile_exec.specs.Progress.{Progress, read_by, after_part, after_item}
use Rattle.tile_exec.specs.Standing.{plan_of, tasks_left, progress_of, HasRoom, IsSound}
use Rattle.tile_exec.specs.Units.{Fits, FitsPart, Keeps}
use Rattle.tile_exec.proofs.Moves.{GoesOn, sound_next, stands_next, boxes_next, at_hand}
use Rattle.tile_exec.proofs.Keeping.{placed_at}

-- an item on a domain, without binds and fields
abbrev bare : List Axis → ItemTree
bare domain = record { domain = domain; binds = []; fields = [] }

bare_cells : (s : ℕ → ℕ → List ℤ → ℤ) (regs : List Outcome) (domain : List Axis) (ps : List (List ℤ)) → joined (map (cells_at s regs (bare domain)) ps) ≡ Ok []
bare_cells s regs domain [] = refl
bare_cells s regs domain (p ∷ ps) = ap (λ (r : Result (List Cell) PointFault). then_of r (λ ys. Ok ys)) (bare_cells s regs domain ps)

bare_planned : (s : ℕ → ℕ → List ℤ → ℤ) (regs : List Outcome) (domain : List Axis) → item_planned s regs (bare domain) ≡ Ok (record { line = line_of domain; fields = 0; cells = [] })
bare_planned s regs domain = ap (λ (r : Result (List Cell) PointFault). then_of r (λ cells. Ok (record { line = line_of domain; fields = 0; cells = cells }))) (bare_cells s regs domain (points domain))

-- what an item gives that has neither
fieldless_planned : (s : ℕ → ℕ → List ℤ → ℤ) (regs : List Outcome) (i : ItemTree) → i.binds ≡ [] → i.fields ≡ [] → item_planned s regs i ≡ Ok (record { line = line_of i.domain; fields = 0; cells = [] })
fieldless_planned s regs i b f =
    ap (λ l. item_planned s regs (record { domain = i.domain; binds = l; fields = i.fields })) b
    ∙ ap (λ l. item_planned s regs (record { domain = i.domain; binds = []; fields = l })) f
    ∙ bare_planned s regs i.domain

-- the task at hand is an item without fields, which is given
pub record FieldlessAt (e : State) (line : ℕ) : Type 0 where
  pub task : TaskTree
  pub tasks : List TaskTree
  pub tree : ItemTree
  pub hand : tasks_left e ≡ task ∷ tasks
  pub is : task.part ≡ fieldless tree
  pub giving : e.status ≡ Giving
  pub line_is : line ≡ line_of tree.domain

fieldless_in : (e : State) (line : ℕ) (task : TaskTree) (tasks : List TaskTree) (p : PartTree) → tasks_left e ≡ task ∷ tasks → task.part ≡ p → FitsPart e.tile e.status p (found.Fieldless line) → FieldlessAt e line
fieldless_in e line task tasks (pass p) h is f = absurd f
fieldless_in e line task tasks (condition c) h is f = absurd f
fieldless_in e line task tasks (item i) h is f = absurd f
fieldless_in e line task tasks (fieldless i) h is f = record { task = task; tasks = tasks; tree = i; hand = h; is = is; giving = f.0; line_is = f.1 }

fieldless_among : (e : State) (last : Bool) (line : ℕ) (ts : List TaskTree) → tasks_left e ≡ ts → Fits e ts last (found.Fieldless line) → FieldlessAt e line
fieldless_among e last line [] h f = absurd f
fieldless_among e last line (t ∷ ts) h f = fieldless_in e line t ts t.part h refl f.1

pub fieldless_at : (e : State) (last : Bool) (line : ℕ) → Fits e (tasks_left e) last (found.Fieldless line) → FieldlessAt e line
fieldless_at e last line f = fieldless_among e last line (tasks_left e) refl f

after_given : (g : Progress) (st : Status) (i : Item) → st ≡ Giving → after_item g st (Ok i) ≡ record g { items = g.items ++ i ∷ [] }
after_given g st i h = subst (λ st. after_item g st (Ok i) ≡ record g { items = g.items ++ i ∷ [] }) (sym h) refl

-- the executor after an item without fields
pub fieldless_next : (e : State) (line : ℕ) (v : Vec Item Global) (l : ℕ) → IsSound e → FieldlessAt e line → l + 1 ≡ e.left
    → v.items ≡ e.items.items ++ record { line = line; fields = 0; cells = [] } ∷ [] → vec_capacity e.items ≤ vec_capacity v
    → Keeps e (record e { items = v; at = e.at + 1; tile = 0; left = l }) (found.Fieldless line)
fieldless_next e line v l sound x left items room =
    let d = record e { items = v; at = e.at + 1; tile = 0; left = l } in
    let i : Item = record { line = line; fields = 0; cells = [] } in
    let h = at_hand e x.task x.tasks x.hand sound in
    let lt : e.tile < length (tile_boxes []) = subst (λ p. e.tile < length (tile_boxes (area_of p))) x.is h.0 in
    let last : e.tile + 1 ≡ length (tile_boxes (area_of x.task.part)) = subst (λ p. e.tile + 1 ≡ length (tile_boxes (area_of p))) (sym x.is) (omega (arith, lt)) in
    let g : GoesOn e d x.task x.tasks = record { hand = x.hand; plan = refl; tasks = refl; at = refl; tile = refl; left = left; last = last } in
    let had = sound.room in
    let had_registers = had.registers in
    let had_items = had.items in
    let n = ap length x.hand in
    let m = ap length items in
    let k = length-append e.items.items (i ∷ []) in
    let space : HasRoom d (length x.tasks) = record { registers = omega (arith, had_registers, n); items = omega (arith, had_items, n, m, k, room) } in
    let placed : IsPartPlaced (signature_of (plan_of e).coverages x.task.coverages) x.task.count (fieldless x.tree) =
    subst (IsPartPlaced (signature_of (plan_of e).coverages x.task.coverages) x.task.count) x.is (placed_at e x.task x.tasks x.hand sound).1 in
    record {
      sound = sound_next e d x.task x.tasks g (subst (λ p. length e.registers.items ≡ length e.registers.items + registers_made p) (sym x.is) (omega arith)) space sound;
      plan = refl;
      left = left;
      boxes = boxes_next e d x.task x.tasks g;
      stands = λ s st t.
          let c = cells_of s x.task.coverages in
          let regs = read_by x.task e.registers.items in
          let planned : item_planned c regs x.tree ≡ Ok i = fieldless_planned c regs x.tree placed.0 placed.1 ∙ ap (λ n. Ok (record { line = n; fields = 0; cells = [] })) (sym x.line_is) in
          stands_next s e d x.task x.tasks g
          (ap (λ l. record { registers = e.registers.items; items = l; status = e.status }) items
          ∙ sym (ap (after_part c regs (progress_of e)) x.is ∙ ap (after_item (progress_of e) e.status) planned ∙ after_given (progress_of e) e.status i x.giving)) st;
    }
