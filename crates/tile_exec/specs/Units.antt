-- What a unit finds, and what comes of it.
use Rattle.std.specs.Prelude.{◌≡◌, ℕ, ◌+◌, ◌^◌, ◌<◌, ◌≤◌, List, [], ◌∷◌, ◌++◌, length, vec_capacity, option_copied, Option, Some, None, Bool, true, false}
use Rattle.std.specs.List.{All, flat_map}
use Rattle.arr_core.specs.declared.cell.Cell.{Cell}
use Rattle.arr_core.specs.Domains.{points}
use Rattle.arr_core.specs.Limits.{max_points}
use Rattle.arr_core.specs.Tiles.{tile_boxes, tile_box}
use Rattle.wcps_mean.specs.declared.cell.PointFault.{PointFault}
use Rattle.wcps_mean.specs.declared.cell.Outcome.{Outcome}
use Rattle.wcps_mean.specs.Answer.{line_of, field_count}
use Rattle.plan_ir.specs.declared.plan.Item.{Item}
use Rattle.plan_ir.specs.Plans.{ItemTree, PlanTree, item_view}
use Rattle.plan_ir.specs.Planned.{cells_of}
use Rattle.plan_ir.specs.Run.{run}
use Rattle.plan_ir.specs.Units.{Stage, bound}
use Rattle.tile_kernel.specs.Standing.{Stands}
use Rattle.tile_kernel.specs.Told.{Told, IsFirstOf}
use Rattle.tile_exec.specs.declared.task.Status.{Status}
use Rattle.tile_exec.specs.declared.task.Status.TheVariants.{Giving, Skipping, Failed}
use Rattle.tile_exec.specs.declared.task.AtHand.{AtHand}
use Rattle.tile_exec.specs.declared.found.ItemTile.{ItemTile}
use Rattle.tile_exec.specs.declared.found.Found.{Found}
use Rattle.tile_exec.specs.declared.found.Found.TheVariants as found
use Rattle.tile_exec.specs.declared.known.Known.{Known}
use Rattle.tile_exec.specs.declared.state.State.{State}
use Rattle.wcps_mean.specs.Reading.{CellsOf}
use Rattle.tile_exec.specs.Tasks.{PartTree, TaskTree, pass, condition, item, fieldless, area_of}
use Rattle.tile_exec.specs.Progress.{read_by}
use Rattle.tile_columns.specs.declared.ground.Ground.{Ground}
use Rattle.tile_columns.specs.Sources.{SourceState}
use Rattle.tile_exec.specs.Passes.{told_by_tile}
use Rattle.tile_columns.specs.Fields.{HavePlaces}
use Rattle.tile_exec.specs.Rows.{all_cells_told}
use Rattle.tile_exec.specs.Known.{IsKnown, Knows}
use Rattle.tile_exec.specs.Items.{all_cells, told_to_item, places_of, places_written, ArePlaced, cell_count}
use Rattle.tile_exec.specs.Standing.{StandsFor, IsSound, IsPartOf, plan_of, tasks_left, boxes_left}

-- whether a tile is the last one
abbrev pub IsLast : Bool → ℕ → ℕ → Type 0
IsLast true tile n = tile + 1 ≡ n
IsLast false tile n = tile + 1 < n

-- before a tile: what held of the points of the tiles before it, or what holds of none before the first one
abbrev pub BeginsTile : ℕ → (List Told → Type 0) → (List Told → Type 0) → Type 0
BeginsTile tile Was Is = (told : ℕ → List Told) → told 0 ≡ [] → (0 < tile → Was (told tile)) → Is (told tile)

-- the cells that the columns of an item's tile tell, with their places
abbrev pub cells_placed : ItemTile → List (ℕ × Cell)
cells_placed x = all_cells_told x.places.items x.booleans.items x.columns.items

-- the tile of an item: a column for each field with each point's outcome, each place is a cell's, and a first tile
-- brings the cells
pub record FitsItem (i : ItemTree) (tile : ℕ) (status : Status) (x : ItemTile) : Type 0 where
  pub giving : status ≡ Giving
  pub columns : length x.columns.items ≡ length x.booleans.items
  pub there : HavePlaces (length x.places.items) x.columns.items
  pub small : All (λ (r : ℕ). r < max_points) x.places.items
  pub few : length x.booleans.items < 2 ^ 32
  pub below : All (λ (w : ℕ × Cell). w.0 < cell_count i) (cells_placed x)
  pub fresh : tile ≡ 0 → length x.fresh.items ≡ cell_count i
  pub line : x.line ≡ line_of i.domain
  pub fields : x.fields ≡ field_count (length i.fields)

-- the condition was false, or there is a fault already
abbrev pub IsNotGiven : Status → Type 0
IsNotGiven Giving = ⊥
IsNotGiven Skipping = Unit {0}
IsNotGiven (Failed f) = Unit {0}

-- after an item that is not given: a fault stands, else the next combination may give one
abbrev pub AfterSkipped : Status → Status → Type 0
AfterSkipped Giving after = ⊥
AfterSkipped Skipping after = after ≡ Giving
AfterSkipped (Failed f) after = after ≡ Failed f

-- what is found is of the kind of the task
abbrev pub FitsPart : ℕ → Status → PartTree → Found → Type 0
FitsPart tile status (pass p) (found.Pass a) =
    (a.running.op ≡ p.op) × (a.running.count ≤ length (points (tile_box p.domain tile)))
FitsPart tile status (condition c) (found.Condition o) = Unit {0}
FitsPart tile status (item i) (found.Item x) = FitsItem i tile status x
FitsPart tile status (item i) found.Skipped = IsNotGiven status
FitsPart tile status (fieldless i) (found.Fieldless line) = (status ≡ Giving) × (line ≡ line_of i.domain)
FitsPart tile status (fieldless i) found.Skipped = IsNotGiven status
FitsPart tile status _ _ = ⊥

-- the same, and whether the tile is the last one
abbrev pub FitsUnit : ℕ → Status → PartTree → Bool → Found → Type 0
FitsUnit tile status p last x = IsLast last tile (length (tile_boxes (area_of p))) × FitsPart tile status p x

abbrev pub Fits : State → List TaskTree → Bool → Found → Type 0
Fits e [] last found.Skipped = Unit {0}
Fits e [] last _ = ⊥
Fits e (t ∷ tasks) last x = FitsUnit e.tile e.status t.part last x

-- the cells and the first fault of a tile of an item, and what is known of it
pub record TellsItem (s : CellsOf) (regs : List Outcome) (i : ItemTree) (t : ℕ) (x : ItemTile) : Type 0 where
  pub places : places_written (cells_placed x) ≡ flat_map (places_of i) (points (tile_box i.domain t))
  pub cells : ArePlaced (all_cells s regs i) (cells_placed x)
  pub first : IsFirstOf x.first (flat_map (told_to_item s regs i) (points (tile_box i.domain t)))
  pub known : IsKnown s regs i x.known

-- what is found is that of the tile at hand
abbrev pub TellsPart : CellsOf → List Outcome → ℕ → PartTree → Found → Type 0
TellsPart s regs tile (pass p) (found.Pass a) = Stands a (told_by_tile s regs p tile)
TellsPart s regs tile (condition c) (found.Condition o) = o ≡ run s regs c []
TellsPart s regs tile (item i) (found.Item x) = TellsItem s regs i tile x
TellsPart s regs tile _ _ = Unit {0}

-- what a tile of an item is found to tell is so, if what is known is
abbrev pub IsItemFound : {K : Type 0} → SourceState K → Ground → Item → ℕ → Option Known → ItemTile → Type 0
IsItemFound source g i tile known x =
    Knows source g i known → source.intact
    → TellsItem (cells_of source.cells g.coverages.now) g.registers.now (item_view i) tile x

-- the same over a source, for a combination's coverages and registers
abbrev pub IsFound : {K : Type 0} → SourceState K → Ground → ℕ → Found → PartTree → Type 0
IsFound source g tile x p = source.intact → TellsPart (cells_of source.cells g.coverages.now) g.registers.now tile p x

-- what is known of an item at hand that is given is so, over an intact source
abbrev pub KnowsPartOf : CellsOf → List Outcome → Type 0 → Status → PartTree → Option Known → Type 0
KnowsPartOf s regs intact status (pass p) known = Unit {0}
KnowsPartOf s regs intact status (condition c) known = Unit {0}
KnowsPartOf s regs intact status (item i) known = status ≡ Giving → intact → IsKnown s regs i known
KnowsPartOf s regs intact status (fieldless i) known = Unit {0}

abbrev pub KnowsPart : {K : Type 0} → SourceState K → Ground → Status → PartTree → Option Known → Type 0
KnowsPart source g status p known =
    KnowsPartOf (cells_of source.cells g.coverages.now) g.registers.now source.intact status p known

-- what is found is that of the tile at hand, if what is known is so
abbrev pub IsFoundBy : {K : Type 0} → SourceState K → Ground → AtHand → Found → PartTree → Type 0
IsFoundBy source g hand x p = KnowsPart source g hand.status p (option_copied hand.known)
    → IsFound source g hand.tile x p

-- what is found is that of the next unit
abbrev pub TellsTask : CellsOf → State → List TaskTree → Found → Type 0
TellsTask s e [] x = Unit {0}
TellsTask s e (t ∷ tasks) x = TellsPart (cells_of s t.coverages) (read_by t e.registers.items) e.tile t.part x

abbrev pub IsNextFound : {K : Type 0} → SourceState K → State → Found → Type 0
IsNextFound source e x = source.intact → StandsFor source.cells e → TellsTask source.cells e (tasks_left e) x

-- one box fewer is left
abbrev pub LosesFirst : List Stage → List Stage → Type 0
LosesFirst [] after = after ≡ []
LosesFirst (b ∷ before) after = after ≡ before

-- what was found is kept, and the unit is done
pub record Keeps (old new : State) (x : Found) : Type 0 where
  pub sound : IsSound new
  pub plan : new.plan ≡ old.plan
  pub left : new.left + 1 ≡ old.left
  pub boxes : LosesFirst (boxes_left old) (boxes_left new)
  pub stands : (s : CellsOf) → StandsFor s old → TellsTask s old (tasks_left old) x → StandsFor s new

-- how many tiles the next unit may fetch
abbrev pub first_bound : PlanTree → List Stage → ℕ
first_bound plan [] = 0
first_bound plan (b ∷ boxes) = bound plan b

abbrev pub unit_bound : State → ℕ
unit_bound e = first_bound (plan_of e) (boxes_left e)

-- the steps at hand have that part
abbrev pub HasPart : AtHand → PartTree → Type 0
HasPart hand p = IsPartOf hand.steps.now hand.task.count hand.task.part p

-- so it is with that part
abbrev pub IfPart : AtHand → (PartTree → Type 0) → Type 0
IfPart hand Holds = (p : PartTree) → HasPart hand p → Holds p

-- what becomes of an item: its fault stands, or it is put behind the others
abbrev pub GivesBy : Option PointFault → State → State → ℕ → ℕ → Type 0
GivesBy (Some f) old new line fields = (new.status ≡ Failed f) × (new.items ≡ old.items)
GivesBy None old new line fields =
    (new.status ≡ old.status) × (new.items.items ≡ old.items.items ++ record
    { line = line; fields = fields; cells = old.cells.items } ∷ [])

-- an item whose tiles are all told is given, or its first fault stands
pub record Gives (old new : State) (line fields : ℕ) : Type 0 where
  pub by : GivesBy old.first.fault old new line fields
  pub plan : new.plan ≡ old.plan
  pub tasks : new.tasks ≡ old.tasks
  pub at : new.at ≡ old.at + 1
  pub tile : new.tile ≡ 0
  pub left : new.left ≡ old.left
  pub registers : new.registers ≡ old.registers
  pub capacity : vec_capacity old.items ≤ vec_capacity new.items
