-- What bodies of a combination need of a source over a box, and how many tiles they fetch.
use Rattle.std.specs.Prelude.{ℕ, ◌<◌, List, length, sum_by, Result, OnOk}
use Rattle.arr_core.specs.declared.domain.Axis.{Axis}
use Rattle.arr_core.specs.Domains.{points}
use Rattle.arr_core.specs.Tiles.{tile_boxes, tile_box}
use Rattle.wcps_mean.specs.declared.cell.Outcome.{Outcome}
use Rattle.wcps_mean.specs.declared.cells.CellError.{CellError}
use Rattle.plan_ir.specs.declared.body.Body.{Body}
use Rattle.plan_ir.specs.declared.body.Fold.{Fold}
use Rattle.plan_ir.specs.declared.plan.Item.{Item}
use Rattle.plan_ir.specs.Bodies.{body_view}
use Rattle.plan_ir.specs.Plans.{pass_view, item_view}
use Rattle.plan_ir.specs.Units.{bound_of}
use Rattle.tile_columns.specs.declared.ground.Ground.{Ground}
use Rattle.tile_columns.specs.declared.source.Tiles.{Ghosts}
use Rattle.tile_columns.specs.Sources.{SourceState, FetchesAtMost}
use Rattle.tile_columns.specs.Meaning.{chosen}
use Rattle.tile_columns.specs.Fields.{HavePlaceOver, AreColumnsOf}
use Rattle.tile_exec.specs.declared.task.AtHand.{AtHand}
use Rattle.tile_exec.specs.Tasks.{PartTree, pass, condition, item, area_of, bodies_of, IsPartPlaced}
use Rattle.tile_exec.specs.Units.{HasPart}

-- a pass, a condition and an item of a plan as parts
abbrev pub as_pass : Fold → PartTree
as_pass f = pass (pass_view f)

abbrev pub as_condition : Body → PartTree
as_condition b = condition (body_view b)

abbrev pub as_item : Item → PartTree
as_item i = item (item_view i)

-- the bodies of a part have their place
abbrev pub IsPartOver : {K : Type 0} → SourceState K → Ground → PartTree → Type 0
IsPartOver s g p = IsPartPlaced (chosen s g) (length g.registers.now) p

-- the part at hand has its place, and that tile
abbrev pub IsReady : {K : Type 0} → SourceState K → Ground → AtHand → Type 0
IsReady s g hand = (p : PartTree) × HasPart hand p × IsPartOver s g p × (hand.tile < length (tile_boxes (area_of p)))

-- an item has its place at the points of a box
abbrev pub ItemHasPlace : {K : Type 0} → SourceState K → Ground → Item → List Axis → Type 0
ItemHasPlace s g i box = HavePlaceOver s g i.binds.items i.fields.items (points box)

-- columns have what the fields of an item give at the points of a box
abbrev pub AreItemColumns : {K : Type 0} → SourceState K → Ground → Item → List Axis → List (List Outcome) → Type 0
AreItemColumns s g i box columns = AreColumnsOf s g i.binds.items i.fields.items (points box) columns

-- no more tiles are fetched than the bound of a body over a box
abbrev pub FetchesBody : {S A : Type 0} → Result A CellError → Ground → List Axis → Body → Ghosts S → S → S → Type 0
FetchesBody result g box body t old new =
    OnOk result (FetchesAtMost (bound_of (chosen (t.state old) g) box (body_view body)) (t.state old) (t.state new))

-- no more tiles are fetched than the bounds of a part's bodies over a box, or over one of its tiles
abbrev pub FetchesOver : {S A : Type 0} → Result A CellError → Ground → List Axis → Ghosts S → S → S → PartTree → Type 0
FetchesOver result g box t old new p =
    OnOk result (FetchesAtMost (sum_by (bound_of (chosen (t.state old) g) box) (bodies_of p)) (t.state old)
    (t.state new))

abbrev pub FetchesTile : {S A : Type 0} → Result A CellError → Ground → ℕ → Ghosts S → S → S → PartTree → Type 0
FetchesTile result g tile t old new p = FetchesOver result g (tile_box (area_of p) tile) t old new p
