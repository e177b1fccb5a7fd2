-- The columns of a tile of an item whose body has a key.
use Rattle.std.specs.Prelude.{◌≡◌, List, [], ◌∷◌, map, option_copied}
use Rattle.arr_core.specs.Domains.{points}
use Rattle.wcps_mean.specs.declared.cell.Outcome.{Outcome}
use Rattle.plan_ir.specs.declared.plan.Item.{Item}
use Rattle.tile_columns.specs.declared.ground.Ground.{Ground}
use Rattle.tile_columns.specs.declared.zones.Key.{Key}
use Rattle.tile_columns.specs.Sources.{SourceState}
use Rattle.tile_columns.specs.Meaning.{meaning}
use Rattle.tile_exec.specs.declared.keyed.TileAt.{TileAt}
use Rattle.tile_exec.specs.Fetching.{AreItemColumns}
use Rattle.tile_columns.specs.Keys.{fold_of}
use Rattle.tile_exec.specs.Known.{Knows, KnowsFold}

-- one column, which has what a fold of zones gives at the points of a tile, if what is known is so
abbrev pub IsKeyedColumn : {K : Type 0} → SourceState K → Ground → Key → TileAt → List (List Outcome) → Type 0
IsKeyedColumn s g k at columns =
    KnowsFold s g at.area.now k (option_copied at.known)
    → s.intact → columns ≡ map (meaning s g (fold_of k)) (points at.part.now) ∷ []

-- columns have what the fields of an item give at the points of a tile, if what is known is so
abbrev pub AreColumnsKnown : {K : Type 0} → SourceState K → Ground → Item → TileAt → List (List Outcome) → Type 0
AreColumnsKnown s g i at columns = Knows s g i (option_copied at.known) → AreItemColumns s g i at.part.now columns
