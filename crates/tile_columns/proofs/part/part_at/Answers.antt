-- The part is the box of the tile with the number.
use Rattle.std.proofs.Common.{sym, []}
use Rattle.std.proofs.lemmas.Option.{get_or_from_slice_get}
use Rattle.arr_core.specs.Tiles.{tile_boxes}
use Rattle.tile_columns.proofs.part.part_at.Goals as goal

pub returns-clause-tile : goal.returns-clause-tile
returns-clause-tile c = sym (get_or_from_slice_get (tile_boxes c.args.area.now) c.args.tile c.in_ok-part.part [] c.in_ok-part.ensures.value)
