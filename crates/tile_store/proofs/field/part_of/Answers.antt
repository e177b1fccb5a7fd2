-- The box of a tile stands at its number.
use Rattle.std.proofs.Common.{[]}
use Rattle.std.proofs.lemmas.Option.{get_or_from_slice_get}
use Rattle.arr_core.specs.Tiles.{tile_boxes}
use Rattle.tile_store.proofs.field.part_of.Goals as goal

pub returns-clause-part : goal.returns-clause-part
returns-clause-part c = get_or_from_slice_get (tile_boxes c.args.domain.now) c.args.tile c.in_ok-part.part [] c.in_ok-part.ensures.value
