-- The box of the tile is the one with its number.
use Rattle.std.proofs.Common.{◌∙◌, sym, ap, map, []}
use Rattle.std.proofs.lemmas.Option.{get_or_from_slice_get}
use Rattle.arr_core.specs.Domains.{points, rank_of}
use Rattle.arr_core.specs.Tiles.{tile_boxes}
use Rattle.tile_exec.proofs.pass.list_places.Goals as goal

pub returns : goal.returns
returns c =
    let area = c.args.of.area.now in
    c.in_ok-ranks.ensures ∙ ap (λ b. map (rank_of area) (points b)) (sym (get_or_from_slice_get (tile_boxes area) c.args.of.tile c.in_ok-part.part [] c.in_ok-part.ensures.value))
