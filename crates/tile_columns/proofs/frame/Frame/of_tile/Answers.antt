-- The variables turn over the box of the tile, of which there are no more points than places.
use Rattle.tile_columns.proofs.Tilings.{over_tile}
use Rattle.tile_columns.proofs.frame.Frame.of_tile.Goals as goal

pub invariant_of-result : goal.invariant_of-result
invariant_of-result c =
    let it = over_tile c.args.domain.now c.axes.result.now c.args.tile c.tile_edge.result _ c.push_tile.new.variables.items c.in_ok-behind.behind c.axes.ensures.domain c.requires c.axes.ensures.value c.tile_edge.ensures.value c.new-variables.ensures.items c.in_ok-behind.ensures.added in
    record { few = it.few; whole = it.whole }

pub returns : goal.returns
returns c =
    (over_tile c.args.domain.now c.axes.result.now c.args.tile c.tile_edge.result _ c.push_tile.new.variables.items c.in_ok-behind.behind c.axes.ensures.domain c.requires c.axes.ensures.value c.tile_edge.ensures.value c.new-variables.ensures.items c.in_ok-behind.ensures.added).shown
