-- Out of the whole tile, the cells at the ranks.
use Rattle.std.proofs.Common.{◌∙◌, ap, arith}
use Rattle.std.proofs.lemmas.Grind.{common_steps}
use Rattle.arr_core.specs.Domains.{points, count}
use Rattle.arr_core.proofs.Points.{length-points}
use Rattle.tile_columns.specs.Sources.{box_in}
use Rattle.tile_columns.specs.Spots.{cells_at}
use Rattle.tile_columns.proofs.Picking.{picked_of}
use Rattle.tile_columns.proofs.stretches.fetch_cells.Goals as goal

pub returns-clause-value : goal.returns-clause-value
returns-clause-value g c = λ i.
    let box = box_in (g.S.Tiles.state c.args.source.now) c.args.reading.now.coverage c.args.tile in
    c.in_ok-list_cells.ensures
    ∙ ap (λ l. cells_at l c.deref-3.result.now) c.deref-2.ensures.value
    ∙ ap (cells_at c.tile.new.buffer.items) c.deref-3.ensures.value
    ∙ picked_of ((g.S.Tiles.state c.args.source.now).cells c.args.reading.now.coverage c.args.reading.now.field) (points box) (count box) c.tile.new.buffer.items c.args.scratch.now.wanted.items (c.in_ok-tile.ensures.value i) (length-points box) c.requires.ranks

pub returns-clause-ranks : goal.returns-clause-ranks
returns-clause-ranks g c = grind (arith, common_steps)
