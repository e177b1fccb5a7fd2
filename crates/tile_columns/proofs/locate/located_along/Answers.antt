-- The part of the axis that the tile has.
use Rattle.std.proofs.Common.{rules}
use Rattle.arr_core.specs.Domains.{gap}
use Rattle.tile_columns.proofs.Locating.{rank_here}
use Rattle.tile_columns.proofs.locate.located_along.Goals as goal

pub returns-clause-rank : goal.returns-clause-rank
returns-clause-rank c =
    rw (c.tile_steps-from.ensures.from) (rank_here c.args.at.rank c.tile_steps-from.result.1 c.args.along.last c.args.along.edge _ (gap c.args.along.lo c.args.x) (search rules) (search rules))
