use Rattle.std.proofs.Common.{◌≡◌, take, get_or, map, pos}
use Rattle.arr_core.specs.Domains.{rank_of}
use Rattle.plan_ir.specs.Run.{numbers_at}
use Rattle.tile_columns.proofs.lookup.items_of.Given as goal

abbrev pub invariant-loop-place : goal.invariant-loop-place
invariant-loop-place l = l.cells.items ≡ map (λ e. get_or l.table.items.now (rank_of l.table.domain.now (numbers_at e l.table.indexes.now)) (pos 0)) (take l.place l.frame)
