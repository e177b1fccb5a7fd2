use Rattle.std.proofs.Common.{◌≡◌, take, get_or, []}
use Rattle.plan_ir.specs.Run.{numbers_at}
use Rattle.tile_columns.proofs.lookup.point_at.Given as goal

abbrev pub invariant-loop-index : goal.invariant-loop-index
invariant-loop-index l = l.point.items ≡ numbers_at (get_or l.frame l.place []) (take l.index-index l.indexes)
