use Rattle.std.proofs.Common.{◌≡◌}
use Rattle.tile_columns.specs.Fields.{settled_by}
use Rattle.tile_columns.proofs.Behind.{partly}
use Rattle.tile_columns.proofs.fields.settle_columns.Given as goal

abbrev pub invariant-loop-k : goal.invariant-loop-k
invariant-loop-k l = l.columns.items ≡ partly (settled_by l.positions l.interval.lo l.interval.hi) l.k l.fn.columns.items
