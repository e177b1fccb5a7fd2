use Rattle.std.proofs.Common.{◌≡◌, length, pos}
use Rattle.std.specs.Prelude.{replicate}
use Rattle.wcps_mean.specs.declared.cell.Outcome.TheVariants.{Value}
use Rattle.tile_columns.specs.Fields.{settled_by}
use Rattle.tile_columns.proofs.fields.blank_columns.Given as goal

abbrev pub invariant-loop-field : goal.invariant-loop-field
invariant-loop-field l = l.columns.items ≡ replicate l._field (settled_by l.positions l.interval.lo l.interval.hi (replicate (length l.positions) (Value (pos 0))))
