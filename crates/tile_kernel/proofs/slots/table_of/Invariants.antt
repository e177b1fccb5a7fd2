use Rattle.std.proofs.Common.{◌≡◌, take, length}
use Rattle.tile_kernel.specs.Keyed.{IsTable}
use Rattle.tile_kernel.proofs.slots.table_of.Given as goal

-- the table has the places of the numbers so far
abbrev pub invariant-loop-k : goal.invariant-loop-k
invariant-loop-k l = (length l.table.items ≡ l.fn.span) × IsTable l.fn.low l.table.items (take l.k l.numbers)
