use Rattle.std.proofs.Common.{take}
use Rattle.block_file.specs.Uses.{Raises}
use Rattle.block_file.proofs.marks.Marks.hold.Given as goal

abbrev pub invariant-loop-i : goal.invariant-loop-i
invariant-loop-i l = Raises (take l.i l.ks) l.fn.self l.self
