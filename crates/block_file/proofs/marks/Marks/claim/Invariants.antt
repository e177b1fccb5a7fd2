use Rattle.std.proofs.Common.{take}
use Rattle.block_file.specs.Uses.{Claims}
use Rattle.block_file.proofs.marks.Marks.claim.Given as goal

abbrev pub invariant-loop-i : goal.invariant-loop-i
invariant-loop-i l = Claims (take l.i l.ks) l.fn.self l.self
