use Rattle.std.proofs.Common.{◌≡◌, take}
use Rattle.tile_kernel.specs.Windows.{windows}
use Rattle.tile_kernel.proofs.windows.condense_by.Given as goal

abbrev pub invariant-loop-k : goal.invariant-loop-k
invariant-loop-k g l = l.outcomes.items ≡ windows g.S.Summary.op l.grid (take l.k l.down) l.across
