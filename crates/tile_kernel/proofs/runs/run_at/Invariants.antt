use Rattle.std.proofs.Common.{◌≡◌, ◌+◌, take}
use Rattle.std.specs.Prelude.{sum}
use Rattle.tile_kernel.proofs.runs.run_at.Given as goal

abbrev pub invariant-loop-run : goal.invariant-loop-run
invariant-loop-run l = l.left + sum (take l.run l.counts) ≡ l.place
