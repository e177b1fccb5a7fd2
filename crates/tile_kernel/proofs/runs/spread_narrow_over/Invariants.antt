use Rattle.std.proofs.Common.{◌≡◌, take}
use Rattle.std.specs.Prelude.{sum}
use Rattle.arr_core.specs.Runs.{spread}
use Rattle.tile_kernel.proofs.runs.spread_narrow_over.Given as goal

abbrev pub invariant-loop-run : goal.invariant-loop-run
invariant-loop-run l = record {
  from : l.from ≡ sum (take l.run l.counts);
  front : take l.from l.out ≡ spread (take l.run l.values) (take l.run l.counts);
}
