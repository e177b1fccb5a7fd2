use Rattle.std.proofs.Common.{◌-◌, ◌≡◌, ◌+◌, ◌≤◌, ◌<◌, ◌++◌, take, replicate}
use Rattle.tile_kernel.proofs.runs.write_blocks.Given as goal

-- the cells up to this one are written, and it is less than a block past the end
abbrev pub invariant-loop-at : goal.invariant-loop-at
invariant-loop-at l = record {
  begun : l.from ≤ l.at;
  near : l.at < l.end + 8;
  written : take l.at l.cells ≡ take l.from l.fn.cells ++ replicate (l.at - l.from) l.value;
}

abbrev pub decreases-loop-at : goal.decreases-loop-at
decreases-loop-at l = l.end - l.at
