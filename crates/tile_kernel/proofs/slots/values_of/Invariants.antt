use Rattle.std.proofs.Common.{◌≡◌, take}
use Rattle.wcps_mean.specs.Condensers.{values}
use Rattle.tile_kernel.proofs.slots.values_of.Given as goal

-- the values at the places so far
abbrev pub invariant-loop-place : goal.invariant-loop-place
invariant-loop-place l = l.numbers.items ≡ values (take l.place l.column)
