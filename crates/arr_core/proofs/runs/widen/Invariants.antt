use Rattle.std.proofs.Common.{◌≡◌, take}
use Rattle.arr_core.proofs.runs.widen.Given as goal

abbrev pub invariant-loop-place : goal.invariant-loop-place
invariant-loop-place l = take l.place l.cells ≡ take l.place l.narrow
