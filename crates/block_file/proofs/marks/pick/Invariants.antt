use Rattle.std.proofs.Common.{◌≤◌, length, vec_capacity}
use Rattle.block_file.specs.Uses.{NoneFreeBelow, TakesLowest}
use Rattle.block_file.proofs.marks.pick.Given as goal

abbrev pub invariant-loop-k : goal.invariant-loop-k
invariant-loop-k l = record {
  taken : TakesLowest l.ks.items l.fn.marks l.marks;
  below : NoneFreeBelow l.k l.marks;
  most : length l.ks.items ≤ l.n;
  room : l.n ≤ vec_capacity l.ks;
}
