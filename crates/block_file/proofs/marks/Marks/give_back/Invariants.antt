use Rattle.std.proofs.Common.{◌≡◌, ℕ, ◌+◌, length, get_or, take}
use Rattle.block_file.specs.State.{times}
use Rattle.block_file.proofs.marks.Marks.give_back.Given as goal

abbrev pub invariant-loop-k : goal.invariant-loop-k
invariant-loop-k l = record {
  given : (k : ℕ) → get_or l.self k 0 + times (take l.k-index l.ks) k ≡ get_or l.fn.self k 0;
  len : length l.self ≡ length l.fn.self;
}
