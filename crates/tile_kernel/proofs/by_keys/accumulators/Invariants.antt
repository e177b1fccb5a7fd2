use Rattle.std.proofs.Common.{◌≡◌, ℕ, ◌<◌, length, get_or, List}
use Rattle.tile_kernel.specs.declared.accumulator.Accumulator.{Accumulator}
use Rattle.tile_kernel.specs.Condensing.{IsKeptOf}
use Rattle.tile_kernel.specs.Standing.{Stands, AreOf}
use Rattle.tile_kernel.specs.Told.{Told}
use Rattle.tile_kernel.proofs.by_keys.accumulators.Given as goal

-- those that are made stand for what the first condensers do
abbrev pub invariant-loop-k : goal.invariant-loop-k
invariant-loop-k g l = record {
  stands : (k : ℕ) (a : Accumulator) → k < l.k → (c : _) (told : List Told)
      → ((get_or l.tallied k c).count ≡ length told) × IsKeptOf g.S.Summary.keeps (get_or l.tallied k c).condensed.summary (get_or l.tallied k c).condensed.first.fault (get_or l.tallied k c).condensed.first.place told
      → Stands (get_or l.folds.items k a) told;
  op : AreOf g.S.Summary.op l.folds.items;
  length : length l.folds.items ≡ l.k;
}
