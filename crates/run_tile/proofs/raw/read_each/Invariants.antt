use Rattle.std.proofs.Common.{◌≡◌, ◌<◌, ℕ, get_or, map, pos, length, IsTrue, false}
use Rattle.arr_core.specs.Cells.{Fits}
use Rattle.run_tile.specs.Raw.{raw_at}
use Rattle.run_tile.proofs.raw.read_each.Given as goal

abbrev pub invariant-loop-place : goal.invariant-loop-place
invariant-loop-place g l = record {
  read : (k : ℕ) → k < l.place → get_or (map g.N.Number.number l.cells) k (pos 0) ≡ raw_at l.kind l.bytes k;
  fit : IsTrue l.fit → (k : ℕ) → k < l.place → Fits l.kind (raw_at l.kind l.bytes k);
  unfit : (l.fit ≡ false) → (k : ℕ) × (k < length l.cells) × ¬ (Fits l.kind (raw_at l.kind l.bytes k));
}
