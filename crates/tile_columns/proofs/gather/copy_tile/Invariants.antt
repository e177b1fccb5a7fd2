use Rattle.std.proofs.Common.{◌≡◌, ℕ, ◌≤◌, get_or, pos}
use Rattle.tile_columns.proofs.Gathers.{IsCopied, LeavesOthers}
use Rattle.tile_columns.proofs.gather.copy_tile.Given as goal

abbrev pub invariant-loop-place : goal.invariant-loop-place
invariant-loop-place l = record {
  copied : IsCopied l.number l.place l.numbers (λ j. get_or l.tile (get_or l.ranks j 0) (pos 0)) l.all;
  kept : LeavesOthers l.number l.place l.numbers l.fn.cells.items l.all;
  rest : (j : ℕ) → l.place ≤ j → get_or l.all j (pos 0) ≡ get_or l.fn.cells.items j (pos 0);
}
