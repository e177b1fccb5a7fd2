use Rattle.std.proofs.Common.{◌≡◌, ◌<◌, ℕ, get_or, length, pos}
use Rattle.file_bytes.specs.declared.form.Form.TheVariants.{Runs}
use Rattle.run_tile.specs.Raw.{cells_in}
use Rattle.run_tile.specs.Picking.{IsStart}
use Rattle.run_tile.proofs.picking.walk_runs.Given as goal

-- the cells at the first ranks are there, and were written
abbrev pub invariant-loop-place : goal.invariant-loop-place
invariant-loop-place l = record {
  start : IsStart l.kind l.bytes l.at;
  there : (k : ℕ) → k < l.place → get_or l.ranks k 0 < length (cells_in Runs l.kind l.bytes);
  written : (k : ℕ) → k < l.place → get_or l.cells k (pos 0) ≡ get_or (cells_in Runs l.kind l.bytes) (get_or l.ranks k 0) (pos 0);
}
