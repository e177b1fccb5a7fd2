use Rattle.std.proofs.Common.{◌≡◌, ◌∷◌, [], length, map}
use Rattle.wcps_mean.specs.declared.cell.Outcome.TheVariants.{Value}
use Rattle.tile_exec.specs.Items.{AreWrittenTo}
use Rattle.tile_exec.specs.Rows.{cells_told}
use Rattle.tile_exec.proofs.row.write_values.Given as goal

abbrev pub invariant-loop-k : goal.invariant-loop-k
invariant-loop-k l = record {
  length : length l.cells.items ≡ length l.fn.cells.items;
  written : AreWrittenTo l.fn.cells.items l.cells.items (cells_told l.ranks (l.boolean ∷ []) (map Value l.values ∷ []) l.k);
}
