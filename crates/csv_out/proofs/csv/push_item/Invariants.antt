use Rattle.std.proofs.Common.{◌≡◌, ◌++◌, ◌≤◌, ◌-◌, length, drop}
use Rattle.std.specs.String.{string_bytes}
use Rattle.csv_out.specs.Csv.{cells_text, item_text}
use Rattle.csv_out.proofs.csv.push_item.Given as goal

abbrev pub invariant-loop-done : goal.invariant-loop-done
invariant-loop-done l = record {
  inside : l.done ≤ length l.cells;
  pushed : string_bytes l.text ++ cells_text l.shape.fields l.shape.line l.done (drop l.done l.cells) ≡ string_bytes l.fn.text ++ item_text l.item;
}

abbrev pub decreases-loop-done : goal.decreases-loop-done
decreases-loop-done l = length l.cells - l.done
