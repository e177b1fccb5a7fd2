-- A few more cells of the item have their text.
use Rattle.std.proofs.Common.{◌≡◌, ◌-◌, ◌++◌, ◌∙◌, take_all, length-drop, refl, arith, drop}
use Rattle.std.specs.String.{string_bytes}
use Rattle.csv_out.specs.Csv.{item_text}
use Rattle.csv_out.proofs.Lines.{few-more}
use Rattle.csv_out.proofs.csv.push_item.Goals as goal

pub loop-done-preserved : goal.loop-done-preserved
loop-done-preserved c =
    let cells = c.as_slice-cells.result.now in
    let begin = c.write_cells-begin.result in
    let shown : c.ascii.result.now ≡ drop begin c.write_cells-begin.new.room =
    c.ascii.ensures ∙ take_all (2688 - begin) (drop begin c.write_cells-begin.new.room) (omega (arith, length-drop begin c.write_cells-begin.new.room, c.write_cells-begin.array_long)) in
    record {
      inside = omega arith;
      pushed = few-more (string_bytes c.loop-done.text) c.ascii.result.now _ (string_bytes c.args.text.now ++ item_text c.args.item.now) c.max.result c.max-2.result c.loop-done.done c.min-end.result cells _ (omega arith) (omega arith) refl (shown ∙ c.write_cells-begin.ensures.text) c.in_ok-push_str.ensures.bytes c.loop-done.invariant.pushed;
    }
