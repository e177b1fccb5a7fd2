use Rattle.std.proofs.Common.{◌≡◌, map, take}
use Rattle.wcps_types.specs.Boxes.{item_number}
use Rattle.wcps_types.proofs.boxes.item_numbers.Given as goal

abbrev pub invariant-loop-item : goal.invariant-loop-item
invariant-loop-item l = l.numbers.items ≡ map item_number (take l.item-index l.items)
