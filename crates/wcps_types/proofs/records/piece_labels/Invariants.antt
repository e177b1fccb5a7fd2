use Rattle.std.proofs.Common.{◌≡◌, map, take}
use Rattle.wcps_types.specs.Parts.{piece_label}
use Rattle.wcps_types.proofs.records.piece_labels.Given as goal

abbrev pub invariant-loop-piece : goal.invariant-loop-piece
invariant-loop-piece l = l.labels.items ≡ map piece_label (take l.piece-index l.list)
