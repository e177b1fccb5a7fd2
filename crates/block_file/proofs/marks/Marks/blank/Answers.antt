-- Of blank marks only the header's is not zero, so all blocks but that one are free.
use Rattle.std.proofs.Common.{ℕ, List, set, ap}
use Rattle.block_file.proofs.Markings.{blank_marks}
use Rattle.block_file.proofs.marks.Marks.blank.Goals as goal

pub invariant_of-result : goal.invariant_of-result
invariant_of-result c = blank_marks c.args.blocks _ (ap (λ (xs : List ℕ). set xs 0 1) (c.in_ok-marks.ensures.items_if_clones_equal (λ y e. e))) c.requires.some c.requires.few
