use Rattle.std.proofs.Common.{◌≡◌, ◌*◌, ◌≤◌, length, take, All}
use Rattle.std.specs.List.{sum_by}
use Rattle.catalogue.proofs.lengths.list_len.Given as goal

abbrev pub invariant-loop-part : goal.invariant-loop-part
invariant-loop-part g l = record {
  value : l.total ≡ sum_by (λ x. length (g.T.Measured.code x)) (take l.part-index l.list);
  small : l.total ≤ g.T.Measured.most * l.part-index;
  each : All g.T.Measured.is_value (take l.part-index l.list);
}
