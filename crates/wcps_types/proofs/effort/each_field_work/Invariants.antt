use Rattle.std.proofs.Common.{◌≡◌, ◌+◌, ◌≤◌, drop}
use Rattle.wcps_types.specs.Typed.{fields_view}
use Rattle.wcps_types.specs.Work.{fields_work, max_work, capped}
use Rattle.wcps_types.proofs.effort.each_field_work.Given as goal

abbrev pub invariant-loop-field : goal.invariant-loop-field
invariant-loop-field l = record {
  few : l.total ≤ max_work + 1;
  counted : capped (l.total + fields_work (fields_view l.node l.field (drop l.field l.booleans))) ≡ capped (fields_work (fields_view l.node 0 l.booleans));
}
