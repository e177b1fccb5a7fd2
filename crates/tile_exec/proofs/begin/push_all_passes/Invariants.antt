use Rattle.std.proofs.Common.{◌≡◌, take}
use Rattle.plan_ir.specs.Plans.{plan_view}
use Rattle.tile_exec.specs.Tasks.{all_passes}
use Rattle.tile_exec.specs.Begun.{Adds}
use Rattle.tile_exec.proofs.Begun.{total}
use Rattle.tile_exec.proofs.begin.push_all_passes.Given as goal

abbrev pub invariant-loop-k : goal.invariant-loop-k
invariant-loop-k l = record {
  first : l.first ≡ total (plan_view l.plan).steps 0 (take l.k (plan_view l.plan).combinations);
  adds : Adds l.plan l.fn.list l.list (all_passes (plan_view l.plan).steps 0 (take l.k (plan_view l.plan).combinations));
}
