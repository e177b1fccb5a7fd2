use Rattle.std.proofs.Common.{◌≡◌, drop}
use Rattle.wcps_text.specs.Tree.{bindings_of}
use Rattle.wcps_types.specs.Bindings.{bound_from, bindings_view, no_bindings}
use Rattle.wcps_types.proofs.bindings.resolve_bindings.Given as goal

abbrev pub invariant-loop-binding : goal.invariant-loop-binding
invariant-loop-binding l =
    bound_from l.signatures (bindings_view l.bindings) (bindings_of (drop l.binding-index l.list)) ≡ bound_from l.signatures no_bindings (bindings_of l.list)
