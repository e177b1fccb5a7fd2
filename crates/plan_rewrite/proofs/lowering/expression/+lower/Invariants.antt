use Rattle.std.proofs.Common.{◌+◌, ◌*◌, max}
use Rattle.wcps_types.proofs.typed.Node.TheLaws.{the_size}
use Rattle.plan_rewrite.proofs.lowering.expression.+lower.Given as goal

-- a node's height comes first, then which function hands the same node to which
abbrev pub decreases-lowered : goal.decreases-lowered
decreases-lowered l = 3 * goal.size-lowered l + 0

abbrev pub decreases-lowered_scalar : goal.decreases-lowered_scalar
decreases-lowered_scalar l = 3 * goal.size-lowered_scalar l + 1

abbrev pub decreases-lowered_bind : goal.decreases-lowered_bind
decreases-lowered_bind l = 3 * goal.size-lowered_bind l + 2

abbrev pub decreases-lowered_fold : goal.decreases-lowered_fold
decreases-lowered_fold l = 3 * goal.size-lowered_fold l + 1

abbrev pub decreases-lowered_choice : goal.decreases-lowered_choice
decreases-lowered_choice l = 3 * goal.size-lowered_choice l + 1

abbrev pub decreases-lowered_slice : goal.decreases-lowered_slice
decreases-lowered_slice l = 3 * goal.size-lowered_slice l + 1

abbrev pub decreases-lowered_array : goal.decreases-lowered_array
decreases-lowered_array l = 3 * goal.size-lowered_array l + 1

abbrev pub decreases-lowered_condense : goal.decreases-lowered_condense
decreases-lowered_condense l = 3 * goal.size-lowered_condense l + 2

abbrev pub decreases-lowered_reduce : goal.decreases-lowered_reduce
decreases-lowered_reduce l = 3 * goal.size-lowered_reduce l + 2

abbrev pub decreases-lowered_where : goal.decreases-lowered_where
decreases-lowered_where l = 3 * max (the_size l.condition.now) (the_size l.body.now) + 2

abbrev pub decreases-lowered_unary : goal.decreases-lowered_unary
decreases-lowered_unary l = 3 * goal.size-lowered_unary l + 1

abbrev pub decreases-lowered_binary : goal.decreases-lowered_binary
decreases-lowered_binary l = 3 * max (the_size l.l.now) (the_size l.r.now) + 1
