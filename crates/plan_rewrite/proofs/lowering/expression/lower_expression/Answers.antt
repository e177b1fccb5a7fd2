-- The body gives what the field's tree gives under its iterators at its point, and has its place there.
use Rattle.std.proofs.Common.{sym, subst}
use Rattle.wcps_types.specs.Typed.{field_tree}
use Rattle.plan_rewrite.specs.Lowered.{IsBodyFor}
use Rattle.plan_rewrite.proofs.Lowers.{outer-means, outer-placed}
use Rattle.plan_rewrite.proofs.lowering.expression.lower_expression.Goals as goal

pub returns : goal.returns
returns c =
    let t = field_tree c.args.e.now c.args.field in
    let iterators = c.args.iterators.now in
    let axes = c.args.axes.now in
    subst (IsBodyFor iterators axes t) (sym c.in_ok-b.ensures) (record { value = outer-means t iterators axes; placed = outer-placed t iterators axes })
