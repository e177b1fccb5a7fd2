-- The steps so far are those of the first trees, and where there is no further tree they are those of all.
use Rattle.std.proofs.Common.{◌≡◌, length, arith}
use Rattle.wcps_types.specs.TypedQueries.{trees_in}
use Rattle.plan_ir.specs.Plans.{steps_view}
use Rattle.plan_rewrite.proofs.LoweredQueries.{lowered-more, lowered-ended}
use Rattle.plan_rewrite.proofs.lowering.query.each_lowered.Goals as goal

pub loop-list-preserved : goal.loop-list-preserved
loop-list-preserved c =
    let before = c.loop-list.list in
    let many : c.len.result ≡ length before.items = omega (arith, before.ok, c.len.ensures) in
    lowered-more steps_view (trees_in c.args.query.now) before.items c.push.new.self.items c.in_ok-steps.field-0 c.in-Some.steps c.len.result c.in_ok-steps.ensures c.in-Some.is many c.in_ok-push.ensures.items c.loop-list.invariant

pub returns : goal.returns
returns c =
    let all = c.loop-list.list in
    let many : c.len.result ≡ length all.items = omega (arith, all.ok, c.len.ensures) in
    lowered-ended steps_view (trees_in c.args.query.now) all.items c.in_ok-steps.field-0 c.len.result c.in_ok-steps.ensures c.in_default.is many c.loop-list.invariant
