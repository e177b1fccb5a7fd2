-- Each name has its place among the variables and the new one behind them.
use Rattle.std.proofs.Common.{◌≡◌, ◌∙◌, length, arith}
use Rattle.std.specs.BTreeMap.{get_by_text}
use Rattle.wcps_types.specs.Bindings.{bound_to}
use Rattle.wcps_types.proofs.Places.{placed-more}
use Rattle.wcps_types.proofs.bound.with_variable.Goals as goal

pub invariant_of-result : goal.invariant_of-result
invariant_of-result c =
    let before = c.args.variables in
    let many : c.len.result ≡ length before.list.items = omega (arith, before.list.ok, c.len.ensures) in
    record {
      placed = placed-more before.list.items c.push.new.self.items (bound_to c.in_ok-variable.variable c.args.coverage) c.args.name.now c.len.result (get_by_text before.places) (get_by_text c.in_ok-places.places)
          before.placed c.in_ok-places.ensures many (c.in_ok-variable.ensures ∙ c.as_str.ensures) c.in_ok-push.ensures.items;
    }
