-- The numbers, and behind them the variables of a box, which go over its points.
use Rattle.std.proofs.Common.{◌++◌, ◌∙◌, ap, arith, []}
use Rattle.tile_columns.specs.Frames.{environment, turns}
use Rattle.tile_columns.proofs.Turns.{box_under, none_whole}
use Rattle.tile_columns.proofs.frame.Frame.of_box_under.Goals as goal

pub invariant_of-result : goal.invariant_of-result
invariant_of-result c = record {
  few = omega (arith, c.points-places.ensures.count, c.requires);
  whole = c.push_axes.ensures.whole c.points-places.result (c.push_numbers.ensures.whole c.points-places.result (none_whole c.points-places.result _ c.new-variables.ensures.items));
}

pub returns : goal.returns
returns c =
    box_under c.args.area.now c.args.numbers.now c.points-places.result _ c.points-places.ensures.count
    (λ k. c.in_ok-push_axes.ensures.numbers k ∙ ap (λ v. v ++ turns c.axes.result.now k) (c.in_ok-push_numbers.ensures.numbers k ∙ ap (λ v. environment v k ++ c.args.numbers.now) c.new-variables.ensures.items) ∙ ap (λ a. (environment [] k ++ c.args.numbers.now) ++ turns a k) c.axes.ensures.value)
