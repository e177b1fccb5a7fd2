-- One more axis.
use Rattle.std.proofs.Common.{◌∙◌, ap, sym, arith, length}
use Rattle.std.proofs.lemmas.List.{length-map}
use Rattle.tile_exec.proofs.Sampling.{points_first, points_next, points_all}
use Rattle.tile_exec.proofs.samples.frame_of.Goals as goal

pub loop-axis-init : goal.loop-axis-init
loop-axis-init c = c.in_ok-frame.ensures ∙ points_first c.args.samples.now

pub coordinates-requires : goal.coordinates-requires
coordinates-requires c = λ k d lt. let deep = c.requires.deep k d lt in omega (arith, deep, c.loop-axis-test.true)

pub push_column-requires : goal.push_column-requires
push_column-requires c =
    ap length c.in_ok-numbers.ensures ∙ length-map c.args.samples.now _ ∙ sym (ap length c.loop-axis.invariant ∙ length-map c.args.samples.now _)

pub loop-axis-preserved : goal.loop-axis-preserved
loop-axis-preserved c =
    points_next c.loop-axis.axis c.args.samples.now c.in_ok-numbers.numbers.items c.loop-axis.frame c.push_column.new.self c.loop-axis.invariant c.in_ok-numbers.ensures c.in_ok-push_column.ensures
    (λ k d lt. let deep = c.requires.deep k d lt in omega (arith, deep, c.loop-axis-test.true))

pub returns : goal.returns
returns c =
    points_all c.loop-axis.axis c.args.samples.now c.loop-axis.frame c.loop-axis.invariant
    (λ k d lt. let deep = c.requires.deep k d lt in omega (arith, deep, c.loop-axis-test.false, c.loop-axis.auto.axis-end))
