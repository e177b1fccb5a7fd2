-- One more place.
use Rattle.std.proofs.Common.{arith, ◌<◌, length}
use Rattle.tile_kernel.proofs.Places.{outcome_there}
use Rattle.tile_exec.proofs.Sampling.{none_so_far, more_added}
use Rattle.tile_exec.proofs.samples.add_points.Goals as goal

pub loop-place-init : goal.loop-place-init
loop-place-init c = none_so_far c.args.part.now c.args.keys.now c.args.samples.now.items

pub loop-place-preserved : goal.loop-place-preserved
loop-place-preserved c =
    let k = c.loop-place.place in
    let keys = c.args.keys.now in
    let lt : k < length keys = omega (arith, c.loop-place-test.true, c.len-place-end.ensures.places) in
    more_added c.args.part.now keys k c.at.result c.args.samples.now.items c.loop-place.samples.items c.add_point.new.samples.items lt
    (outcome_there keys k c.at.result c.at.ensures) c.loop-place.invariant c.in_ok-add_point.ensures
