-- With the next value there is one more that repeats the one before, or one more run begins.
use Rattle.std.proofs.Common.{◌-◌, ◌+◌, ◌*◌, ◌≤◌, ap, arith, mul-le-mul_right}
use Rattle.run_tile.specs.Types.{width_of}
use Rattle.run_tile.specs.Raw.{runs_from}
use Rattle.run_tile.proofs.RawTiles.{repeats-step}
use Rattle.run_tile.proofs.raw.count_starts.Goals as goal

pub loop-place-preserved : goal.loop-place-preserved
loop-place-preserved c =
    let kind = c.args.kind in
    let bytes = c.args.bytes.now in
    let place = c.loop-place.place in
    let room : (place + 1) * width_of kind ≤ c.args.end * width_of kind = mul-le-mul_right (width_of kind) (omega arith) in
    let step = repeats-step kind bytes (place - 1) place (omega arith) (omega (arith, room, c.requires.within)) in
    let same = ap (runs_from kind bytes) {x = place + 1 - 1} {y = place} (omega arith) in
    record { counted = omega (arith, c.loop-place.invariant.counted, step, same, c.repeats_at-repeats.ensures.value); few = omega (arith, c.repeats_at-repeats.ensures.small, c.loop-place.invariant.few) }
