-- The span of a place.
use Rattle.std.proofs.Common.{◌≡◌, ◌≤ℤ◌, ◌+ℤ◌, rules, arith, SFits, w32}
use Rattle.std.specs.Int.{int_max, int_min}
use Rattle.std.proofs.lemmas.Int.{ints, to_z-of_z}
use Rattle.tile_columns.proofs.Reaches.{from_halo, to_halo, no_span, some_span, span_within}
use Rattle.tile_columns.proofs.reach.span_at.Goals as goal

pub returns-then-last-first-clause-reached : goal.returns-then-last-first-clause-reached
returns-then-last-first-clause-reached c =
    let r = c.args.reach.now in
    let p = c.args.place in
    let b : SFits w32 r.bounds.lo = search rules in
    let d : SFits w32 r.bounds.hi = search rules in
    let f : SFits w32 r.offsets.lo = search rules in
    let h : SFits w32 r.offsets.hi = search rules in
    let low : c.lowest-first.result ≡ int_max (p +ℤ r.offsets.lo) r.bounds.lo = grind (arith, to_z-of_z, c.ranges.place, c.lowest-first.ensures.value) in
    let high : c.highest-last.result ≡ int_min (p +ℤ r.offsets.hi) r.bounds.hi = grind (arith, to_z-of_z, c.ranges.place, c.highest-last.ensures.value) in
    no_span r p c.lowest-first.result c.highest-last.result c.requires.reach low high (omega (arith, ints, c.lowest-first.ensures.within, c.highest-last.ensures.within, c.if-last-first.true))

pub steps_to-requires : goal.steps_to-requires
steps_to-requires c =
    let r = c.args.reach.now in
    let p = c.args.place in
    let b : SFits w32 r.bounds.lo = search rules in
    let f : SFits w32 r.offsets.lo = search rules in
    let h : SFits w32 r.halo.lo = search rules in
    let low : c.lowest-first.result ≡ int_max (p +ℤ r.offsets.lo) r.bounds.lo = grind (arith, to_z-of_z, c.ranges.place, c.lowest-first.ensures.value) in
    let from = from_halo r p c.lowest-first.result c.requires.reach c.requires.low low in
    record { low = omega (arith, ints, h, from, c.lowest-first.ensures.within); high = omega (arith, ints, c.lowest-first.ensures.within) }

pub steps_to-requires-2 : goal.steps_to-requires-2
steps_to-requires-2 c =
    let r = c.args.reach.now in
    let p = c.args.place in
    let b : SFits w32 r.bounds.lo = search rules in
    let f : SFits w32 r.offsets.lo = search rules in
    let h : SFits w32 r.halo.lo = search rules in
    let low : c.lowest-first.result ≡ int_max (p +ℤ r.offsets.lo) r.bounds.lo = grind (arith, to_z-of_z, c.ranges.place, c.lowest-first.ensures.value) in
    let from = from_halo r p c.lowest-first.result c.requires.reach c.requires.low low in
    let order : c.lowest-first.result ≤ℤ c.highest-last.result = omega (arith, ints, c.lowest-first.ensures.within, c.highest-last.ensures.within, c.if-last-first.false) in
    record { low = omega (arith, ints, h, from, order, c.highest-last.ensures.within); high = omega (arith, ints, c.highest-last.ensures.within) }

pub returns-clause-reached : goal.returns-clause-reached
returns-clause-reached c =
    let r = c.args.reach.now in
    let p = c.args.place in
    let b : SFits w32 r.bounds.lo = search rules in
    let d : SFits w32 r.bounds.hi = search rules in
    let f : SFits w32 r.offsets.lo = search rules in
    let g : SFits w32 r.offsets.hi = search rules in
    let h : SFits w32 r.halo.lo = search rules in
    let low : c.lowest-first.result ≡ int_max (p +ℤ r.offsets.lo) r.bounds.lo = grind (arith, to_z-of_z, c.ranges.place, c.lowest-first.ensures.value) in
    let high : c.highest-last.result ≡ int_min (p +ℤ r.offsets.hi) r.bounds.hi = grind (arith, to_z-of_z, c.ranges.place, c.highest-last.ensures.value) in
    let order : c.lowest-first.result ≤ℤ c.highest-last.result = omega (arith, ints, c.lowest-first.ensures.within, c.highest-last.ensures.within, c.if-last-first.false) in
    some_span r p c.lowest-first.result c.highest-last.result c.steps_to.result c.steps_to-2.result c.requires.reach low high order
    (omega (arith, ints, h, c.lowest-first.ensures.within, c.steps_to.ensures.value)) (omega (arith, ints, h, c.highest-last.ensures.within, c.steps_to-2.ensures.value))

pub returns-clause-within : goal.returns-clause-within
returns-clause-within c =
    let r = c.args.reach.now in
    let p = c.args.place in
    let d : SFits w32 r.bounds.hi = search rules in
    let g : SFits w32 r.offsets.hi = search rules in
    let h : SFits w32 r.halo.lo = search rules in
    let high : c.highest-last.result ≡ int_min (p +ℤ r.offsets.hi) r.bounds.hi = grind (arith, to_z-of_z, c.ranges.place, c.highest-last.ensures.value) in
    let order : c.lowest-first.result ≤ℤ c.highest-last.result = omega (arith, ints, c.lowest-first.ensures.within, c.highest-last.ensures.within, c.if-last-first.false) in
    span_within r c.lowest-first.result c.highest-last.result c.steps_to.result c.steps_to-2.result order (to_halo r p c.highest-last.result c.requires.reach c.requires.high high)
    (omega (arith, ints, h, c.lowest-first.ensures.within, c.steps_to.ensures.value)) (omega (arith, ints, h, c.highest-last.ensures.within, c.steps_to-2.ensures.value))
