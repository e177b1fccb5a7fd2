-- The halo's bounds are among those of the coverage.
use Rattle.std.proofs.Common.{◌≡◌, ◌≤ℤ◌, ◌+ℤ◌, rules, arith, ℤ, SFits, w32, w64, to_z, of_z, subst, sym, ◌∙◌}
use Rattle.std.specs.Int.{int_max, int_min}
use Rattle.tile_columns.specs.Reaching.{IsReach}
use Rattle.std.proofs.lemmas.Int.{ints, clamps, to_z-of_z}
use Rattle.tile_columns.proofs.reach.reach_of.Goals as goal

-- a halo as the code has it
halo_is : (pa pb ua ub ra rb lo hi : ℤ) → pa ≤ℤ pb → ua ≤ℤ ub → lo ≡ int_max (pa +ℤ ua) ra → hi ≡ int_min (pb +ℤ ub) rb → SFits w32 ra → SFits w32 rb → SFits w32 pa → SFits w32 pb → SFits w32 ua → SFits w32 ub → lo ≤ℤ hi
    → IsReach (record { places = record { lo = pa; hi = pb }; offsets = record { lo = ua; hi = ub }; bounds = record { lo = ra; hi = rb }; halo = record { lo = to_z w32 (of_z w32 (to_z w64 (of_z w64 lo))); hi = to_z w32 (of_z w32 (to_z w64 (of_z w64 hi))) } })
halo_is pa pb ua ub ra rb lo hi p u l h a b d e f g some =
    let low : SFits w32 lo = omega (arith, ints, clamps) in
    let high : SFits w32 hi = omega (arith, ints, clamps) in
    let lows : to_z w32 (of_z w32 (to_z w64 (of_z w64 lo))) ≡ lo = omega (arith, ints) in
    let highs : to_z w32 (of_z w32 (to_z w64 (of_z w64 hi))) ≡ hi = omega (arith, ints) in
    record {
      places = p;
      offsets = u;
      low = lows ∙ l;
      high = highs ∙ h;
      some = subst (λ x. x ≤ℤ to_z w32 (of_z w32 (to_z w64 (of_z w64 hi)))) (sym lows) (subst (λ y. lo ≤ℤ y) (sym highs) some);
      least = omega (arith, ints);
      most = omega (arith, ints);
    }

pub overflow_cast-result : goal.overflow_cast-result
overflow_cast-result c =
    let a : SFits w32 c.args.bounds.lo = search rules in
    let b : SFits w32 c.args.bounds.hi = search rules in
    omega (arith, ints, clamps, a, b, c.lowest-lo.ensures.value, c.highest-hi.ensures.value, c.lowest-lo.ensures.within, c.highest-hi.ensures.within, c.if-hi-lo.false)

pub overflow_cast-result-2 : goal.overflow_cast-result-2
overflow_cast-result-2 c =
    let a : SFits w32 c.args.bounds.lo = search rules in
    let b : SFits w32 c.args.bounds.hi = search rules in
    omega (arith, ints, clamps, a, b, c.lowest-lo.ensures.value, c.highest-hi.ensures.value, c.lowest-lo.ensures.within, c.highest-hi.ensures.within, c.if-hi-lo.false)

pub returns-clause-reach : goal.returns-clause-reach
returns-clause-reach c =
    let a : SFits w32 c.args.bounds.lo = search rules in
    let b : SFits w32 c.args.bounds.hi = search rules in
    let d : SFits w32 c.args.places.lo = search rules in
    let e : SFits w32 c.args.places.hi = search rules in
    let f : SFits w32 c.args.offsets.lo = search rules in
    let h : SFits w32 c.args.offsets.hi = search rules in
    let low : c.lowest-lo.result ≡ int_max (c.args.places.lo +ℤ c.args.offsets.lo) c.args.bounds.lo = grind (arith, to_z-of_z, c.lowest-lo.ensures.value) in
    let high : c.highest-hi.result ≡ int_min (c.args.places.hi +ℤ c.args.offsets.hi) c.args.bounds.hi = grind (arith, to_z-of_z, c.highest-hi.ensures.value) in
    halo_is _ _ _ _ _ _ _ _ c.requires.places c.requires.offsets low high a b d e f h (omega (arith, ints, c.lowest-lo.ensures.within, c.highest-hi.ensures.within, c.if-hi-lo.false))
