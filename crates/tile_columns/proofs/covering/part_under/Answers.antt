-- The bounds of the variable are those of the part of the axis at their place.
use Rattle.std.proofs.Common.{rules, arith, ◌≡◌, ◌∙◌, ◌+◌, ◌/◌, ◌≤◌, sym, ap, subst, pos, SFits, w32, to_z, of_z}
use Rattle.std.proofs.lemmas.Int.{ints, to_z-of_z}
use Rattle.arr_core.specs.Domains.{gap}
use Rattle.arr_core.specs.Tiles.{part_of}
use Rattle.arr_core.proofs.Grids.{div-mono}
use Rattle.tile_columns.specs.Frames.{turn}
use Rattle.tile_columns.proofs.Turns.{gap_of}
use Rattle.tile_columns.proofs.covering.part_under.Goals as goal

pub returns-clause-turns : goal.returns-clause-turns
returns-clause-turns c =
    let a = c.args.axis.now in
    let edge = c.args.edge in
    let lo = c.tile_bounds-lo.result.0 in
    let hi = c.tile_bounds-lo.result.1 in
    let part = part_of edge a (pos (c.distance.result / edge)) in
    let begin : SFits w32 a.lo = search rules in
    let end : SFits w32 a.hi = search rules in
    let first : SFits w32 c.in-Some.bounds.lo = search rules in
    let low : SFits w32 lo = search rules in
    let high : SFits w32 hi = search rules in
    let same_lo : to_z w32 (of_z w32 lo) ≡ lo = to_z-of_z w32 lo low in
    let same_hi : to_z w32 (of_z w32 hi) ≡ hi = to_z-of_z w32 hi high in
    let above : c.distance.result ≡ gap a.lo c.in-Some.bounds.lo = gap_of _ _ _ a.lo c.in-Some.bounds.lo c.distance.ensures.gap (to_z-of_z w32 a.lo begin) (to_z-of_z w32 c.in-Some.bounds.lo first) in
    let less : gap a.lo c.in-Some.bounds.lo ≤ gap a.lo a.hi = omega (arith, ints, begin, end, first, c.if-bounds-axis.false, c.if-axis-bounds.false) in
    let wide : c.distance-2.result ≡ gap lo hi = gap_of _ _ _ lo hi c.distance-2.ensures.gap same_lo same_hi in
    record {
      within = subst (λ n. n / edge ≤ gap a.lo a.hi / edge) (sym above) (div-mono (gap a.lo c.in-Some.bounds.lo) (gap a.lo a.hi) edge c.requires.some less);
      size = ap (λ n. n + 1) wide ∙ ap (λ x. gap x hi + 1) c.tile_bounds-lo.ensures.lo ∙ ap (λ x. gap part.lo x + 1) c.tile_bounds-lo.ensures.hi;
      turns = λ k. c.turns_as.ensures c.if-not-turns_as.false k
          ∙ ap (λ x. turn x (to_z w32 (of_z w32 hi)) c.args.every k) (same_lo ∙ c.tile_bounds-lo.ensures.lo)
          ∙ ap (λ x. turn part.lo x c.args.every k) (same_hi ∙ c.tile_bounds-lo.ensures.hi);
    }
