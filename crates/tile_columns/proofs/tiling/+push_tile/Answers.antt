-- The variables of the axes behind the first one, and the first one in the place that was kept for it.
use Rattle.std.proofs.Common.{◌≡◌, ◌∙◌, ◌+◌, ◌-◌, ◌*◌, arith, rules, ap, refl, length, take, drop, SFits, w32, to_z, of_z}
use Rattle.std.proofs.lemmas.Int.{to_z-of_z}
use Rattle.std.proofs.lemmas.Grind.{common_steps}
use Rattle.arr_core.specs.Domains.{gap}
use Rattle.arr_core.proofs.FirstAxis.{cut}
use Rattle.tile_columns.proofs.Turns.{gap_of}
use Rattle.tile_columns.proofs.Tilings.{adds_more, part_small, place_within}
use Rattle.tile_columns.proofs.tiling.+push_tile.Goals as goal

pub tile_bounds-lo-requires-clause-inside : goal.tile_bounds-lo-requires-clause-inside
tile_bounds-lo-requires-clause-inside t c =
    place_within c.args.edge c.in_ok-behind-in-len1-up.behind.ahead c.tiles_along-along.result (gap c.axis-item.result.lo c.axis-item.result.hi) c.requires.some c.tiles_along-along.ensures.value

pub returns-in_ok-behind-in-len1-up-clause-few : goal.returns-in_ok-behind-in-len1-up-clause-few
returns-in_ok-behind-in-len1-up-clause-few t c =
    let lo : SFits w32 c.tile_bounds-lo.result.0 = search rules in
    let hi : SFits w32 c.tile_bounds-lo.result.1 = search rules in
    let axes = c.args.axes.now in
    let e = cut axes c.axis-item.result c.in-len1-up.len_at_least c.axis-item.is in
    let part = gap_of c.distance.result _ _ c.tile_bounds-lo.result.0 c.tile_bounds-lo.result.1 c.distance.ensures.gap (to_z-of_z w32 c.tile_bounds-lo.result.0 lo) (to_z-of_z w32 c.tile_bounds-lo.result.1 hi) in
    part_small axes (take (length axes - 1) (drop 1 axes)) c.axis-item.result c.distance.result c.in_ok-behind-in-len1-up.behind.points e (omega (arith, part, c.tile_bounds-lo.ensures.small)) c.in_ok-behind-in-len1-up.ensures.few

pub overflow_mul-result : goal.overflow_mul-result
overflow_mul-result t c =
    let lo : SFits w32 c.tile_bounds-lo.result.0 = search rules in
    let hi : SFits w32 c.tile_bounds-lo.result.1 = search rules in
    let axes = c.args.axes.now in
    let e = cut axes c.axis-item.result c.in-len1-up.len_at_least c.axis-item.is in
    let part = gap_of c.distance.result _ _ c.tile_bounds-lo.result.0 c.tile_bounds-lo.result.1 c.distance.ensures.gap (to_z-of_z w32 c.tile_bounds-lo.result.0 lo) (to_z-of_z w32 c.tile_bounds-lo.result.1 hi) in
    let few = part_small axes (take (length axes - 1) (drop 1 axes)) c.axis-item.result c.distance.result c.in_ok-behind-in-len1-up.behind.points e (omega (arith, part, c.tile_bounds-lo.ensures.small)) c.in_ok-behind-in-len1-up.ensures.few in
    omega (arith, few, c.requires.few)

pub returns-in_ok-behind-in-len1-up-clause-added : goal.returns-in_ok-behind-in-len1-up-clause-added
returns-in_ok-behind-in-len1-up-clause-added t c =
    let low : SFits w32 c.tile_bounds-lo.result.0 = search rules in
    let high : SFits w32 c.tile_bounds-lo.result.1 = search rules in
    let axes = c.args.axes.now in
    let a = c.axis-item.result in
    let e = cut axes a c.in-len1-up.len_at_least c.axis-item.is in
    let same_lo : to_z w32 (of_z w32 c.tile_bounds-lo.result.0) ≡ c.tile_bounds-lo.result.0 = to_z-of_z w32 c.tile_bounds-lo.result.0 low in
    let same_hi : to_z w32 (of_z w32 c.tile_bounds-lo.result.1) ≡ c.tile_bounds-lo.result.1 = to_z-of_z w32 c.tile_bounds-lo.result.1 high in
    let level : c.len-level.result ≡ length c.args.variables.now.items = search rules in
    adds_more c.args.edge axes (take (length axes - 1) (drop 1 axes)) a c.args.number c.len-level.result c.tiles_along-along.result
    (to_z w32 (of_z w32 c.tile_bounds-lo.result.0)) (to_z w32 (of_z w32 c.tile_bounds-lo.result.1)) c.args.variables.now.items c.push.new.self.items c.push_tile.new.variables.items _ c.in_ok-behind-in-len1-up.behind _
    e c.in_ok-push-in-len1-up.ensures.items c.in_ok-behind-in-len1-up.ensures.added level c.tiles_along-along.ensures.value
    (same_lo ∙ c.tile_bounds-lo.ensures.lo) (same_hi ∙ c.tile_bounds-lo.ensures.hi) refl refl (ap (λ d. (d + 1) * c.in_ok-behind-in-len1-up.behind.points) c.distance.ensures.gap)

pub push_tile-requires : goal.push_tile-requires
push_tile-requires t c = grind (arith, common_steps)

pub index_mut-requires : goal.index_mut-requires
index_mut-requires t c = grind (arith, common_steps)

pub returns-in-empty-clause-added : goal.returns-in-empty-clause-added
returns-in-empty-clause-added t c = grind (arith, common_steps)

pub returns-in-empty-clause-few : goal.returns-in-empty-clause-few
returns-in-empty-clause-few t c = grind (arith, common_steps)
