-- The points of the part are places of the fold.
use Rattle.std.proofs.Common.{◌∙◌, refl, ap, sym, subst, arith, length}
use Rattle.arr_core.specs.Domains.{points, count}
use Rattle.arr_core.proofs.Points.{length-points}
use Rattle.plan_ir.specs.Bodies.{fold_view}
use Rattle.plan_ir.specs.Units.{bound_times}
use Rattle.tile_columns.specs.Keys.{key_in}
use Rattle.tile_columns.specs.Meaning.{HasPlaceOver}
use Rattle.tile_columns.specs.Zones.{AreZonesOf}
use Rattle.tile_exec.proofs.Knowing.{zones_at, points_long, key_times}
use Rattle.tile_exec.proofs.keyed.pass_column.Goals as goal

pub evaluate_keyed-requires-clause-zones : goal.evaluate_keyed-requires-clause-zones
evaluate_keyed-requires-clause-zones g c =
    let k = c.args.key.now in
    let part = c.args.part.now in
    let keyed = c.requires.keyed in
    let some = keyed.some in
    subst (λ f. AreZonesOf k.fold.now f k.zones) (sym c.in_ok-frame.ensures)
    (zones_at (length part) (fold_view k.fold.now) k (points part) keyed.found (points_long part c.axes-axes.ensures.domain.ordered) (omega (arith, some, length-points part)))

pub evaluate_keyed-requires-clause-place : goal.evaluate_keyed-requires-clause-place
evaluate_keyed-requires-clause-place g c =
    let keyed = c.requires.keyed in
    subst (HasPlaceOver (g.S.Tiles.state c.args.source.now) c.args.ground.now (fold_view c.args.key.now.fold.now)) (sym c.in_ok-frame.ensures) keyed.body

pub returns-clause-fetched : goal.returns-clause-fetched
returns-clause-fetched g c =
    let k = c.args.key.now in
    let part = c.args.part.now in
    let keyed = c.requires.keyed in
    let f = c.in_ok-evaluate_keyed.ensures.fetched in
    let n = ap (λ l. bound_times (length l) (key_in k.zones (fold_view k.fold.now))) c.in_ok-frame.ensures ∙ ap (λ m. bound_times m (key_in k.zones (fold_view k.fold.now))) (length-points part) in
    let e = key_times (length part) (count part) (fold_view k.fold.now) k keyed.found refl in
    omega (arith, f, n, e)
