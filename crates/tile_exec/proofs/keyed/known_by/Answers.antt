-- The points of samples are places of the fold, and what it gives there is known of the numbers.
use Rattle.std.proofs.Common.{◌∙◌, refl, ap, sym, subst, arith, length, map}
use Rattle.std.proofs.lemmas.List.{length-map}
use Rattle.plan_ir.specs.Bodies.{fold_view}
use Rattle.plan_ir.specs.Placed.{spans}
use Rattle.plan_ir.specs.Units.{bound_times}
use Rattle.tile_columns.specs.Keys.{key_in}
use Rattle.tile_columns.specs.Meaning.{HasPlaceOver, meaning}
use Rattle.tile_columns.specs.Zones.{AreZonesOf}
use Rattle.tile_exec.specs.Known.{point_of}
use Rattle.tile_exec.proofs.Knowing.{inside_long, zones_at, samples_within, samples_long, known_so, key_times}
use Rattle.tile_exec.proofs.keyed.known_by.Goals as goal

pub frame_of-requires-clause-deep : goal.frame_of-requires-clause-deep
frame_of-requires-clause-deep g c = λ k d lt.
    let n = inside_long c.args.area.now _ (c.requires.inside k d lt) in
    n ∙ sym (ap length c.axes.ensures.value)

pub evaluate_keyed-requires-clause-zones : goal.evaluate_keyed-requires-clause-zones
evaluate_keyed-requires-clause-zones g c =
    let k = c.args.key.now in
    let xs = c.args.samples.now in
    let some = c.requires.some in
    let keyed = c.requires.keyed in
    subst (λ f. AreZonesOf k.fold.now f k.zones) (sym c.in_ok-frame.ensures)
    (zones_at (length c.args.area.now) (fold_view k.fold.now) k (map point_of xs) keyed.found (samples_long c.args.area.now xs c.requires.inside) (omega (arith, some, length-map xs point_of)))

pub evaluate_keyed-requires-clause-place : goal.evaluate_keyed-requires-clause-place
evaluate_keyed-requires-clause-place g c =
    let k = c.args.key.now in
    let keyed = c.requires.keyed in
    subst (HasPlaceOver (g.S.Tiles.state c.args.source.now) c.args.ground.now (fold_view k.fold.now)) (sym c.in_ok-frame.ensures)
    record { scope = spans c.args.area.now; placed = keyed.placed; within = samples_within c.args.area.now c.args.samples.now c.requires.inside }

pub pairs_of-requires : goal.pairs_of-requires
pairs_of-requires g c = c.in_ok-evaluate_keyed.ensures.places ∙ ap length c.in_ok-frame.ensures ∙ length-map c.args.samples.now point_of

pub returns-clause-value : goal.returns-clause-value
returns-clause-value g c = λ all intact.
    let s = g.S.Tiles.state c.args.source.now in
    let k = c.args.key.now in
    let keyed = c.requires.keyed in
    let is = c.in_ok-evaluate_keyed.ensures.value intact ∙ ap (map (meaning s c.args.ground.now (fold_view k.fold.now))) c.in_ok-frame.ensures in
    known_so s c.args.ground.now c.args.area.now k c.args.samples.now c.evaluate_keyed.new.out c.in_ok-outcomes.outcomes.items intact keyed.found all is c.in_ok-outcomes.ensures

pub returns-clause-fetched : goal.returns-clause-fetched
returns-clause-fetched g c =
    let k = c.args.key.now in
    let keyed = c.requires.keyed in
    let f = c.in_ok-evaluate_keyed.ensures.fetched in
    let n = ap (λ l. bound_times (length l) (key_in k.zones (fold_view k.fold.now))) c.in_ok-frame.ensures ∙ ap (λ m. bound_times m (key_in k.zones (fold_view k.fold.now))) (length-map c.args.samples.now point_of) in
    let e = key_times (length c.args.area.now) (length c.args.samples.now) (fold_view k.fold.now) k keyed.found refl in
    omega (arith, f, n, e)
