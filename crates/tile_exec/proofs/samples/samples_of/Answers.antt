-- One more tile of the box.
use Rattle.std.proofs.Common.{◌<◌, ◌+◌, ◌∙◌, refl, [], ap, sym, subst, arith, length}
use Rattle.std.specs.List.{All}
use Rattle.std.proofs.lemmas.List.Elements.{All-nil}
use Rattle.std.proofs.lemmas.Option.{get_or_from_slice_get}
use Rattle.arr_core.specs.Domains.{points, count}
use Rattle.arr_core.specs.Tiles.{tile_boxes}
use Rattle.plan_ir.specs.Bodies.{body_view}
use Rattle.plan_ir.specs.Placed.{IsPlaced, spans}
use Rattle.plan_ir.specs.Plans.{signature_of}
use Rattle.tile_columns.specs.TileOrder.{points_to}
use Rattle.tile_columns.specs.Meaning.{chosen, IsColumnOf}
use Rattle.tile_columns.proofs.Boxes.{points_within}
use Rattle.tile_columns.proofs.Calls.{reads_on}
use Rattle.tile_columns.proofs.FoldPlaces.{reads_same}
use Rattle.tile_columns.proofs.ZoneFolds.{times_next}
use Rattle.tile_exec.specs.Known.{IsSampleOf}
use Rattle.tile_exec.proofs.Knowing.{bound_few, times_least}
use Rattle.tile_exec.proofs.Sampling.{samples_more, points_at_most}
use Rattle.tile_exec.proofs.samples.samples_of.Goals as goal

pub loop-tile-init : goal.loop-tile-init
loop-tile-init g c = record {
  value = subst (All (IsSampleOf (g.S.Tiles.state c.args.source.now) c.args.ground.now c.args.area.now (body_view c.args.key.now))) (sym c.new-samples.ensures.items) (All-nil _);
  few = omega (arith, ap length c.new-samples.ensures.items);
  fetched = omega arith;
  reads = reads_same _;
  failures = refl;
}

pub column_over-requires-clause-place : goal.column_over-requires-clause-place
column_over-requires-clause-place g c =
    let inv = c.loop-tile.invariant in
    let area = c.args.area.now in
    let part = c.in_ok-part.part in
    let body = body_view c.args.key.now in
    let regs = length c.args.ground.now.registers.now in
    record {
      scope = spans area;
      placed = subst (λ all. IsPlaced (signature_of all c.args.ground.now.coverages.now) regs (spans area) body) (sym inv.reads.coverages) c.requires.placed;
      within = points_within area part c.in_ok-part.ensures.inside c.axes-part_axes.ensures.domain.ordered;
    }

pub loop-tile-preserved : goal.loop-tile-preserved
loop-tile-preserved g c =
    let inv = c.loop-tile.invariant in
    let was = g.S.Tiles.state c.args.source.now in
    let now = g.S.Tiles.state c.loop-tile.source in
    let ground = c.args.ground.now in
    let area = c.args.area.now in
    let part = c.in_ok-part.part in
    let key = body_view c.args.key.now in
    let lt : c.loop-tile.tile < length (tile_boxes area) = omega (arith, c.loop-tile-test.true, c.tiles-tile-end.ensures.value) in
    let is = sym (get_or_from_slice_get (tile_boxes area) c.loop-tile.tile part [] c.in_ok-part.ensures.value) in
    let column = subst (IsColumnOf now ground key (points part)) (sym c.spread.ensures) c.in_ok-column_over.ensures.value in
    record {
      value = samples_more was now ground area part key c.spread.new.self c.loop-tile.samples.items c.add_points.new.samples.items c.in_ok-part.ensures.inside inv.reads.cells inv.reads.intact column c.in_ok-add_points.ensures inv.value;
      few = omega (arith, c.if-len-gt-MAX_PLACES.false, c.len.ensures);
      fetched =
          let step = c.in_ok-column_over.ensures.fetched in
          let few = bound_few (chosen now ground) part key in
          let more = times_next area part c.loop-tile.tile key lt is in
          let before = inv.fetched in
          omega (arith, step, few, more, before);
      reads = reads_on inv.reads c.column_over.ensures.reads.only;
      failures = c.in_ok-column_over.ensures.reads.tells ∙ inv.failures;
    }

pub returns-clause-fetched : goal.returns-clause-fetched
returns-clause-fetched g c =
    let whole = points_at_most c.args.area.now c.loop-tile.tile c.axes-axes.ensures.domain.ordered in
    let key = body_view c.args.key.now in
    let least = times_least (length (points_to c.args.area.now c.loop-tile.tile)) (count c.args.area.now) key whole in
    let before = c.loop-tile.invariant.fetched in
    omega (arith, least, before)

pub returns-then-len-gt-MAX_PLACES-clause-fetched : goal.returns-then-len-gt-MAX_PLACES-clause-fetched
returns-then-len-gt-MAX_PLACES-clause-fetched g c =
    let inv = c.loop-tile.invariant in
    let area = c.args.area.now in
    let part = c.in_ok-part.part in
    let key = body_view c.args.key.now in
    let lt : c.loop-tile.tile < length (tile_boxes area) = omega (arith, c.loop-tile-test.true, c.tiles-tile-end.ensures.value) in
    let is = sym (get_or_from_slice_get (tile_boxes area) c.loop-tile.tile part [] c.in_ok-part.ensures.value) in
    let step = c.in_ok-column_over.ensures.fetched in
    let few = bound_few (chosen (g.S.Tiles.state c.loop-tile.source) c.args.ground.now) part key in
    let more = times_next area part c.loop-tile.tile key lt is in
    let before = inv.fetched in
    let whole = points_at_most area (c.loop-tile.tile + 1) c.axes-axes.ensures.domain.ordered in
    let least = times_least (length (points_to area (c.loop-tile.tile + 1))) (count area) key whole in
    omega (arith, step, few, more, before, least)
