-- One more span, and all of them.
use Rattle.std.proofs.Common.{rules, arith, ◌≡◌, ◌+ℤ◌, pos, SFits, w32}
use Rattle.std.proofs.lemmas.Int.{ints, to_z-of_z}
use Rattle.std.proofs.lemmas.Grind.{common_steps}
use Rattle.tile_columns.specs.Reaching.{along, reached_by}
use Rattle.tile_columns.proofs.Reaches.{span_more, all_spans, ends_more}
use Rattle.tile_columns.proofs.reach.spans_of.Goals as goal

pub loop-step-preserved : goal.loop-step-preserved
loop-step-preserved c =
    let inv = c.loop-step.invariant in
    let r = c.args.reach.now in
    let fits : SFits w32 c.coordinate-place.result = search rules in
    let same : along r.halo.lo c.span_at.result ≡ reached_by r c.coordinate-place.result = grind (arith, to_z-of_z, c.span_at.ensures.reached) in
    let here : c.coordinate-place.result ≡ r.places.lo +ℤ pos c.loop-step.step = omega (arith, ints, c.coordinate-place.ensures) in
    record {
      reached = span_more r c.loop-step.spans.items c.push.new.self.items c.span_at.result c.coordinate-place.result c.loop-step.step c.in_ok-push.ensures.items here same inv.reached;
      within = ends_more _ c.loop-step.spans.items c.push.new.self.items c.span_at.result c.in_ok-push.ensures.items c.span_at.ensures.within inv.within;
      many = grind (arith, common_steps, inv.many, c.in_ok-push.ensures.items);
    }

pub returns-clause-reached : goal.returns-clause-reached
returns-clause-reached c =
    all_spans c.args.reach.now c.loop-step.spans.items c.loop-step.step (omega (arith, c.size_of-step-end.ensures.value, c.loop-step.auto.step-end, c.loop-step-test.false)) c.loop-step.invariant.reached
