-- One more place is settled.
use Rattle.std.proofs.Common.{◌∙◌, ap, sym, arith, length}
use Rattle.wcps_mean.specs.Cells.{at_position}
use Rattle.std.proofs.lemmas.List.FromFn.{length-map-range_with_len}
use Rattle.tile_kernel.specs.Columns.{outcome_at}
use Rattle.tile_kernel.proofs.Places.{outcome_there}
use Rattle.tile_columns.proofs.Ranges.{one_more}
use Rattle.tile_columns.proofs.binds.settle_each.Goals as goal

pub loop-place-preserved : goal.loop-place-preserved
loop-place-preserved c =
    one_more (λ k. at_position (outcome_at c.args.positions.now k) c.args.interval.lo c.args.interval.hi (λ z. outcome_at c.args.column.now k)) c.loop-place.outcomes.items _ c.loop-place.place _ c.in_ok-push.ensures.items
    (c.settled-o.ensures
    ∙ ap (λ p. at_position p c.args.interval.lo c.args.interval.hi (λ z. c.at-in-loop-place.result)) (sym (outcome_there c.args.positions.now c.loop-place.place c.at.result c.at.ensures))
    ∙ ap (λ o. at_position (outcome_at c.args.positions.now c.loop-place.place) c.args.interval.lo c.args.interval.hi (λ z. o)) (sym (outcome_there c.args.column.now c.loop-place.place c.at-in-loop-place.result c.at-in-loop-place.ensures)))
    c.loop-place.invariant

pub returns-clause-few : goal.returns-clause-few
returns-clause-few c =
    let n = ap length c.loop-place.invariant ∙ length-map-range_with_len (λ k. at_position (outcome_at c.args.positions.now k) c.args.interval.lo c.args.interval.hi (λ z. outcome_at c.args.column.now k)) 0 c.loop-place.place in
    let m = c.len-place-end.ensures.few in
    let l = c.loop-place.auto.place-end in
    omega (arith, n, m, l)
