-- One more place has its coordinate.
use Rattle.std.proofs.Common.{◌∙◌, ap, sym, arith, length, pos, SFits, w32, rules}
use Rattle.std.proofs.lemmas.Int.{to_z-of_z}
use Rattle.std.proofs.lemmas.List.FromFn.{fill_by_all}
use Rattle.wcps_mean.specs.declared.cell.Outcome.TheVariants.{Value}
use Rattle.tile_kernel.specs.Columns.{outcome_at}
use Rattle.tile_kernel.proofs.Places.{outcome_there, written_back}
use Rattle.tile_columns.specs.Binding.{coordinate_or_lo}
use Rattle.tile_columns.proofs.Ranges.{written_more, by_places}
use Rattle.tile_columns.proofs.binds.write_coordinates.Goals as goal

pub loop-place-preserved : goal.loop-place-preserved
loop-place-preserved c =
    let fits : SFits w32 c.coordinate.result = search rules in
    written_more (λ k. coordinate_or_lo c.args.interval.lo c.args.interval.hi (outcome_at c.args.positions.now k)) c.loop-place.all c.loop-place.place _ (pos 0) (omega (arith, c.requires, c.args.list.now.ok.0))
    (to_z-of_z w32 c.coordinate.result fits ∙ c.coordinate.ensures ∙ ap (coordinate_or_lo c.args.interval.lo c.args.interval.hi) (sym (outcome_there c.args.positions.now c.loop-place.place c.at.result c.at.ensures)))
    c.loop-place.invariant

pub returns : goal.returns
returns c =
    written_back c.args.list.now.len c.loop-place.all _ (omega (arith, c.args.list.now.ok.0))
    ∙ fill_by_all (λ k. coordinate_or_lo c.args.interval.lo c.args.interval.hi (outcome_at c.args.positions.now k)) c.loop-place.all (length c.args.positions.now) (pos 0) (omega (arith, c.requires, c.args.list.now.ok.0)) (λ k lt. c.loop-place.invariant k (omega arith))
    ∙ sym (by_places (coordinate_or_lo c.args.interval.lo c.args.interval.hi) c.args.positions.now (Value (pos 0)))
