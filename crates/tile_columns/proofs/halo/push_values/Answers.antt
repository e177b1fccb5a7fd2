-- One more value, and all of them.
use Rattle.std.proofs.Common.{◌∙◌, ◌++◌, ap, arith, rules, map, SFits, w64}
use Rattle.std.proofs.lemmas.Int.{to_z-of_z}
use Rattle.wcps_mean.proofs.Stacks.{take-whole}
use Rattle.tile_kernel.proofs.Places.{outcome_there}
use Rattle.tile_columns.specs.Windows.{value_of}
use Rattle.tile_columns.proofs.Halos.{values_on, values_more}
use Rattle.tile_columns.proofs.halo.push_values.Goals as goal

pub loop-place-preserved : goal.loop-place-preserved
loop-place-preserved c =
    let fits : SFits w64 c.value_of.result = search rules in
    values_more c.args.column.now c.loop-place.place c.at.result _ c.args.cells.now.items c.loop-place.cells.items c.push.new.self.items (omega (arith, c.len-place-end.ensures.places, c.loop-place-test.true))
    (outcome_there c.args.column.now c.loop-place.place c.at.result c.at.ensures) (to_z-of_z w64 c.value_of.result fits ∙ c.value_of.ensures) c.in_ok-push.ensures.items c.loop-place.invariant

pub returns : goal.returns
returns c =
    c.loop-place.invariant
    ∙ ap (λ l. c.args.cells.now.items ++ map value_of l) (take-whole c.loop-place.place c.args.column.now (omega (arith, c.len-place-end.ensures.places, c.loop-place-test.false)))

pub returns-in-Some : goal.returns-in-Some
returns-in-Some c =
    values_on c.extend_from_slice.result c.args.column.now c.in-Some.values.now c.args.cells.now.items c.extend_from_slice.new.self.items c.in-Some.ensures c.extend_from_slice.ensures.items
