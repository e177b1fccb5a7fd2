-- The number at the place of a key is the key.
use Rattle.std.proofs.Common.{◌≡◌, ℤ, sym, subst, rules, SFits, w64}
use Rattle.std.specs.Prelude.{IfSome}
use Rattle.std.proofs.lemmas.Int.{to_z-of_z}
use Rattle.wcps_mean.specs.declared.cell.Outcome.{Outcome}
use Rattle.wcps_mean.specs.declared.cell.Outcome.TheVariants.{Value}
use Rattle.tile_kernel.specs.Keyed.{number_at, IsPlaceOf}
use Rattle.tile_columns.proofs.ZoneFolds.{placed_key}
use Rattle.tile_columns.proofs.zone_folds.place_of.Goals as goal

pub returns-in-Value-clause-key : goal.returns-in-Value-clause-key
returns-in-Value-clause-key c =
    let fits : SFits w64 c.in-Value.z = search rules in
    let place = subst (λ (y : ℤ). IsPlaceOf y c.args.slots.now c.place_of.result) (to_z-of_z w64 c.in-Value.z fits) c.place_of.ensures.place in
    subst (λ (o : Outcome). IfSome c.place_of.result (λ j. o ≡ Value (number_at c.args.slots.now j))) (sym c.in-Value.is)
    (placed_key c.place_of.result c.in-Value.z c.args.slots.now c.place_of.ensures.within place)
