use Rattle.std.proofs.Common.{arith, rules}
use Rattle.std.proofs.lemmas.Grind.{common_steps}
use Rattle.raster_store.specs.Views.{listed_fields}
use Rattle.raster_store.proofs.held.give_back_fields.Goals as goal

pub returns : goal.returns
returns g c = grind (arith, common_steps)

pub loop-field-init : goal.loop-field-init
unfolding listed_fields
loop-field-init g c = search rules

pub give_back-requires : goal.give_back-requires
unfolding listed_fields
give_back-requires g c = grind (arith, common_steps)

pub loop-field-preserved : goal.loop-field-preserved
unfolding listed_fields
loop-field-preserved g c = grind (arith, common_steps)
