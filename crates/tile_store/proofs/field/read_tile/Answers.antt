use Rattle.std.proofs.Common.{arith}
use Rattle.std.proofs.lemmas.Grind.{common_steps}
use Rattle.tile_store.proofs.field.read_tile.Goals as goal

pub returns-in_err-read_tile_into-clause-read : goal.returns-in_err-read_tile_into-clause-read
returns-in_err-read_tile_into-clause-read g c = grind (arith, common_steps)

pub returns-in_err-read_tile_into-clause-why : goal.returns-in_err-read_tile_into-clause-why
returns-in_err-read_tile_into-clause-why g c = grind (arith, common_steps)

pub returns-in_err-read_tile_into-clause-frame : goal.returns-in_err-read_tile_into-clause-frame
returns-in_err-read_tile_into-clause-frame g c = grind (arith, common_steps)

pub returns-in_err-read_tile_into-clause-told : goal.returns-in_err-read_tile_into-clause-told
returns-in_err-read_tile_into-clause-told g c = grind (arith, common_steps)

pub returns-clause-read : goal.returns-clause-read
returns-clause-read g c = grind (arith, common_steps)

pub returns-clause-why : goal.returns-clause-why
returns-clause-why g c = grind (arith, common_steps)

pub returns-clause-frame : goal.returns-clause-frame
returns-clause-frame g c = grind (arith, common_steps)

pub returns-clause-told : goal.returns-clause-told
returns-clause-told g c = grind (arith, common_steps)
