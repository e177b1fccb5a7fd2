use Rattle.std.proofs.Common.{arith}
use Rattle.std.proofs.lemmas.Grind.{common_steps}
use Rattle.catalogue.specs.Bytes.{axis_bytes}
use Rattle.catalogue.proofs.reading.AxisReadable.read.Goals as goal

pub returns-in_err-name-clause-damaged : goal.returns-in_err-name-clause-damaged
unfolding axis_bytes
returns-in_err-name-clause-damaged c = grind (arith, common_steps)

pub returns-in_default-clause-damaged : goal.returns-in_default-clause-damaged
unfolding axis_bytes
returns-in_default-clause-damaged c = grind (arith, common_steps)

pub returns-in_default-read_i32-clause-damaged : goal.returns-in_default-read_i32-clause-damaged
unfolding axis_bytes
returns-in_default-read_i32-clause-damaged c = grind (arith, common_steps)

pub returns-clause-read : goal.returns-clause-read
unfolding axis_bytes
returns-clause-read c = grind (arith, common_steps)
