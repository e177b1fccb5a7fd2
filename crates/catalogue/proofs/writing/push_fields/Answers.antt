use Rattle.std.proofs.Common.{arith}
use Rattle.std.proofs.lemmas.Grind.{common_steps}
use Rattle.catalogue.specs.Bytes.{fields_bytes}
use Rattle.catalogue.proofs.writing.push_fields.Goals as goal

pub loop-field-preserved : goal.loop-field-preserved
loop-field-preserved c = grind (arith, common_steps)

pub returns : goal.returns
unfolding fields_bytes
returns c = grind (arith, common_steps)
