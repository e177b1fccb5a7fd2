use Rattle.std.proofs.Common.{arith}
use Rattle.std.proofs.lemmas.Grind.{common_steps}
use Rattle.catalogue.specs.Bytes.{domain_bytes}
use Rattle.catalogue.proofs.writing.push_axes.Goals as goal

pub loop-axis-preserved : goal.loop-axis-preserved
loop-axis-preserved c = grind (arith, common_steps)

pub returns : goal.returns
unfolding domain_bytes
returns c = grind (arith, common_steps)
