use Rattle.std.proofs.Common.{arith}
use Rattle.std.proofs.lemmas.Grind.{common_steps}
use Rattle.wcps_types.proofs.bindings.with_binding.Goals as goal

pub returns : goal.returns
returns c = grind (arith, common_steps)
