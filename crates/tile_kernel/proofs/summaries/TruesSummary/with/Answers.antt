-- As many as of both.
use Rattle.std.proofs.Common.{arith}
use Rattle.tile_kernel.proofs.Merges.{trues-append}
use Rattle.tile_kernel.proofs.summaries.TruesSummary.with.Goals as goal

pub returns-clause-keeps : goal.returns-clause-keeps
returns-clause-keeps c = λ zs ws h g. let e = trues-append zs ws in omega (arith, h, g, e)
