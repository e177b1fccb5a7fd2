-- The sum and the number of the values of both.
use Rattle.std.proofs.Common.{◌≡◌, ◌+ℤ◌, arith, to_z, of_z}
use mir.Syntax.{w128}
use Rattle.std.proofs.lemmas.Int.{ints}
use Rattle.tile_kernel.proofs.Condensing.{totals_joined}
use Rattle.tile_kernel.proofs.summaries.TotalSummary.with.Goals as goal

pub returns-clause-keeps : goal.returns-clause-keeps
returns-clause-keeps c = λ zs ws h g.
    let e : to_z w128 (of_z w128 (to_z w128 (of_z w128 c.args.self.sum) +ℤ to_z w128 (of_z w128 c.args.other.sum))) ≡ c.args.self.sum +ℤ c.args.other.sum = omega (arith, ints) in
    totals_joined c.args.self.sum c.args.other.sum _ c.args.self.count c.args.other.count zs ws e h g
