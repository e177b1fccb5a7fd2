-- The sum and the number of the values, with one more.
use Rattle.std.proofs.Common.{◌≡◌, ◌+ℤ◌, ◌∷◌, [], refl, arith, to_z, of_z, w64}
use mir.Syntax.{w128}
use Rattle.std.proofs.lemmas.Int.{ints}
use Rattle.wcps_mean.specs.Condensers.{total}
use Rattle.tile_kernel.proofs.Condensing.{totals_joined}
use Rattle.tile_kernel.proofs.summaries.TotalSummary.add.Goals as goal

pub returns-clause-keeps : goal.returns-clause-keeps
returns-clause-keeps c zs h =
    let x = c.args.x in
    let sum = c.args.self.now.sum in
    let e : to_z w128 (of_z w128 (to_z w128 (of_z w128 sum) +ℤ to_z w128 (of_z w128 (to_z w64 (of_z w64 x))))) ≡ sum +ℤ x = omega (arith, ints) in
    let one : x ≡ total (x ∷ []) = omega (arith, ints) in
    totals_joined sum x _ c.args.self.now.count 1 zs (x ∷ []) e h (one, refl)
