-- By a divisor other than zero, the quotient is the exact one, tested.
use Rattle.std.proofs.Common.{arith, w64}
use Rattle.std.specs.Int.{IsNonZero}
use Rattle.std.proofs.lemmas.Int.{to_z-of_z}
use Rattle.wcps_mean.proofs.Divides.{tested_quotient}
use Rattle.wcps_mean.proofs.cell.divide.Goals as goal

pub returns-else-y-eq0 : goal.returns-else-y-eq0
returns-else-y-eq0 c =
    let nonzero : IsNonZero w64 c.args.y = omega (arith, c.if-y-eq0.false) in
    let exact = rw (to_z-of_z w64 c.args.x c.ranges.x, to_z-of_z w64 c.args.y c.ranges.y) at c.checked_div.ensures in
    tested_quotient c.args.x c.args.y _ _ nonzero exact c.tested.ensures
