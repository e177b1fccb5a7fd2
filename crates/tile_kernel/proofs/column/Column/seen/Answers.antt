-- A column has at most 4,096 places.
use Rattle.std.proofs.Common.{ap, arith, length}
use Rattle.tile_kernel.proofs.Repeats.{length-column}
use Rattle.tile_kernel.proofs.column.Column.seen.Goals as goal

pub returns-in-None-clause-few : goal.returns-in-None-clause-few
returns-in-None-clause-few c =
    let e = length-column c.self.inside.runs c.self.inside.form c.self.inside.len c.self.inside.values c.self.inside.faults c.self.inside.narrow.items c.self.inside.counts.items c.self.invariant in
    omega (arith, e, ap length c.self.view_is, c.self.invariant.roomy.few)

pub returns-in-Some-clause-few : goal.returns-in-Some-clause-few
returns-in-Some-clause-few c =
    let e = length-column c.self.inside.runs c.self.inside.form c.self.inside.len c.self.inside.values c.self.inside.faults c.self.inside.narrow.items c.self.inside.counts.items c.self.invariant in
    omega (arith, e, ap length c.self.view_is, c.self.invariant.roomy.few)
