-- The coordinates that are computed for a place are those of the point that stands there.
use Rattle.std.proofs.Common.{arith, ◌∙◌, ap, sym, []}
use Rattle.arr_core.specs.Domains.{count}
use Rattle.arr_core.proofs.Points.{length-points, at_place}
use Rattle.arr_core.proofs.domain.Domain.push_point.Goals as goal

pub push_coordinates-requires-clause-inside : goal.push_coordinates-requires-clause-inside
push_coordinates-requires-clause-inside c =
    omega (arith, c.requires, length-points c.args.self.now, c.self.invariant.1, ap count c.self.view_is)

pub returns : goal.returns
returns c =
    let axes = c.args.self.now in
    let same = c.deref.ensures.value ∙ c.self.view_is in
    let there = at_place axes c.args.place [] (omega (arith, c.requires, length-points axes)) in
    rw (same, sym there) at c.push_coordinates.ensures
