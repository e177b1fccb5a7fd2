-- A point of a domain lies inside it.
use Rattle.std.proofs.Common.{sym, subst, arith, []}
use Rattle.arr_core.specs.Domains.{IsInside}
use Rattle.arr_core.proofs.Points.{at_place, point-inside, length-points}
use Rattle.tile_columns.proofs.folds.push_place.Goals as goal

pub returns-clause-inside : goal.returns-clause-inside
returns-clause-inside c =
    let lt = length-points c.args.domain.now in
    subst (IsInside c.args.domain.now) (sym (at_place c.args.domain.now c.args.place [] (omega (arith, lt, c.requires))))
    (point-inside c.args.domain.now c.args.place (omega (arith, lt, c.requires)) c.axes-all.ensures.domain.ordered)
