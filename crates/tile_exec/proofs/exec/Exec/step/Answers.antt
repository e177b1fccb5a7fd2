-- A step leaves the box at hand, if there is one, and fetches no more tiles than the bound of that box.
use Rattle.std.proofs.Common.{arith, ◌-◌, subst}
use Rattle.tile_exec.specs.declared.state.State.{State}
use Rattle.tile_exec.specs.Standing.{plan_of, boxes_left, MovesOn}
use Rattle.tile_exec.proofs.Finding.{moves}
use Rattle.tile_exec.proofs.exec.Exec.step.Goals as goal

pub returns-clause-place : goal.returns-clause-place
returns-clause-place g c =
    let e = c.self.inside.state in
    let f = c.in_ok-unit.ensures.fetched in
    subst (λ (e : State). MovesOn e c.keep.new.self (c.count.result - c.count-before.result)) c.self.view_is
    (moves (plan_of e) (boxes_left e) (boxes_left c.keep.new.self) (c.count.result - c.count-before.result) c.keep.ensures.boxes (omega (arith, f, c.count.ensures, c.count-before.ensures)))
