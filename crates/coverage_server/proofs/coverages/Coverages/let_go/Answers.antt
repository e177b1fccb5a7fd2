-- What is held goes one after the other, until there is nothing.
use Rattle.std.proofs.Common.{◌∙◌}
use Rattle.coverage_server.proofs.LettingLemmas.{fewer_held, none_held, unheld_same}
use Rattle.coverage_server.proofs.coverages.Coverages.let_go.Goals as goal

pub loop-number-preserved : goal.loop-number-preserved
loop-number-preserved g c = c.release.ensures.others ∙ c.loop-number.invariant

pub loop-number-smaller : goal.loop-number-smaller
loop-number-smaller g c = fewer_held c.loop-number.self.held c.release.new.self.held c.in-Some.number c.in-Some.ensures c.release.ensures.held

pub returns : goal.returns
returns g c =
    rw c.let_go.ensures (c.self.view_is
    ∙ unheld_same c.args.self.now c.loop-number.self (none_held _ c.in_default.ensures) c.loop-number.invariant)
