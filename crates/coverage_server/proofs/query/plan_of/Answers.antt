-- The rewritten plan of a lowered query.
use Rattle.std.proofs.Common.{◌∙◌, arith}
use Rattle.coverage_server.proofs.query.plan_of.Goals as goal

pub returns : goal.returns
returns c = record {
  placed = c.in_ok-plan.ensures.placed c.in_ok-lowered.ensures.placed;
  coverages = c.in_ok-plan.ensures.coverages ∙ c.in_ok-lowered.ensures.coverages;
  planned = λ s. c.in_ok-plan.ensures.planned c.in_ok-lowered.ensures.placed s ∙ c.in_ok-lowered.ensures.planned s;
  units = omega (arith, c.in_ok-plan.ensures.units, c.in_ok-lowered.ensures.units);
  some = c.requires;
  reduced = c.in_ok-plan.ensures.reduced;
  no_closed = c.in_ok-plan.ensures.open;
}
