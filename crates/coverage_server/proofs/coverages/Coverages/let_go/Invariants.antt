use Rattle.std.proofs.Common.{◌≡◌, length}
use Rattle.coverage_server.specs.Views.{without_held}
use Rattle.coverage_server.proofs.coverages.Coverages.let_go.Given as goal

abbrev pub invariant-loop-number : goal.invariant-loop-number
invariant-loop-number g l = without_held l.self ≡ without_held l.initial.self

abbrev pub decreases-loop-number : goal.decreases-loop-number
decreases-loop-number g l = length l.self.held
