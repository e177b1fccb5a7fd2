-- The first fault, or the combination of the values, is what the condenser makes of the points.
use Rattle.std.proofs.Common.{subst}
use Rattle.tile_kernel.specs.Condensing.{IsKeptOf}
use Rattle.tile_kernel.proofs.Condensing.{finished_fault, finished_value}
use Rattle.tile_kernel.proofs.condenser.CondensedCondenser.finish.Goals as goal

pub returns-in-Some : goal.returns-in-Some
returns-in-Some g c = λ told h. finished_fault g.S.Summary.keeps g.S.Summary.op c.args.self.summary c.in-Some.f c.args.self.first.place told
    (subst (λ f. IsKeptOf g.S.Summary.keeps c.args.self.summary f c.args.self.first.place told) c.in-Some.is h)

pub returns-in-None : goal.returns-in-None
returns-in-None g c = λ told h. finished_value g.S.Summary.keeps g.S.Summary.op c.args.self.summary c.args.self.first.place c.outcome.result c.outcome.ensures told
    (subst (λ f. IsKeptOf g.S.Summary.keeps c.args.self.summary f c.args.self.first.place told) c.in-None.is h)
