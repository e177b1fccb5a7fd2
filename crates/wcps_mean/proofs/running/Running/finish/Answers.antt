-- The average of the exact sum over the count is that of all outcomes.
use Rattle.std.proofs.Common.{rules, ◌∙◌, SFits}
use mir.Syntax.{w128}
use Rattle.std.proofs.lemmas.Int.{to_z-of_z}
use Rattle.wcps_mean.proofs.Feeds.{finish_average}
use Rattle.wcps_mean.proofs.running.Running.finish.Goals as goal

pub returns-in-Average : goal.returns-in-Average
returns-in-Average c = λ outs h.
    let fits : SFits w128 c.args.self.sum = search rules in
    finish_average c.args.self outs _ c.in-Average.is c.in_default.is h (λ zs l s. c.average.ensures zs l (to_z-of_z w128 c.args.self.sum fits ∙ s))
