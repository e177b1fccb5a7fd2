use Rattle.std.proofs.Common.{◌≡◌, ◌∙◌, ◌||◌}
use Rattle.wcps_mean.proofs.Factors.{stands_both}
use Rattle.wcps_mean.proofs.Feeds.{or_of_true, or_of_false}
use Rattle.wcps_mean.proofs.product.Product.with.Goals as goal
use Rattle.wcps_mean.proofs.product.Product.with.Goals.{then-self, else-self}

pub returns : goal.returns
returns c = λ zs ws h g.
    let zero : c.if-self.result ≡ (c.args.self.has_zero || c.args.other.has_zero) =
    elim c.if-self.branch [ then-self w ↦ or_of_true _ _ _ w.if-self.true (w.result-is ∙ w.if-self.true) | else-self w ↦ or_of_false _ _ _ w.if-self.false w.result-is ] in
    stands_both c.args.self c.args.other _ zs ws zero c.are_unlike.ensures c.capped.ensures.value h g
