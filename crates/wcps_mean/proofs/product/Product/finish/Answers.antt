-- With a zero the product is zero, else it is its magnitude under its sign, tested.
use Rattle.std.proofs.Common.{ap, ◌≡◌, ◌∙◌, arith, pos, neg_ℤ, ◌-ℤ◌, to_z, of_z}
use mir.Syntax.{w128}
use Rattle.std.proofs.lemmas.Int.{ints}
use Rattle.wcps_mean.specs.Cells.{ranged}
use Rattle.wcps_mean.proofs.Factors.{finish_zero, finish_negative, finish_positive}
use Rattle.wcps_mean.proofs.product.Product.finish.Goals as goal

pub returns-then-self : goal.returns-then-self
returns-then-self c = λ zs h. finish_zero c.args.self zs c.if-self.true h

pub returns-then-self-2 : goal.returns-then-self-2
returns-then-self-2 c = λ zs h.
    let wide : to_z w128 (of_z w128 (pos 0 -ℤ to_z w128 c.args.self.magnitude)) ≡ neg_ℤ (pos c.args.self.magnitude) = omega (arith, ints) in
    c.range_test.ensures ∙ ap ranged wide ∙ finish_negative c.args.self zs c.if-self.false c.if-self-2.true h

pub returns : goal.returns
returns c = λ zs h.
    let wide : to_z w128 c.args.self.magnitude ≡ pos c.args.self.magnitude = omega (arith, ints) in
    c.range_test-2.ensures ∙ ap ranged wide ∙ finish_positive c.args.self zs c.if-self.false c.if-self-2.false h
