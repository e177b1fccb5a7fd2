-- A coverage of listed values that fits is one higher than the highest of its iterators.
use Rattle.std.proofs.Common.{ap, ◌∙◌, arith}
use Rattle.wcps_text.specs.Tree.{view}
use Rattle.wcps_parse.proofs.Trees.{value_list_fits, iters_high}
use Rattle.wcps_parse.proofs.grown.value_list.Goals as goal

pub returns : goal.returns
returns c = λ is fit.
    let k = value_list_fits c.args.iterators c.in-Fits.iterators c.in-Fits.height c.args.items is c.in-Fits.is fit in
    (ap view c.in_ok-tree.ensures.ok ∙ k.0, omega (arith, k.1, c.in-Some.ensures.some.0), c.in-Some.ensures.some.1)

pub returns-in_default : goal.returns-in_default
returns-in_default c = grind (arith, iters_high)

pub returns-in_default-above : goal.returns-in_default-above
returns-in_default-above c = grind (arith, iters_high)
