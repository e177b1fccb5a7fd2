-- A condenser that fits is one higher than the highest of its iterators, its condition and its body.
use Rattle.std.proofs.Common.{ap, ◌∙◌, arith}
use Rattle.wcps_text.specs.Tree.{view}
use Rattle.wcps_parse.proofs.Trees.{condense_fits, iters_high}
use Rattle.wcps_parse.proofs.grown.condense.Goals as goal

pub returns : goal.returns
returns c = λ is fi d e fd fe.
    let parts = c.in-Fits-Fits in
    let k = condense_fits c.args.op c.args.iterators c.args.condition c.args.body parts.iterators parts.condition c.in-Fits.body parts.one parts.other c.in-Fits.height is d e parts.is-0 parts.is-1 c.in-Fits.is fi fd fe in
    (ap view c.in_ok-tree.ensures.ok ∙ k.0, omega (arith, k.1, k.2, k.3, c.in-Some.ensures.some.0, c.max.ensures, c.max-2.ensures), c.in-Some.ensures.some.1)

pub returns-in_default : goal.returns-in_default
returns-in_default c = grind (arith, iters_high)

pub returns-in_default-above : goal.returns-in_default-above
returns-in_default-above c = grind (arith, iters_high)
