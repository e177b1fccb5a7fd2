-- The operators are put on from the last to the first, so that the first one stands outermost.
use Rattle.std.proofs.Common.{List, sym, ap, ◌∙◌}
use Rattle.wcps_text.specs.declared.operator.UnaryOperator.{UnaryOperator}
use Rattle.wcps_text.specs.Tree as tree
use Rattle.wcps_parse.specs.Prefixes.{wrapped}
use Rattle.wcps_parse.proofs.Prefixing.{wrapped_last}
use Rattle.wcps_parse.proofs.grown.prefixed.Goals as goal

pub loop-op-preserved : goal.loop-op-preserved
loop-op-preserved c = λ e fit.
    let i = c.loop-op.invariant e fit in
    (tree.unary c.in-Some.op i.0, c.in_ok-whole.ensures i.0 i.1, sym (wrapped_last c.pop.new.self.items c.in-Some.op i.0) ∙ (ap (λ (ops : List UnaryOperator). wrapped ops i.0) (sym c.in-Some.ensures.items) ∙ i.2))
