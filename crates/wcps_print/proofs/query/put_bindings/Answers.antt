-- The bindings stand in order, with a comma before each but the first.
use Rattle.std.proofs.Common.{◌∙◌, ◌∷◌, true, false, ap, drop, ◌+◌}
use Rattle.wcps_text.specs.declared.token.Symbol.TheVariants as signs
use Rattle.wcps_text.specs.Token.{sign}
use Rattle.wcps_text.specs.Tree.{bindings_of}
use Rattle.wcps_print.specs.Printing.{names_tokens, bindings_tokens}
use Rattle.wcps_print.proofs.Puts.{same_text}
use Rattle.wcps_print.proofs.Views.{bindings_end, bindings_step}
use Rattle.wcps_print.proofs.query.put_bindings.Goals as goal

pub returns : goal.returns
returns c = λ rest. same_text _ (bindings_end c.loop-binding.is_first c.args.bindings.now c.loop-binding.binding-index c.loop-binding-test.false rest) ∙ c.loop-binding.invariant rest

pub loop-binding-preserved : goal.loop-binding-preserved
loop-binding-preserved c = λ rest.
    let behind = sign signs.RightParen ∷ bindings_tokens false (bindings_of (drop (c.loop-binding.binding-index + 1) c.args.bindings.now)) rest in
    c.in_ok-put_symbol-2.ensures _ ∙ (c.in_ok-put_names.ensures _ ∙ (same_text _ (ap (λ xs. names_tokens true xs behind) c.deref.ensures.value) ∙ (c.in_ok-put_symbol.ensures _ ∙ (c.in_ok-put_word.ensures _ ∙ (c.in_ok-put_name.ensures _ ∙ (c.in_ok-put_separator.ensures _ ∙ (same_text _ (bindings_step c.loop-binding.is_first c.args.bindings.now c.loop-binding.binding-index c.binding-item.result c.loop-binding-test.true c.binding-item.is rest) ∙ c.loop-binding.invariant rest)))))))
