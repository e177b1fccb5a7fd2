-- The word `encode` is followed, in parentheses, by the expression, a comma and the word `csv`.
use Rattle.std.proofs.Common.{◌∙◌}
use Rattle.wcps_print.proofs.Puts.{last_puts}
use Rattle.wcps_print.proofs.query.put_encoded.Goals as goal

pub returns : goal.returns
returns c =
    last_puts c.put_symbol-3.result _ _ _ _ _ c.put_symbol-3.ensures (λ rest.
    c.in_ok-put_word-2.ensures _ ∙ (c.in_ok-put_symbol-2.ensures _ ∙ (c.in_ok-put_expr.ensures _ ∙ (c.in_ok-put_symbol.ensures _ ∙ c.in_ok-put_word.ensures _))))
