-- A query stands as its bindings, its condition and what it returns, each with the word before it.
use Rattle.std.proofs.Common.{◌∙◌, [], sym}
use Rattle.wcps_text.specs.Tree.{item_view}
use Rattle.wcps_print.specs.Printing.{item_tokens, Adds}
use Rattle.wcps_print.proofs.Puts.{on_ok, same_text, nothing_behind}
use Rattle.wcps_print.proofs.Views.{query_of}
use Rattle.wcps_print.proofs.query.put_query.Goals as goal

pub returns : goal.returns
returns c =
    on_ok c.put_item.result (λ (last : Adds c.put_word-2.new.out c.put_item.new.out (item_tokens (item_view c.args.query.now.item))).
    sym (nothing_behind _) ∙ (last [] ∙ (c.in_ok-put_word-2.ensures _ ∙ (c.in_ok-put_condition.ensures _ ∙ (c.in_ok-put_bindings.ensures _ ∙ (c.in_ok-put_word.ensures _ ∙ same_text _ (query_of c.args.query.now c.deref.result.now c.deref.ensures.value))))))) c.put_item.ensures
