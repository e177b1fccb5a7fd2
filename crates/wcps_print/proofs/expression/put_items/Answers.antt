-- The listed values stand in order, with a semicolon before each but the first.
use Rattle.std.proofs.Common.{◌∙◌}
use Rattle.wcps_print.proofs.Puts.{same_text}
use Rattle.wcps_print.proofs.Views.{items_end, items_step}
use Rattle.wcps_print.proofs.expression.put_items.Goals as goal

pub returns : goal.returns
returns c = λ rest. same_text _ (items_end c.loop-item.is_first c.args.items.now c.loop-item.item-index c.loop-item-test.false rest) ∙ c.loop-item.invariant rest

pub loop-item-preserved : goal.loop-item-preserved
loop-item-preserved c = λ rest.
    c.in_ok-put_item.ensures _ ∙ (c.in_ok-put_separator.ensures _ ∙ (same_text _ (items_step c.loop-item.is_first c.args.items.now c.loop-item.item-index _ c.loop-item-test.true rest) ∙ c.loop-item.invariant rest))
