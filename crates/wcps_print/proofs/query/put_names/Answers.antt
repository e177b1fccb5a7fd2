-- The names stand in order, with a comma before each but the first.
use Rattle.std.proofs.Common.{◌∙◌}
use Rattle.wcps_print.proofs.Puts.{same_text}
use Rattle.wcps_print.proofs.Views.{names_end, names_step}
use Rattle.wcps_print.proofs.query.put_names.Goals as goal

pub returns : goal.returns
returns c = λ rest. same_text _ (names_end c.loop-name.is_first c.args.names.now c.loop-name.name-index c.loop-name-test.false rest) ∙ c.loop-name.invariant rest

pub loop-name-preserved : goal.loop-name-preserved
loop-name-preserved c = λ rest.
    c.in_ok-put_name.ensures _ ∙ (c.in_ok-put_separator.ensures _ ∙ (same_text _ (names_step c.loop-name.is_first c.args.names.now c.loop-name.name-index c.name-item.result c.loop-name-test.true c.name-item.is rest) ∙ c.loop-name.invariant rest))
