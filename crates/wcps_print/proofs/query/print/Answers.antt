-- The printed text spells the query that some text spells, and is within the limits where one such text is.
use Rattle.wcps_text.specs.Tree.{query_view}
use Rattle.wcps_print.proofs.Whole.{printed, printed_within}
use Rattle.wcps_print.proofs.query.print.Goals as goal

pub returns-clause-spelled : goal.returns-clause-spelled
returns-clause-spelled c = λ text h. printed (query_view c.args.query.now) _ _ text c.new-out.ensures.bytes c.in_ok-put_query.ensures h

pub returns-clause-within : goal.returns-clause-within
returns-clause-within c = λ text h. printed_within (query_view c.args.query.now) _ _ text c.new-out.ensures.bytes c.in_ok-put_query.ensures h
