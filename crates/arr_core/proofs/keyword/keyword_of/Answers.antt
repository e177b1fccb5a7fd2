-- The first keyword that passes the test is the one that the text is written as.
use Rattle.std.proofs.Common.{rules, tests, sym, ap, ◌∙◌}
use Rattle.std.specs.Prelude.{is_some}
use Rattle.std.specs.Str.{str_eq_ignore_ascii_case}
use Rattle.std.proofs.lemmas.Iterator.{YieldsList-from_slice}
use Rattle.std.proofs.lemmas.Iterator.Consumers.{YieldsList-from_copied}
use Rattle.std.proofs.lemmas.Iterator.Search.{find_from_yields_List}
use Rattle.arr_core.specs.declared.keyword.TheConstants.{KEYWORDS}
use Rattle.arr_core.specs.Keywords.{keyword_text}
use Rattle.arr_core.proofs.Keywords.{as-found, found-written, written-found, some-found}
use Rattle.arr_core.proofs.keyword.keyword_of.Goals as goal

pub returns-clause-written : goal.returns-clause-written
returns-clause-written c k =
    let is = as-found c.find.result _ (find_from_yields_List (λ q. str_eq_ignore_ascii_case c.args.text.now (keyword_text q)) _ _ c.find.result c.find.ensures.ran (YieldsList-from_copied (YieldsList-from_slice KEYWORDS cc)) (λ x b q h. search (rules, tests))) in
    ((λ e. written-found k c.args.text.now (sym is ∙ e)), (λ w. is ∙ found-written k c.args.text.now w))

pub returns-clause-some : goal.returns-clause-some
returns-clause-some c =
    let is = as-found c.find.result _ (find_from_yields_List (λ q. str_eq_ignore_ascii_case c.args.text.now (keyword_text q)) _ _ c.find.result c.find.ensures.ran (YieldsList-from_copied (YieldsList-from_slice KEYWORDS cc)) (λ x b q h. search (rules, tests))) in
    ap is_some is ∙ some-found c.args.text.now
