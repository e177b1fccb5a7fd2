-- What the steps give is what the text is typed as.
use Rattle.std.proofs.Common.{◌<◌, ◌≤◌, ◌∙◌, List, length, map, Ok, Err, ap, subst, arith}
use Rattle.std.proofs.lemmas.Result.{err_from_is_err_and}
use Rattle.arr_core.specs.declared.signature.Signature.{Signature}
use Rattle.wcps_text.specs.declared.token.Token.{Token}
use Rattle.wcps_text.specs.Token.{tok}
use Rattle.wcps_text.specs.Tree.{query_view}
use Rattle.wcps_types.specs.Queries.{typ_query}
use Rattle.wcps_types.specs.Shapes.{Answer}
use Rattle.wcps_types.specs.Typed.{TypedTree}
use Rattle.coverage_server.specs.Asking.{too_long}
use Rattle.coverage_server.specs.Stages.{GivesQuery, GivesTyped}
use Rattle.coverage_server.proofs.AskingLemmas.{text_tokens, text_query, text_types}
use Rattle.coverage_server.proofs.query.typed_text.Goals as goal

pub returns-then-text-gt-MAX_QUERY : goal.returns-then-text-gt-MAX_QUERY
returns-then-text-gt-MAX_QUERY g c = let long : 65536 < length c.args.text.now = omega arith in too_long long

pub returns-in_err-tokens : goal.returns-in_err-tokens
returns-in_err-tokens g c =
    let short : length c.args.text.now ≤ 65536 = omega arith in
    let p = err_from_is_err_and c.from_residual.result c.from_residual.ensures.1 in
    rw (p.1, p.2) (text_tokens c.args.coverages.now.store c.args.text.now c.in_err-tokens.field-0.0 short c.in_err-tokens.ensures)

pub returns-in_err-query : goal.returns-in_err-query
returns-in_err-query g c =
    let short : length c.args.text.now ≤ 65536 = omega arith in
    let given = subst (λ (ts : List Token). GivesQuery (map tok ts) (Err c.in_err-query.field-0.0)) c.deref.ensures.value c.in_err-query.ensures in
    let p = err_from_is_err_and c.from_residual-in_err-query.result c.from_residual-in_err-query.ensures.1 in
    rw (p.1, p.2) (text_query c.args.coverages.now.store c.args.text.now c.in_ok-tokens.tokens.items c.in_err-query.field-0.0 short c.in_ok-tokens.ensures given)

pub returns-in_err-typed : goal.returns-in_err-typed
returns-in_err-typed g c =
    let short : length c.args.text.now ≤ 65536 = omega arith in
    let given = subst (λ (ts : List Token). GivesQuery (map tok ts) (Ok c.in_ok-query.query)) c.deref.ensures.value c.in_ok-query.ensures in
    let alike = ap (λ (s : List Signature). typ_query s (query_view c.in_ok-query.query)) c.deref-2.ensures.value ∙ c.in_ok-signatures.ensures in
    let typed = subst (λ (a : Answer TypedTree). GivesTyped a (Err c.in_err-typed.field-0.0)) alike c.in_err-typed.ensures in
    let p = err_from_is_err_and c.from_residual-in_err-typed.result c.from_residual-in_err-typed.ensures.1 in
    rw (p.1, p.2) (text_types c.args.coverages.now.store c.args.text.now c.in_ok-tokens.tokens.items c.in_ok-query.query (Err c.in_err-typed.field-0.0) short c.in_ok-tokens.ensures given typed)

pub returns : goal.returns
returns g c =
    let short : length c.args.text.now ≤ 65536 = omega arith in
    let given = subst (λ (ts : List Token). GivesQuery (map tok ts) (Ok c.in_ok-query.query)) c.deref.ensures.value c.in_ok-query.ensures in
    let alike = ap (λ (s : List Signature). typ_query s (query_view c.in_ok-query.query)) c.deref-2.ensures.value ∙ c.in_ok-signatures.ensures in
    let typed = subst (λ (a : Answer TypedTree). GivesTyped a (Ok c.in_ok-typed.typed)) alike c.in_ok-typed.ensures in
    text_types c.args.coverages.now.store c.args.text.now c.in_ok-tokens.tokens.items c.in_ok-query.query (Ok c.in_ok-typed.typed) short c.in_ok-tokens.ensures given typed
