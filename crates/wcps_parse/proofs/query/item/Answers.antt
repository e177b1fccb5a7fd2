-- What a query returns is an encoded or a plain expression, and no token may stand behind it.
use Rattle.std.proofs.Common.{◌≡◌, ◌<◌, length, arith}
use Rattle.std.proofs.lemmas.Result.{err_from_is_err_and}
use Rattle.wcps_text.specs.Tree as tree
use Rattle.wcps_parse.specs.Reading.{item}
use Rattle.wcps_parse.proofs.Coming.{comes_now, comes_then, fails_then, reads_all_then}
use Rattle.wcps_parse.proofs.Ends.{no_end, has_end}
use Rattle.wcps_parse.proofs.query.item.Goals as goal

pub returns-in-Some : goal.returns-in-Some
unfolding item
returns-in-Some c = reads_all_then _ c.encoded.result c.encoded.ensures (λ o h. rw c.in-Some.ensures.value h)

pub returns-in_err-value : goal.returns-in_err-value
unfolding item
returns-in_err-value c =
    let p = err_from_is_err_and c.from_residual.result c.from_residual.ensures.1 in
    rw (p.1, p.2) (fails_then c.in_err-value.field-0.0 c.in_err-value.ensures.exact (λ none. rw c.in_default.ensures.value (comes_then _ none (comes_now _))))

pub returns-then-not-is_empty : goal.returns-then-not-is_empty
unfolding item
returns-then-not-is_empty c =
    let lt : 0 < length c.in_ok-value.rest.now = grind arith in
    rw c.in_default.ensures.value (comes_then _ c.in_ok-value.ensures.exact.comes (rw (no_end _ c.in_ok-value.rest.now lt) (comes_now _)))

pub returns : goal.returns
unfolding item
returns c =
    let none : length c.in_ok-value.rest.now ≡ 0 = grind arith in
    record { whole = tree.plain c.in_ok-value.ensures.exact.whole; fit = c.plain.ensures c.in_ok-value.ensures.exact.whole c.in_ok-value.ensures.exact.fit; comes = rw c.in_default.ensures.value (comes_then _ c.in_ok-value.ensures.exact.comes (rw (has_end _ c.in_ok-value.rest.now none) (comes_now _))) }
