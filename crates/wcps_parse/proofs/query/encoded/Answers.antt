-- What is encoded is an expression, with its format in parentheses at the end of the tokens, and else it is refused.
use Rattle.std.proofs.Common.{◌≡◌, ◌<◌, length, arith}
use Rattle.std.proofs.lemmas.Result.{err_from_is_err_and}
use Rattle.wcps_text.specs.Tree as tree
use Rattle.wcps_parse.specs.Reading.{encoded}
use Rattle.wcps_parse.proofs.Coming.{comes_now, comes_then, fails_then}
use Rattle.wcps_parse.proofs.Ends.{no_end, has_end}
use Rattle.wcps_parse.proofs.query.encoded.Goals as goal

pub returns-in_default : goal.returns-in_default
unfolding encoded
returns-in_default c = rw c.in_default.ensures.value (comes_now _)

pub returns-in_err-value : goal.returns-in_err-value
unfolding encoded
returns-in_err-value c =
    let p = err_from_is_err_and c.from_residual.result c.from_residual.ensures.1 in
    rw (p.1, p.2) (fails_then c.in_err-value.field-0.0 c.in_err-value.ensures.exact (λ none. rw c.in-Some.ensures.value (comes_then _ none (comes_now _))))

pub returns-in_default-sign_at : goal.returns-in_default-sign_at
unfolding encoded
returns-in_default-sign_at c = rw c.in-Some.ensures.value (comes_then _ c.in_ok-value.ensures.exact.comes (rw c.in_default-sign_at.ensures.value (comes_now _)))

pub returns-in_default-format_at : goal.returns-in_default-format_at
unfolding encoded
returns-in_default-format_at c = rw c.in-Some.ensures.value (comes_then _ c.in_ok-value.ensures.exact.comes (rw (c.in-Some-sign_at.ensures.value, c.in_default-format_at.ensures.value) (comes_now _)))

pub returns-in_default-sign_at-2 : goal.returns-in_default-sign_at-2
unfolding encoded
returns-in_default-sign_at-2 c = rw c.in-Some.ensures.value (comes_then _ c.in_ok-value.ensures.exact.comes (rw (c.in-Some-sign_at.ensures.value, c.in-Some-format_at.ensures.value, c.in_default-sign_at-2.ensures.value) (comes_now _)))

pub returns-then-not-is_empty : goal.returns-then-not-is_empty
unfolding encoded
returns-then-not-is_empty c =
    let lt : 0 < length c.in-Some-sign_at-2.rest.now = grind arith in
    rw c.in-Some.ensures.value (comes_then _ c.in_ok-value.ensures.exact.comes (rw (c.in-Some-sign_at.ensures.value, c.in-Some-format_at.ensures.value, c.in-Some-sign_at-2.ensures.value) (rw (no_end _ c.in-Some-sign_at-2.rest.now lt) (comes_now _))))

pub returns : goal.returns
unfolding encoded
returns c =
    let none : length c.in-Some-sign_at-2.rest.now ≡ 0 = grind arith in
    record { whole = tree.encode c.in_ok-value.ensures.exact.whole; fit = c.encode.ensures c.in_ok-value.ensures.exact.whole c.in_ok-value.ensures.exact.fit; comes = rw c.in-Some.ensures.value (comes_then _ c.in_ok-value.ensures.exact.comes (rw (c.in-Some-sign_at.ensures.value, c.in-Some-format_at.ensures.value, c.in-Some-sign_at-2.ensures.value) (rw (has_end _ c.in-Some-sign_at-2.rest.now none) (comes_now _)))) }
