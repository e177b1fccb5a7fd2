-- Listed values stand between `value list <` and `>`, and tokens of any other form come to nothing.
use Rattle.std.proofs.lemmas.Result.{err_from_is_err_and}
use Rattle.wcps_parse.specs.Reading.{listed}
use Rattle.wcps_parse.proofs.Coming.{comes_now, comes_then, fails_then}
use Rattle.wcps_parse.proofs.expression.listed.Goals as goal

pub returns-in_default-clause-exact : goal.returns-in_default-clause-exact
unfolding listed
returns-in_default-clause-exact c = rw c.in_default.ensures.value (comes_now _)

pub returns-in_default-word_at-clause-exact : goal.returns-in_default-word_at-clause-exact
unfolding listed
returns-in_default-word_at-clause-exact c = rw (c.in-Some.ensures.value, c.in_default-word_at.ensures.value) (comes_now _)

pub returns-in_default-sign_at-clause-exact : goal.returns-in_default-sign_at-clause-exact
unfolding listed
returns-in_default-sign_at-clause-exact c = rw (c.in-Some.ensures.value, c.in-Some-word_at.ensures.value, c.in_default-sign_at.ensures.value) (comes_now _)

pub returns-in_err-items-clause-exact : goal.returns-in_err-items-clause-exact
unfolding listed
returns-in_err-items-clause-exact c =
    let p = err_from_is_err_and c.from_residual.result c.from_residual.ensures.1 in
    rw (p.1, p.2) (fails_then c.in_err-items.field-0.0 c.in_err-items.ensures.exact (λ none. rw (c.in-Some.ensures.value, c.in-Some-word_at.ensures.value, c.in-Some-sign_at.ensures.value) (comes_then _ none (comes_now _))))

pub returns-in_default-sign_at-2-clause-exact : goal.returns-in_default-sign_at-2-clause-exact
unfolding listed
returns-in_default-sign_at-2-clause-exact c = rw (c.in-Some.ensures.value, c.in-Some-word_at.ensures.value, c.in-Some-sign_at.ensures.value) (comes_then _ c.in_ok-items.ensures.exact (rw c.in_default-sign_at-2.ensures.value (comes_now _)))

pub returns-clause-exact : goal.returns-clause-exact
unfolding listed
returns-clause-exact c = rw (c.in-Some.ensures.value, c.in-Some-word_at.ensures.value, c.in-Some-sign_at.ensures.value) (comes_then _ c.in_ok-items.ensures.exact (rw c.in-Some-sign_at-2.ensures.value (comes_now _)))
