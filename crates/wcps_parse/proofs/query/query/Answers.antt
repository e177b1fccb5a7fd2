-- A query is its bindings, its condition and what it returns, in turn, and tokens of any other form come to nothing.
use Rattle.std.proofs.lemmas.Result.{err_from_is_err_and}
use Rattle.wcps_text.specs.Tree.{bindings_of}
use Rattle.wcps_parse.specs.Reading.{query}
use Rattle.wcps_parse.proofs.Coming.{comes_now, comes_then, fails_then}
use Rattle.wcps_parse.proofs.query.query.Goals as goal

pub returns-in_default : goal.returns-in_default
unfolding query
returns-in_default c = rw c.in_default.ensures.value (comes_now _)

pub returns-in_err-bindings : goal.returns-in_err-bindings
unfolding query
returns-in_err-bindings c =
    let p = err_from_is_err_and c.from_residual.result c.from_residual.ensures.1 in
    rw (p.1, p.2) (fails_then c.in_err-bindings.field-0.0 c.in_err-bindings.ensures.exact (λ none. rw c.in-Some.ensures.value (comes_then _ none (comes_now _))))

pub returns-in_err-condition : goal.returns-in_err-condition
unfolding query
returns-in_err-condition c =
    let p = err_from_is_err_and c.from_residual-in_err-condition.result c.from_residual-in_err-condition.ensures.1 in
    rw (p.1, p.2) (fails_then c.in_err-condition.field-0.0 c.in_err-condition.ensures.exact (λ none. rw c.in-Some.ensures.value (comes_then _ c.in_ok-bindings.ensures.exact (comes_then _ none (comes_now _)))))

pub returns-in_default-word_at : goal.returns-in_default-word_at
unfolding query
returns-in_default-word_at c = rw c.in-Some.ensures.value (comes_then _ c.in_ok-bindings.ensures.exact (comes_then _ c.in_ok-condition.ensures.exact.comes (rw c.in_default-word_at.ensures.value (comes_now _))))

pub returns-in_err-item : goal.returns-in_err-item
unfolding query
returns-in_err-item c =
    let p = err_from_is_err_and c.from_residual-in_err-item.result c.from_residual-in_err-item.ensures.1 in
    rw (p.1, p.2) (fails_then c.in_err-item.field-0.0 c.in_err-item.ensures (λ none. rw c.in-Some.ensures.value (comes_then _ c.in_ok-bindings.ensures.exact (comes_then _ c.in_ok-condition.ensures.exact.comes (rw c.in-Some-word_at.ensures.value (comes_then _ none (comes_now _)))))))

pub returns : goal.returns
unfolding query
returns c = record { whole = record { bindings = bindings_of c.in_ok-bindings.bindings.items; condition = c.in_ok-condition.ensures.exact.whole; item = c.in_ok-item.ensures.whole }; fit = c.query.ensures c.in_ok-condition.ensures.exact.whole c.in_ok-item.ensures.whole c.in_ok-condition.ensures.exact.fit c.in_ok-item.ensures.fit; comes = rw c.in-Some.ensures.value (comes_then _ c.in_ok-bindings.ensures.exact (comes_then _ c.in_ok-condition.ensures.exact.comes (rw c.in-Some-word_at.ensures.value (comes_then _ c.in_ok-item.ensures.comes (comes_now _))))) }
