-- The bindings read so far, and those behind the commas, are what the list comes to.
use Rattle.std.proofs.Common.{◌≡◌, [], ◌∷◌, ◌++◌, List, None, refl, rules, subst}
use Rattle.std.proofs.lemmas.Result.{err_from_is_err_and}
use Rattle.wcps_text.specs.declared.token.Symbol.TheVariants as signs
use Rattle.wcps_text.specs.Token.{toks}
use Rattle.wcps_text.specs.Tree.{BindingTree, bindings_of, binding_view}
use Rattle.wcps_parse.specs.Comes.{Comes}
use Rattle.wcps_parse.specs.Reading.{more, binding_at, bindings}
use Rattle.wcps_parse.proofs.Coming.{comes_now, comes_first, fails_then}
use Rattle.wcps_parse.proofs.Turns.{more_end, more_next, separated_first}
use Rattle.wcps_parse.proofs.Bindings.{bindings_of_push}
use Rattle.wcps_parse.proofs.query.bindings.Goals as goal

pub returns-in_err-first-clause-exact : goal.returns-in_err-first-clause-exact
unfolding bindings
returns-in_err-first-clause-exact c =
    let p = err_from_is_err_and c.from_residual.result c.from_residual.ensures.1 in
    rw (p.1, p.2) (fails_then c.in_err-first.field-0.0 c.in_err-first.ensures.exact (λ none. separated_first signs.Comma binding_at _ None None (comes_first none) (comes_now _)))

pub loop-next-init : goal.loop-next-init
unfolding bindings
loop-next-init c =
    let e : bindings_of c.push.new.self.items ≡ binding_view c.in_ok-first.first ∷ [] = rw (c.in_ok-push.ensures.items, c.new-list.ensures.items) refl in
    record {
      whole = λ o h. separated_first signs.Comma binding_at _ _ o (comes_first c.in_ok-first.ensures.exact) (subst (λ (xs : List BindingTree). Comes (λ n m. more signs.Comma (binding_at n) m xs (toks c.in_ok-first.rest.now)) o) e h);
      shorter = search rules;
    }

pub returns-in_err-one-clause-exact : goal.returns-in_err-one-clause-exact
returns-in_err-one-clause-exact c =
    let p = err_from_is_err_and c.from_residual-in_err-one.result c.from_residual-in_err-one.ensures.1 in
    rw (p.1, p.2) (fails_then c.in_err-one.field-0.0 c.in_err-one.ensures.exact (λ none. c.loop-next.invariant.whole None (more_next signs.Comma binding_at _ _ _ None None c.in-Some.ensures.value (comes_first none) (comes_now _))))

pub loop-next-preserved : goal.loop-next-preserved
loop-next-preserved c =
    let e : bindings_of c.push-in-Some.new.self.items ≡ bindings_of c.loop-next.list.items ++ binding_view c.in_ok-one.one ∷ [] = rw c.in_ok-push-2.ensures.items (bindings_of_push c.loop-next.list.items c.in_ok-one.one) in
    record {
      whole = λ o h. c.loop-next.invariant.whole o (more_next signs.Comma binding_at _ _ _ _ o c.in-Some.ensures.value (comes_first c.in_ok-one.ensures.exact) (subst (λ (xs : List BindingTree). Comes (λ n m. more signs.Comma (binding_at n) m xs (toks c.in_ok-one.after.now)) o) e h));
      shorter = search rules;
    }

pub returns-clause-exact : goal.returns-clause-exact
returns-clause-exact c = c.loop-next.invariant.whole _ (more_end signs.Comma binding_at _ _ c.in_default.ensures.value)
