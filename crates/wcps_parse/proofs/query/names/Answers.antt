-- The names read so far, and those behind the commas, are what the list comes to.
use Rattle.std.proofs.Common.{◌≡◌, ℕ, [], ◌∷◌, ◌++◌, List, Some, None, refl, rules, subst}
use Rattle.wcps_text.specs.declared.token.Symbol.TheVariants as signs
use Rattle.wcps_text.specs.Token.{toks}
use Rattle.wcps_parse.specs.Comes.{Comes}
use Rattle.wcps_parse.specs.Front.{name_at}
use Rattle.wcps_parse.specs.Reading.{more, names}
use Rattle.wcps_parse.proofs.Coming.{comes_now}
use Rattle.wcps_parse.proofs.Turns.{more_end, more_next, separated_first}
use Rattle.wcps_parse.proofs.query.names.Goals as goal

pub returns-in_default-clause-exact : goal.returns-in_default-clause-exact
unfolding names
returns-in_default-clause-exact c = separated_first signs.Comma (λ n. name_at) _ None None (rw c.in_default.ensures.value (comes_now _)) (comes_now _)

pub loop-next-init : goal.loop-next-init
unfolding names
loop-next-init c =
    let e : c.push.new.self.items ≡ c.in-Some.first.now ∷ [] = rw (c.in_ok-push.ensures.items, c.new-list.ensures.items, c.in_ok-new.ensures) refl in
    record {
      whole = λ o h. separated_first signs.Comma (λ n. name_at) _ (Some (c.in-Some.first.now, toks c.in-Some.rest.now)) o (rw c.in-Some.ensures.value (comes_now _)) (subst (λ (xs : List (List ℕ)). Comes (λ n m. more signs.Comma name_at m xs (toks c.in-Some.rest.now)) o) e h);
      shorter = search rules;
    }

pub returns-in_default-name_at-clause-exact : goal.returns-in_default-name_at-clause-exact
returns-in_default-name_at-clause-exact c = c.loop-next.invariant.whole None (more_next signs.Comma (λ n. name_at) _ _ _ None None c.in-Some-sign_at.ensures.value (rw c.in_default-name_at.ensures.value (comes_now _)) (comes_now _))

pub loop-next-preserved : goal.loop-next-preserved
loop-next-preserved c =
    let e : c.push-in-Some-sign_at.new.self.items ≡ c.loop-next.list.items ++ c.in-Some-name_at.one.now ∷ [] = rw (c.in_ok-push-2.ensures.items, c.in_ok-new-2.ensures) refl in
    record {
      whole = λ o h. c.loop-next.invariant.whole o (more_next signs.Comma (λ n. name_at) _ _ _ (Some (c.in-Some-name_at.one.now, toks c.in-Some-name_at.after.now)) o c.in-Some-sign_at.ensures.value (rw c.in-Some-name_at.ensures.value (comes_now _)) (subst (λ (xs : List (List ℕ)). Comes (λ n m. more signs.Comma name_at m xs (toks c.in-Some-name_at.after.now)) o) e h));
      shorter = search rules;
    }

pub returns-clause-exact : goal.returns-clause-exact
returns-clause-exact c = c.loop-next.invariant.whole _ (more_end signs.Comma (λ n. name_at) _ _ c.in_default-sign_at.ensures.value)
