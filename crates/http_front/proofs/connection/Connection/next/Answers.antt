-- Behind what had come stands a whole message, or one that never comes, or one that the end cut short.
use Rattle.std.proofs.Common.{◌≡◌, ◌≢◌, ◌≤◌, ◌+◌, ◌++◌, [], false, length, refl, ap, ◌∙◌, subst, inl, inr, arith, append_assoc}
use Rattle.std.proofs.KnownBytes.{Consumes-trans}
use Rattle.httparse.specs.Grammar.{HasNoRequest}
use Rattle.arr_core.specs.declared.refusal.Refusal.TheVariants.{BadHead}
use Rattle.http_front.specs.Stream.{bad_head, NeverHasHead, Finds}
use Rattle.http_front.proofs.StreamLemmas.{no_head_yet, not_bare}
use Rattle.http_front.proofs.connection.Connection.next.Goals as goal

pub returns-in-Whole-clause-found : goal.returns-in-Whole-clause-found
returns-in-Whole-clause-found g c =
    let a = c.in-Whole.ensures.bytes in
    let t = c.take_message-taken.ensures.found in
    let held = c.self.inside.buffer in
    let known : c.look_ahead.new.buffer ++ t.0 ≡ held ++ (a.0 ++ t.0) = ap (λ l. l ++ t.0) a.2 ∙ append_assoc held a.0 t.0 in
    let taken = c.take_message-taken in
    rw (← c.self.view_is) (λ e. (
      a.0 ++ t.0,
      Consumes-trans _ _ _ a.0 t.0 a.1 t.1,
      subst (λ l. Finds c.self.inside.count l taken.new.buffer (g.S.Source.view taken.new.source).remaining taken.result.next taken.result.over c.in-Whole.head.bare) known t.2,
      subst (λ l. length l ≤ 16384 + 1048576) known t.3,
    ))

pub returns-in-Bad-clause-found : goal.returns-in-Bad-clause-found
returns-in-Bad-clause-found g c =
    let a = c.in-Bad.ensures.bytes in
    let some = subst (λ l. l ≢ []) a.2 a.4.0 in
    let never = subst NeverHasHead a.2 a.4.1 in
    let few : length (c.self.inside.buffer ++ a.0) ≤ 16384 + 1048576 = omega (arith, a.3, ap length a.2) in
    rw (← c.self.view_is) (λ e. (a.0, a.1, (bad_head false, inr (inl (refl, some, never)), (BadHead, c.number.ensures.number, inl refl), refl, refl), few))

pub returns-in-Cut-clause-found : goal.returns-in-Cut-clause-found
returns-in-Cut-clause-found g c =
    let a = c.in-Cut.ensures.bytes in
    let known = c.self.inside.buffer ++ a.0 in
    let some = subst (λ l. l ≢ []) a.2 a.4.0 in
    let none : HasNoRequest known = subst HasNoRequest a.2 a.4.2 in
    let few : length known ≤ 16384 + 1048576 = omega (arith, a.3, ap length a.2) in
    let cut = inr (inr (refl, some, a.4.1, no_head_yet known none, not_bare known none)) in
    rw (← c.self.view_is) (λ e. (a.0, a.1, (bad_head false, cut, (BadHead, c.number-in-Cut.ensures.number, inl refl), refl, refl), few))
