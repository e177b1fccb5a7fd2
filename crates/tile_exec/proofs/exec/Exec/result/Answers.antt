-- With no unit left all tasks are done, and what they have given is what the plan gives.
use Rattle.std.proofs.Common.{Ok, Err, sym, ap, ◌∙◌, subst, arith}
use Rattle.tile_exec.specs.declared.state.State.{State}
use Rattle.tile_exec.specs.Progress.{unless_failed}
use Rattle.tile_exec.specs.Standing.{Answers}
use Rattle.tile_exec.proofs.Ending.{answered}
use Rattle.tile_exec.proofs.exec.Exec.result.Goals as goal

pub returns-in-Failed-clause-value : goal.returns-in-Failed-clause-value
returns-in-Failed-clause-value c =
    let e = c.self.inside.state in
    subst (λ (e : State). Answers e (Err c.in-Failed.f)) c.self.view_is
    (λ s st. answered s e c.self.invariant (omega (arith, c.if-self-gt0.false)) st ∙ ap (λ x. unless_failed x e.items.items) c.in-Failed.is)

pub returns-in-Giving-clause-value : goal.returns-in-Giving-clause-value
returns-in-Giving-clause-value c =
    let e = c.self.inside.state in
    subst (λ (e : State). Answers e (Ok c.deref.result.now)) c.self.view_is
    (λ s st. answered s e c.self.invariant (omega (arith, c.if-self-gt0.false)) st ∙ ap (λ x. unless_failed x e.items.items) c.in-Giving.is ∙ ap Ok (sym c.deref.ensures.value))

pub returns-in-Skipping-clause-value : goal.returns-in-Skipping-clause-value
returns-in-Skipping-clause-value c =
    let e = c.self.inside.state in
    subst (λ (e : State). Answers e (Ok c.deref-in-Skipping.result.now)) c.self.view_is
    (λ s st. answered s e c.self.invariant (omega (arith, c.if-self-gt0.false)) st ∙ ap (λ x. unless_failed x e.items.items) c.in-Skipping.is ∙ ap Ok (sym c.deref-in-Skipping.ensures.value))
