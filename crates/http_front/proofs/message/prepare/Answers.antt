-- Where no memory is found, or no body is kept, want of memory is told.
use Rattle.std.proofs.Common.{refl, sym, subst, inr}
use Rattle.std.specs.Prelude.{IsOk}
use Rattle.arr_core.specs.declared.refusal.Refusal.TheVariants.{NoMemory}
use Rattle.http_front.specs.Head.{asked_at}
use Rattle.http_front.specs.declared.head.Asked.{Asked}
use Rattle.http_front.proofs.message.prepare.Goals as goal

pub returns-in-Err : goal.returns-in-Err
returns-in-Err c =
    λ body. (
      NoMemory,
      c.number.ensures.number,
      inr (subst (λ (a : Asked). IsOk (asked_at c.args.held.now a body)) (sym c.in-Query.is) refl, refl),
    )

pub returns-in-Body : goal.returns-in-Body
returns-in-Body c =
    λ body. (
      NoMemory,
      c.number-in-Body.ensures.number,
      inr (subst (λ (a : Asked). IsOk (asked_at c.args.held.now a body)) (sym c.in-Body.is) refl, refl),
    )
