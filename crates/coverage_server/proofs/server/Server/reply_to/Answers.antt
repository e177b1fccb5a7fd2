-- The reply to a message whose pairs came.
use Rattle.std.proofs.Common.{◌≡◌, ◌∙◌, ℕ, List, Result, Ok, refl, sym, ap, subst}
use Rattle.arr_core.specs.declared.refusal.Refusal.{Refusal}
use Rattle.arr_core.specs.Refusals.{number_of}
use Rattle.http_front.specs.declared.connection.Next.{Next}
use Rattle.http_front.specs.declared.reply.Reply.TheVariants.{Refused}
use Rattle.http_front.specs.Stream.{Shows}
use Rattle.kvp_front.specs.Requests.{Asks, asks, spelled}
use Rattle.kvp_front.specs.declared.request.RequestError.{RequestError}
use Rattle.coverage_server.specs.Fetching.{FetchesNext, FetchesRead}
use Rattle.coverage_server.specs.Growing.{GrowsNext, GrowsRead}
use Rattle.coverage_server.specs.Runs.{MessageStep}
use Rattle.coverage_server.proofs.FetchingLemmas.{none_read}
use Rattle.coverage_server.proofs.GrowthLemmas.{nothing_read}
use Rattle.coverage_server.proofs.ReplyLemmas.{spelled_step, spelled_badly, refused_step}
use Rattle.coverage_server.proofs.server.Server.reply_to.Goals as goal

pub returns-in-Ok-clause-step : goal.returns-in-Ok-clause-step
returns-in-Ok-clause-step g c =
    let v = c.args.self.now in
    λ asked shows sure s r.
    let told : asked ≡ Ok c.in-Message.pairs.items = subst (Shows asked) c.in-Message.is shows in
    let x = c.answer-reply.ensures.step sure s r in
    let read : spelled c.in-Message.pairs.items ≡ Ok (asks c.in-Ok.request) = ap spelled (sym c.as_slice.ensures.value) ∙ c.in-Ok.ensures in (
      x.0,
      x.1,
      subst (λ (a : Result (List ℕ) Refusal). MessageStep s a c.answer-reply.result x.0) (sym told)
          (spelled_step v sure c.answer-reply.ensures.catalogue s r (spelled c.in-Message.pairs.items)
          (asks c.in-Ok.request) c.answer-reply.result x.0 read x.2),
    )

pub returns-in-Message-clause-step : goal.returns-in-Message-clause-step
returns-in-Message-clause-step g c =
    λ asked shows sure s r.
    let told : asked ≡ Ok c.in-Message.pairs.items = subst (Shows asked) c.in-Message.is shows in (
      s,
      r,
      subst (λ (a : Result (List ℕ) Refusal). MessageStep s a (Refused c.number.result) s) (sym told)
          (subst (λ (bytes : List ℕ). MessageStep s (Ok bytes) (Refused c.number.result) s) c.as_slice.ensures.value
          (spelled_badly (spelled c.as_slice.result.now) c.in-Err.error c.number.result s
          (c.number.ensures.number ∙ ap number_of c.refusal.ensures) c.in-Err.ensures)),
    )

pub returns-in-Refused-clause-step : goal.returns-in-Refused-clause-step
returns-in-Refused-clause-step g c =
    λ asked shows sure s r. (
      s,
      r,
      refused_step asked c.in-Refused.code s (subst (Shows asked) c.in-Refused.is shows),
    )

pub returns-in-Ok-clause-fetches : goal.returns-in-Ok-clause-fetches
returns-in-Ok-clause-fetches g c =
    let v = c.args.self.now in
    let w = c.answer-reply.new.self in
    let read : spelled c.in-Message.pairs.items ≡ Ok (asks c.in-Ok.request) = ap spelled (sym c.as_slice.ensures.value) ∙ c.in-Ok.ensures in
    subst (λ (n : Next). FetchesNext n c.answer-reply.result v w) (sym c.in-Message.is)
    (subst (λ (r : Result Asks RequestError). FetchesRead r c.answer-reply.result v w) (sym read) c.answer-reply.ensures.fetches)

pub returns-in-Message-clause-fetches : goal.returns-in-Message-clause-fetches
returns-in-Message-clause-fetches g c =
    let v = c.args.self.now in
    subst (λ (n : Next). FetchesNext n (Refused c.number.result) v v) (sym c.in-Message.is)
    (none_read (spelled c.in-Message.pairs.items) c.number.result v)

pub returns-in-Refused-clause-fetches : goal.returns-in-Refused-clause-fetches
returns-in-Refused-clause-fetches g c =
    let v = c.args.self.now in
    subst (λ (n : Next). FetchesNext n (Refused c.in-Refused.code) v v) (sym c.in-Refused.is) refl

pub returns-in-Ok-clause-grows : goal.returns-in-Ok-clause-grows
returns-in-Ok-clause-grows g c =
    let v = c.args.self.now.coverages in
    let w = c.answer-reply.new.self.coverages in
    let read : spelled c.in-Message.pairs.items ≡ Ok (asks c.in-Ok.request) = ap spelled (sym c.as_slice.ensures.value) ∙ c.in-Ok.ensures in
    subst (λ (n : Next). GrowsNext n v w) (sym c.in-Message.is)
    (subst (λ (r : Result Asks RequestError). GrowsRead r v w) (sym read) c.answer-reply.ensures.grows)

pub returns-in-Message-clause-grows : goal.returns-in-Message-clause-grows
returns-in-Message-clause-grows g c =
    let v = c.args.self.now.coverages in
    subst (λ (n : Next). GrowsNext n v v) (sym c.in-Message.is) (nothing_read (spelled c.in-Message.pairs.items) v)

pub returns-in-Refused-clause-grows : goal.returns-in-Refused-clause-grows
returns-in-Refused-clause-grows g c =
    let v = c.args.self.now.coverages in
    subst (λ (n : Next). GrowsNext n v v) (sym c.in-Refused.is) refl
