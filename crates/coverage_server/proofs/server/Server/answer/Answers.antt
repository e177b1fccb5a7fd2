-- What was answered is a step of the machine from a state, with its tiles where they lie, to the next.
use Rattle.std.proofs.Common.{◌≡◌, ℕ, ◌<◌, length, sym, subst}
use Rattle.std.specs.Prelude.{IsTrue}
use Rattle.block_file.specs.State.{block_at}
use Rattle.catalogue.specs.Signatures.{IsCatalogue}
use Rattle.raster_store.specs.Views.{listed_all}
use Rattle.http_front.specs.declared.reply.Reply.{Reply}
use Rattle.kvp_front.specs.Requests.{asks}
use Rattle.raster_store.specs.Calls.{AreWhole}
use Rattle.coverage_server.specs.Fetching.{FetchesBounded}
use Rattle.coverage_server.specs.Leaving.{IfRefused, Leaves, LeavesFailures}
use Rattle.coverage_server.specs.Represents.{Places, Steps}
use Rattle.coverage_server.specs.Runs.{Placed}
use Rattle.coverage_server.specs.Views.{SessionView, signatures_of}
use Rattle.coverage_server.proofs.PlacedLemmas.{stepped}
use Rattle.coverage_server.proofs.ReplyLemmas.{refused_as}
use Rattle.coverage_server.proofs.ToldLemmas.{reply_told}
use Rattle.coverage_server.proofs.server.Server.answer.Goals as goal

pub returns-clause-step : goal.returns-clause-step
returns-clause-step g c =
    let v = c.args.self.now in
    let w = c.answered-answered.new.self in
    let r = c.answered-answered.result in
    let request = asks c.args.request.now in
    let whole : AreWhole w.coverages.store w.coverages.indexes = subst
    (λ (u : SessionView). AreWhole u.coverages.store u.coverages.indexes) c.self-2.view_is
    c.len-whole.ensures.whole in
    let catalogue : IsCatalogue (signatures_of v.coverages.store) =
    subst (λ (u : SessionView). IsCatalogue (signatures_of u.coverages.store)) c.self.view_is
    c.len-count.ensures.catalogue in
    let blocks : IsTrue v.coverages.honest → (k : ℕ) → 0 < listed_all v.coverages.indexes k
    → length (block_at v.coverages.content k) ≡ 4096 =
    subst (λ (u : SessionView). IsTrue u.coverages.honest → (k : ℕ) → 0 < listed_all u.coverages.indexes k
    → length (block_at u.coverages.content k) ≡ 4096) c.self.view_is c.len-count.ensures.in_use in
    λ sure p at.
    subst (λ (reply : Reply). (q : Placed) × Places w q × Steps request v p reply q) (sym c.reply_of.ensures)
    (stepped request v w sure whole c.answered-answered.ensures.holding catalogue (blocks sure) p at r
    c.answered-answered.ensures.answered
    c.answered-answered.ensures.tiles c.answered-answered.ensures.leaves c.answered-answered.ensures.answer
    c.answered-answered.ensures.told)

pub returns-clause-leaves : goal.returns-clause-leaves
returns-clause-leaves g c =
    let v = c.args.self.now in
    let w = c.answered-answered.new.self in
    let Left : ℕ → Type 0 = λ code. Leaves (asks c.args.request.now) code v w in
    subst (λ (reply : Reply). IfRefused reply Left) (sym c.reply_of.ensures)
    (refused_as c.answered-answered.result Left c.answered-answered.ensures.leaves c.answered-answered.ensures.answer)

pub returns-clause-fetches : goal.returns-clause-fetches
returns-clause-fetches g c =
    subst (λ (reply : Reply). FetchesBounded (asks c.args.request.now) reply c.args.self.now c.answered-answered.new.self)
    (sym c.reply_of.ensures) c.answered-answered.ensures.fetches

pub returns-clause-failures : goal.returns-clause-failures
returns-clause-failures g c =
    let v = c.args.self.now.coverages in
    let w = c.answered-answered.new.self.coverages in
    subst (λ (reply : Reply). LeavesFailures reply v w) (sym c.reply_of.ensures)
    (reply_told c.answered-answered.result v w c.answered-answered.ensures.told)
