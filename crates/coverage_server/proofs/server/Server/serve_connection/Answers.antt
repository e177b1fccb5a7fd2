-- The replies are those of one run over the messages that came, and the end tells what failed, if anything did.
use Rattle.std.proofs.Common.{[], refl, sym, ap, ◌∙◌, subst, arith}
use Rattle.std.specs.Prelude.{IsTrue}
use Rattle.std.proofs.KnownBytes.{Appends-nil, Consumes-nil}
use Rattle.stream_face.specs.Faults.{one_more_failure}
use Rattle.http_front.proofs.TakenLemmas.{found_item}
use Rattle.coverage_server.proofs.ServingLemmas.{ended, faulted, answered, unwritten, continued, roomy, quiet_item, Continues-trans, Continues-refl}
use Rattle.coverage_server.proofs.server.Server.serve_connection.Goals as goal

pub serving-init : goal.serving-init
serving-init g c = record {
  going = c.new-connection.ensures.open;
  few = omega (arith, c.new-connection.ensures.count);
  served = λ sure s r. (
    s,
    r,
    record {
      came = [];
      took = Consumes-nil _;
      items = [];
      taken = sym c.new-connection.ensures.held;
      replies = [];
      run = refl;
      sent = Appends-nil _;
      flushed = λ none. none;
      counted = c.new-connection.ensures.count;
    },
  );
  read = refl;
  written = refl;
  continues = Continues-refl _;
}

pub returns-in-Ended-clause-served : goal.returns-in-Ended-clause-served
returns-in-Ended-clause-served g c =
    let f = c.in-Ended.ensures.found c.serving.invariant.going in
    λ sure s r. let x = c.serving.invariant.served sure s r in (x.0, x.1, ended x.2 (g.R.Source.view c.next.new.source) f.0 f.1 f.2.0 f.2.1)

pub returns-in-Ended-clause-told : goal.returns-in-Ended-clause-told
returns-in-Ended-clause-told g c = (c.in-Ended.ensures.told ∙ c.serving.invariant.read, c.serving.invariant.written)

pub returns-in-ReadFault-clause-served : goal.returns-in-ReadFault-clause-served
returns-in-ReadFault-clause-served g c =
    let f = c.in-ReadFault.ensures.found c.serving.invariant.going in
    λ sure s r. let x = c.serving.invariant.served sure s r in (x.0, x.1, faulted x.2 (g.R.Source.view c.next.new.source) f.0 f.1 f.2.0)

pub returns-in-ReadFault-clause-told : goal.returns-in-ReadFault-clause-told
returns-in-ReadFault-clause-told g c =
    (c.in-ReadFault.ensures.told ∙ ap one_more_failure c.serving.invariant.read, c.serving.invariant.written)

pub returns-in-Err-clause-served : goal.returns-in-Err-clause-served
returns-in-Err-clause-served g c =
    let f = c.next.ensures.found c.serving.invariant.going in
    let x = found_item _ _ _ _ c.next.result _ _ f.2 c.in_default.not-Ended c.in_default.not-ReadFault in
    let inv = c.serving.invariant in
    λ sure s r.
    let y = inv.served sure s r in
    let z = c.reply_to-reply.ensures.step x.0.asked x.2 (subst IsTrue (sym inv.continues.honest) sure) y.0 y.1 in (
      z.0,
      z.1,
      unwritten y.2 (g.R.Source.view c.next.new.source) f.0 f.1 _ x.0 x.1 z.0 _ z.2 _ _
          x.3 x.4 _ c.in-Err.ensures.sent.0,
    )

pub returns-in-Err-clause-told : goal.returns-in-Err-clause-told
returns-in-Err-clause-told g c =
    let inv = c.serving.invariant in (
      quiet_item (g.R.Source.view c.serving.reader) (g.R.Source.view c.next.new.source) c.next.result c.next.ensures.told c.in_default.not-Ended c.in_default.not-ReadFault ∙ inv.read,
      c.in-Err.ensures.sent.1 ∙ ap one_more_failure inv.written,
    )

pub returns-then-is_over-clause-served : goal.returns-then-is_over-clause-served
returns-then-is_over-clause-served g c =
    let f = c.next.ensures.found c.serving.invariant.going in
    let x = found_item _ _ _ _ c.next.result _ _ f.2 c.in_default.not-Ended c.in_default.not-ReadFault in
    let inv = c.serving.invariant in
    λ sure s r.
    let y = inv.served sure s r in
    let z = c.reply_to-reply.ensures.step x.0.asked x.2 (subst IsTrue (sym inv.continues.honest) sure) y.0 y.1 in (
      z.0,
      z.1,
      answered y.2 (g.R.Source.view c.next.new.source) f.0 f.1 _ x.0 x.1 z.0 _ z.2 _ _
          x.3 x.4 _ (sym c.is_over.ensures ∙ c.if-is_over.true) c.in-Ok.ensures.sent.0 c.in-Ok.ensures.flushed,
    )

pub returns-then-is_over-clause-told : goal.returns-then-is_over-clause-told
returns-then-is_over-clause-told g c =
    let inv = c.serving.invariant in (
      quiet_item (g.R.Source.view c.serving.reader) (g.R.Source.view c.next.new.source) c.next.result c.next.ensures.told c.in_default.not-Ended c.in_default.not-ReadFault ∙ inv.read,
      c.in-Ok.ensures.sent.1 ∙ inv.written,
    )

pub serving-preserved-else-is_over : goal.serving-preserved-else-is_over
serving-preserved-else-is_over g c =
    let f = c.next.ensures.found c.serving.invariant.going in
    let x = found_item _ _ _ _ c.next.result _ _ f.2 c.in_default.not-Ended c.in_default.not-ReadFault in
    let goes_on = sym c.is_over.ensures ∙ c.if-is_over.false in
    let counted = c.next.ensures.count goes_on in
    let inv = c.serving.invariant in
    let later = g.R.Source.view c.next.new.source in
    record {
      going = goes_on;
      few = roomy c.serving.connection.count c.serving.connection.buffer f.0 _ later.remaining x.0 x.1 _ x.3 _ counted goes_on inv.few;
      served = λ sure s r.
          let y = inv.served sure s r in
          let z = c.reply_to-reply.ensures.step x.0.asked x.2 (subst IsTrue (sym inv.continues.honest) sure) y.0 y.1 in (
            z.0,
            z.1,
            continued y.2 later f.0 f.1 _ x.0 x.1 z.0 _ z.2 _ _ x.3 x.4 _ _ counted goes_on
                c.in-Ok.ensures.sent.0 c.in-Ok.ensures.flushed,
          );
      read = quiet_item (g.R.Source.view c.serving.reader) (g.R.Source.view c.next.new.source) c.next.result c.next.ensures.told c.in_default.not-Ended c.in_default.not-ReadFault ∙ inv.read;
      written = c.in-Ok.ensures.sent.1 ∙ inv.written;
      continues = Continues-trans _ _ _ inv.continues c.reply_to-reply.ensures.continues;
    }

pub serving-preserved-else-is_over-2 : goal.serving-preserved-else-is_over-2
serving-preserved-else-is_over-2 g c =
    let f = c.next.ensures.found c.serving.invariant.going in
    let x = found_item _ _ _ _ c.next.result _ _ f.2 c.in_default.not-Ended c.in_default.not-ReadFault in
    let goes_on = sym c.is_over.ensures ∙ c.if-is_over.false in
    let counted = c.next.ensures.count goes_on in
    let inv = c.serving.invariant in
    let later = g.R.Source.view c.next.new.source in
    record {
      going = goes_on;
      few = roomy c.serving.connection.count c.serving.connection.buffer f.0 _ later.remaining x.0 x.1 _ x.3 _ counted goes_on inv.few;
      served = λ sure s r.
          let y = inv.served sure s r in
          let z = c.reply_to-reply.ensures.step x.0.asked x.2 (subst IsTrue (sym inv.continues.honest) sure) y.0 y.1 in (
            z.0,
            z.1,
            continued y.2 later f.0 f.1 _ x.0 x.1 z.0 _ z.2 _ _ x.3 x.4 _ _ counted goes_on
                c.in-Ok.ensures.sent.0 c.in-Ok.ensures.flushed,
          );
      read = quiet_item (g.R.Source.view c.serving.reader) (g.R.Source.view c.next.new.source) c.next.result c.next.ensures.told c.in_default.not-Ended c.in_default.not-ReadFault ∙ inv.read;
      written = c.in-Ok.ensures.sent.1 ∙ inv.written;
      continues = Continues-trans _ _ _ inv.continues c.reply_to-reply.ensures.continues;
    }

pub serving-preserved : goal.serving-preserved
serving-preserved g c =
    let f = c.next.ensures.found c.serving.invariant.going in
    let x = found_item _ _ _ _ c.next.result _ _ f.2 c.in_default.not-Ended c.in_default.not-ReadFault in
    let goes_on = sym c.is_over.ensures ∙ c.if-is_over.false in
    let counted = c.next.ensures.count goes_on in
    let inv = c.serving.invariant in
    let later = g.R.Source.view c.next.new.source in
    record {
      going = goes_on;
      few = roomy c.serving.connection.count c.serving.connection.buffer f.0 _ later.remaining x.0 x.1 _ x.3 _ counted goes_on inv.few;
      served = λ sure s r.
          let y = inv.served sure s r in
          let z = c.reply_to-reply.ensures.step x.0.asked x.2 (subst IsTrue (sym inv.continues.honest) sure) y.0 y.1 in (
            z.0,
            z.1,
            continued y.2 later f.0 f.1 _ x.0 x.1 z.0 _ z.2 _ _ x.3 x.4 _ _ counted goes_on
                c.in-Ok.ensures.sent.0 c.in-Ok.ensures.flushed,
          );
      read = quiet_item (g.R.Source.view c.serving.reader) (g.R.Source.view c.next.new.source) c.next.result c.next.ensures.told c.in_default.not-Ended c.in_default.not-ReadFault ∙ inv.read;
      written = c.in-Ok.ensures.sent.1 ∙ inv.written;
      continues = Continues-trans _ _ _ inv.continues c.reply_to-reply.ensures.continues;
    }

pub returns-in-Err-clause-continues : goal.returns-in-Err-clause-continues
returns-in-Err-clause-continues g c =
    Continues-trans _ _ _ c.serving.invariant.continues c.reply_to-reply.ensures.continues

pub returns-then-is_over-clause-continues : goal.returns-then-is_over-clause-continues
returns-then-is_over-clause-continues g c =
    Continues-trans _ _ _ c.serving.invariant.continues c.reply_to-reply.ensures.continues
