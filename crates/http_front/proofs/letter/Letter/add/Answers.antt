-- Bytes that do not fit go out behind what was held back, or a first part of both does where a write fails.
use Rattle.std.proofs.Common.{◌≡◌, ◌++◌, true, false, sym, subst, rules}
use Rattle.stream_face.specs.Faults.{Sent}
use Rattle.stream_face.proofs.SentLemmas.{Sent-after}
use Rattle.http_front.specs.Sending.{IsUnderWay}
use Rattle.http_front.proofs.SendingLemmas.{pending_sent, nothing_pending, prefix_longer}
use Rattle.http_front.proofs.letter.Letter.add.Goals as goal

pub returns-then-not-send_all : goal.returns-then-not-send_all
returns-then-not-send_all g c first text s =
    let ok : c.args.ok ≡ true = search rules in
    let a = g.K.Sink.view c.args.sink.now in
    let b = g.K.Sink.view c.send_all.new.sink in
    let gone = pending_sent first a b false text c.args.self.now (rw ok at s) (subst (Sent a b false) c.held.ensures c.if-not-send_all.ensures) in
    (prefix_longer first.contents b.contents text c.args.bytes.now gone.0, gone.1)

pub returns : goal.returns
returns g c first text s =
    let ok : c.args.ok ≡ true = search rules in
    let a = g.K.Sink.view c.args.sink.now in
    let b = g.K.Sink.view c.send_all.new.sink in
    let d = g.K.Sink.view c.send_all-2.new.sink in
    let gone = pending_sent first a b true text c.args.self.now (rw ok at s) (subst (Sent a b true) c.held.ensures c.if-not-send_all.ensures) in
    let both = Sent-after first b d c.send_all-2.result text c.args.bytes.now gone c.send_all-2.ensures in
    subst (IsUnderWay first d c.send_all-2.result (text ++ c.args.bytes.now)) (sym c.clear.ensures)
    (nothing_pending first d c.send_all-2.result (text ++ c.args.bytes.now) both)
