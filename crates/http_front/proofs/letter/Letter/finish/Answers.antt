-- With what was held back all of the reply has gone out, or a first part of it where a write failed.
use Rattle.std.proofs.Common.{◌≡◌, true, subst, rules}
use Rattle.stream_face.specs.Faults.{Sent}
use Rattle.http_front.proofs.SendingLemmas.{pending_sent}
use Rattle.http_front.proofs.letter.Letter.finish.Goals as goal

pub returns : goal.returns
returns g c first text s =
    let ok : c.args.ok ≡ true = search rules in
    let a = g.K.Sink.view c.args.sink.now in
    let b = g.K.Sink.view c.send_all.new.sink in
    pending_sent first a b c.send_all.result text c.args.self.now (rw ok at s) (subst (Sent a b c.send_all.result) c.held.ensures c.send_all.ensures)
