-- Behind what went out before goes the text, or a first part of it where the write fails.
use Rattle.std.proofs.Common.{◌≡◌, true, rules}
use Rattle.stream_face.proofs.SentLemmas.{Sent-after}
use Rattle.rasterd.proofs.lines.put.Goals as goal

pub returns : goal.returns
returns g c first said s =
    let ok : c.args.ok ≡ true = search rules in
    Sent-after first (g.E.Sink.view c.args.errors.now) (g.E.Sink.view c.send_all.new.sink) c.send_all.result said
    c.args.text.now (rw ok at s) (rw c.as_bytes.ensures.value at c.send_all.ensures)
