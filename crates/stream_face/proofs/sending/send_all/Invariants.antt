use Rattle.std.proofs.Common.{◌≡◌, length, ◌-◌, take, ◌≤◌}
use Rattle.std.specs.Io.KnownBytes.{Appends}
use Rattle.stream_face.proofs.sending.send_all.Given as goal

abbrev pub invariant-sending : goal.invariant-sending
invariant-sending g l =
    (l.sent ≤ length l.bytes)
    × Appends (g.K.Sink.view l.initial.sink).contents (g.K.Sink.view l.sink).contents (take l.sent l.bytes)
    × ((g.K.Sink.view l.sink).failures ≡ (g.K.Sink.view l.initial.sink).failures)

abbrev pub decreases-sending : goal.decreases-sending
decreases-sending g l = length l.bytes - l.sent
