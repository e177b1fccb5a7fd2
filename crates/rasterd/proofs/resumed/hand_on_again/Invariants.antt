-- The bytes are as they were and none was flushed, and as many flushes have failed as were made.
use Rattle.std.proofs.Common.{◌≡◌, ◌≤◌, ◌-◌}
use Rattle.std.specs.Io.KnownBytes.{Keeps}
use Rattle.rasterd.specs.Resuming.{more_failures}
use Rattle.rasterd.proofs.resumed.hand_on_again.Given as goal

abbrev pub invariant-handing : goal.invariant-handing
invariant-handing g l =
    (l.left ≤ 1000)
    × Keeps (g.W.Sink.view l.initial.writer).contents (g.W.Sink.view l.writer).contents
    × ((g.W.Sink.view l.writer).waiting ≡ (g.W.Sink.view l.initial.writer).waiting)
    × ((g.W.Sink.view l.writer).failures ≡ more_failures (1000 - l.left) (g.W.Sink.view l.initial.writer).failures)

abbrev pub decreases-handing : goal.decreases-handing
decreases-handing g l = l.left
