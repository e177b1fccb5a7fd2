-- No byte was taken so far and none flushed, and as many writes have failed as were made.
use Rattle.std.proofs.Common.{◌≡◌, ◌≤◌, ◌-◌}
use Rattle.std.specs.Io.KnownBytes.{Keeps}
use Rattle.rasterd.specs.Resuming.{more_failures}
use Rattle.rasterd.proofs.resumed.write_again.Given as goal

abbrev pub invariant-writing : goal.invariant-writing
invariant-writing g l =
    (l.left ≤ 1000)
    × Keeps (g.W.Sink.view l.initial.writer).contents (g.W.Sink.view l.writer).contents
    × ((g.W.Sink.view l.writer).waiting ≡ (g.W.Sink.view l.initial.writer).waiting)
    × ((g.W.Sink.view l.writer).failures ≡ more_failures (1000 - l.left) (g.W.Sink.view l.initial.writer).failures)

abbrev pub decreases-writing : goal.decreases-writing
decreases-writing g l = l.left
