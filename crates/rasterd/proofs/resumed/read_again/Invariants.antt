-- No byte has come so far, and as many reads have failed as were made.
use Rattle.std.proofs.Common.{◌≡◌, ◌≤◌, ◌-◌, length}
use Rattle.std.specs.Io.KnownBytes.{Keeps}
use Rattle.rasterd.specs.Resuming.{more_failures}
use Rattle.rasterd.proofs.resumed.read_again.Given as goal

abbrev pub invariant-reading : goal.invariant-reading
invariant-reading g l =
    (length l.buf ≡ length l.initial.buf)
    × (l.left ≤ 1000)
    × Keeps (g.R.Source.view l.initial.reader).remaining (g.R.Source.view l.reader).remaining
    × ((g.R.Source.view l.reader).failures ≡ more_failures (1000 - l.left) (g.R.Source.view l.initial.reader).failures)

abbrev pub decreases-reading : goal.decreases-reading
decreases-reading g l = l.left
