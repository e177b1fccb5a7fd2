use Rattle.std.proofs.Common.{◌≡◌, ◌≤◌, ℕ, List, ◌++◌, length, take, ◌-◌}
use Rattle.std.specs.Io.KnownBytes.{Consumes}
use Rattle.httparse.specs.Grammar.{HasNoRequest}
use Rattle.http_front.proofs.ahead.look_ahead.Given as goal

abbrev pub invariant-reading : goal.invariant-reading
invariant-reading g l =
    ((came : List ℕ) × Consumes (g.S.Source.view l.initial.source).remaining (g.S.Source.view l.source).remaining came
    × (l.buffer ≡ l.initial.buffer ++ came))
    × ((g.S.Source.view l.source).failures ≡ (g.S.Source.view l.initial.source).failures)
    × (l.seen ≤ length l.buffer) × HasNoRequest (take l.seen l.buffer)

abbrev pub decreases-reading : goal.decreases-reading
decreases-reading g l = 16384 - length l.buffer
