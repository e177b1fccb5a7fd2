use Rattle.std.proofs.Common.{◌≡◌, ◌≤◌, ◌+◌, List, ℕ, ◌++◌, length, IfSome}
use Rattle.std.specs.Io.KnownBytes.{Consumes}
use Rattle.http_front.proofs.body.take_body.Given as goal

abbrev pub invariant-pieces : goal.invariant-pieces
invariant-pieces g l =
    (came : List ℕ) × Consumes (g.S.Source.view l.initial.source).remaining (g.S.Source.view l.source).remaining came
    × (body : List ℕ) × (l.initial.buffer ++ came ≡ body ++ l.buffer) × (length body + l.left ≡ l.len)
    × IfSome l.kept (λ v. v.items ≡ body) × ((g.S.Source.view l.source).failures ≡ (g.S.Source.view l.initial.source).failures)
    × (length came + l.left ≤ l.len)

abbrev pub decreases-pieces : goal.decreases-pieces
decreases-pieces g l = l.left
