use Rattle.std.proofs.Common.{ℕ, ◌*◌, ◌<◌, ◌≤◌, get_or}
use Rattle.std.specs.List.{All}
use Rattle.tile_kernel.specs.declared.windows.Span.{Span}
use Rattle.tile_kernel.proofs.windows.reach.Given as goal

abbrev pub invariant-loop-k : goal.invariant-loop-k
invariant-loop-k l = record {
  within : (k : ℕ) (d : Span) → k < l.k → (get_or l.down k d).to ≤ l.reach;
  reached : (width n : ℕ) → All (λ (d : Span). d.to * width ≤ n) l.down → l.reach * width ≤ n;
}
