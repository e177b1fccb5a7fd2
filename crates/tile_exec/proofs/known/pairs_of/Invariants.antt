use Rattle.std.proofs.Common.{◌≡◌, length}
use Rattle.std.specs.List.{All}
use Rattle.tile_exec.specs.Known.{IsPairOf}
use Rattle.tile_exec.proofs.known.pairs_of.Given as goal

abbrev pub invariant-loop-place : goal.invariant-loop-place
invariant-loop-place l = record {
  many : length l.pairs.items ≡ l.place;
  each : All (IsPairOf l.samples l.outcomes) l.pairs.items;
}
