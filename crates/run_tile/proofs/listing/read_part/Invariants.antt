use Rattle.std.proofs.Common.{◌≡◌, ◌-◌, ◌*◌, ◌≤◌}
use Rattle.run_tile.specs.Runs.{run_at}
use Rattle.run_tile.specs.Listing.{IsPart}
use Rattle.run_tile.proofs.listing.read_part.Given as goal

-- the runs up to this place
abbrev pub invariant-loop-place : goal.invariant-loop-place
invariant-loop-place l = record {
  part : IsPart l.kind l.bytes l.values l.counts l.from l.place l.part;
  few : l.part.cells ≤ (l.place - l.from) * 65535;
  last_is : l.last ≡ (run_at l.kind l.bytes (l.place - 1)).value;
}
