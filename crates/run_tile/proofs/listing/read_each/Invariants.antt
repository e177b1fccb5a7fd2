use Rattle.std.proofs.Common.{◌≡◌, ◌≤◌, ◌-◌, length, IsTrue, false, ℤ, List}
use Rattle.run_tile.specs.Runs.{first_runs, cells_of, IsSpelling}
use Rattle.run_tile.specs.Listing.{AreListed}
use Rattle.run_tile.proofs.listing.read_each.Given as goal

-- the runs up to this place
abbrev pub invariant-parts : goal.invariant-parts
invariant-parts l = record {
  sound : IsTrue l.part.sound → AreListed l.kind l.bytes l.values l.counts l.at;
  unsound : (l.part.sound ≡ false) → (list : List ℤ) → IsSpelling l.kind l.bytes list → ⊥;
  cells_are : l.cells ≡ length (cells_of (first_runs l.kind l.bytes l.at));
  some : 1 ≤ l.at;
  within : l.at ≤ length l.counts;
}

abbrev pub decreases-parts : goal.decreases-parts
decreases-parts l = length l.counts - l.at
