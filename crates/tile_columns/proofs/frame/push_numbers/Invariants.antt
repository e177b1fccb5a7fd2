use Rattle.std.proofs.Common.{◌≡◌, ℕ, ◌++◌, take}
use Rattle.std.specs.List.{All}
use Rattle.tile_columns.specs.Frames.{environment, HasPlaces}
use Rattle.tile_columns.proofs.frame.push_numbers.Given as goal

abbrev pub invariant-loop-z : goal.invariant-loop-z
invariant-loop-z l = record {
  numbers : (place : ℕ) → environment l.variables.items place ≡ environment l.fn.variables.items place ++ take l.z-index l.numbers;
  whole : (n : ℕ) → All (HasPlaces n) l.fn.variables.items → All (HasPlaces n) l.variables.items;
}
