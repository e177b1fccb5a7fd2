use Rattle.std.proofs.Common.{◌≡◌, ℕ, ◌<◌, map, get_or, ℤ, pos}
use Rattle.tile_columns.specs.declared.spots.Spot.{Spot}
use Rattle.tile_columns.proofs.spots.write_at_spots.Given as goal

abbrev pub invariant-loop-k : goal.invariant-loop-k
invariant-loop-k l = record {
  written : (want : ℕ → ℤ) → l.picked ≡ map (λ (s : Spot). want s.place) l.spots → (j : ℕ) (d : Spot) → j < l.k → get_or l.all (get_or l.spots j d).place (pos 0) ≡ want (get_or l.spots j d).place;
  kept : (want : ℕ → ℤ) → l.picked ≡ map (λ (s : Spot). want s.place) l.spots → (place : ℕ) → get_or l.fn.cells.items place (pos 0) ≡ want place → get_or l.all place (pos 0) ≡ want place;
}
