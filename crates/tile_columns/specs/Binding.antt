-- Bodies under one more variable, which is a position's value.
use Rattle.std.specs.Prelude.{◌≡◌, ℕ, ℤ, int_le, ◌&&◌, cond, List, [], ◌∷◌, ◌++◌, map, length, slice_index_or}
use Rattle.std.specs.List.{range_with_len}
use Rattle.wcps_mean.specs.declared.cell.Outcome.{Outcome}
use Rattle.wcps_mean.specs.declared.cell.Outcome.TheVariants.{Value, Fault}
use Rattle.wcps_mean.specs.Cells.{at_position}
use Rattle.tile_kernel.specs.Columns.{outcome_at}

-- the coordinate of a position that lies from lo to hi, else lo
abbrev pub coordinate_or_lo : ℤ → ℤ → Outcome → ℤ
coordinate_or_lo lo hi (Fault f) = lo
coordinate_or_lo lo hi (Value z) = cond (int_le lo z && int_le z hi) z lo

-- the position at each place, tested against lo to hi, and what there is at a coordinate of each
abbrev pub at_positions : List Outcome → ℤ → ℤ → (ℕ → ℤ → Outcome) → List Outcome
at_positions positions lo hi go =
    map (λ k. at_position (outcome_at positions k) lo hi (go k)) (range_with_len 0 (length positions))

-- a position that lies from lo to hi, so that each outcome stands
abbrev pub IsSettled : ℤ → ℤ → Outcome → Type 0
IsSettled lo hi position = (o : Outcome) → at_position position lo hi (λ _. o) ≡ o

-- what a body gives at a place of a frame under one more variable
abbrev pub with_coordinate : (List ℤ → Outcome) → List (List ℤ) → ℕ → ℤ → Outcome
with_coordinate go envs k z = go (slice_index_or envs k [] ++ z ∷ [])
