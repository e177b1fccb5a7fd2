-- Points whose value is 0, which many condensers need only count.
use Rattle.std.specs.Prelude.{◌≡◌, ℕ, ◌<◌, pos, List, [], ◌∷◌, length, slice_index_or, Bool, true, false, IsTrue}
use Rattle.std.specs.List.{All}
use Rattle.wcps_text.specs.declared.operator.Aggregate.{Aggregate}
use Rattle.wcps_text.specs.declared.operator.Aggregate.TheVariants.{Sum, Product, Greatest, Least, Every, Any, Count, Average}
use Rattle.wcps_mean.specs.declared.cell.Outcome.TheVariants.{Value}
use Rattle.tile_kernel.specs.declared.accumulator.Accumulator.{Accumulator}
use Rattle.tile_kernel.specs.Told.{Told}
use Rattle.tile_kernel.specs.Standing.{Stands}

-- whether a condenser keeps of values what it keeps of those that are not 0: a sum, an average, a count, whether some
-- one is true
abbrev pub skips_zeros : Aggregate → Bool
skips_zeros Sum = true
skips_zeros Product = false
skips_zeros Greatest = false
skips_zeros Least = false
skips_zeros Every = false
skips_zeros Any = true
skips_zeros Count = true
skips_zeros Average = true

abbrev pub SkipZeros : List Accumulator → Type 0
SkipZeros folds = All (λ (a : Accumulator). IsTrue (skips_zeros a.running.op)) folds

-- the second list has the points of the first in their order, and among them points whose value is 0
pub data AddsZeros : List Told → List Told → Type 0 where
  none : AddsZeros [] []
  point : (t : Told) (told more : List Told) → AddsZeros told more → AddsZeros (t ∷ told) (t ∷ more)
  blank : (p : ℕ) (told more : List Told) → AddsZeros told more → AddsZeros told ((p, Value (pos 0)) ∷ more)

-- the second accumulator stands for so many points: those of the first and further ones whose value is 0
abbrev pub CountsZeros : ℕ → Accumulator → Accumulator → Type 0
CountsZeros count before after =
    (told more : List Told) → Stands before told → AddsZeros told more → length more ≡ count → Stands after more

-- each of them does
abbrev pub EachCountsZeros : ℕ → List Accumulator → List Accumulator → Type 0
EachCountsZeros count before after =
    (k : ℕ) (d : Accumulator) → k < length before
    → CountsZeros count (slice_index_or before k d) (slice_index_or after k d)
