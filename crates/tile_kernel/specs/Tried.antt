-- Operations that were tried in 32 bits.
use Rattle.std.specs.Prelude.{ℕ, ◌≤◌, ◌^◌, ℤ, List, length}
use Rattle.wcps_mean.specs.declared.cell.Outcome.{Outcome}
use Rattle.tile_kernel.specs.declared.narrow_loops.Bounds.{Bounds}
use Rattle.tile_kernel.specs.Columns.{exact_at}
use Rattle.tile_kernel.specs.Narrow.{AreNarrowOf, IsBound}

-- an operation's values that fit 32 bits stand at the first n places, and these are bounds of its operands
pub record IsTried (n : ℕ) (exact : ℤ → ℤ → Outcome) (left right : ℕ → ℤ) (zs : List ℤ) (bounds : Bounds) : Type 0 where
  pub room : n ≤ length zs
  pub values : AreNarrowOf n (exact_at exact left right) zs
  pub left_bound : IsBound n left bounds.left
  pub right_bound : IsBound n right bounds.right
  pub small_left : bounds.left ≤ 2 ^ 31
  pub small_right : bounds.right ≤ 2 ^ 31
