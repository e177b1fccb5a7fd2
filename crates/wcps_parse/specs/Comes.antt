-- What a function of two bounds comes to, once both are large enough.
use Rattle.std.specs.Prelude.{◌≡◌, ℕ, ◌≤◌}

pub record Comes {A : Type 0} (f : ℕ → ℕ → A) (a : A) : Type 0 where
  pub from : ℕ
  pub there : (n m : ℕ) → from ≤ n → from ≤ m → f n m ≡ a
