-- The numbers that a query can write.
use Rattle.std.specs.Prelude.{ℕ, ◌-◌, ◌^◌}

-- the greatest of them
abbrev pub max_number : ℕ
max_number = 2 ^ 63 - 1
