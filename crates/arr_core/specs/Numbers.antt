-- Numbers that are given out in turn.
use Rattle.std.specs.Prelude.{ℕ, ◌+◌, ◌-◌, ◌^◌, nat_lt, cond, Option, Some, None}

-- the number after one, within 64 bits
abbrev pub number_after : ℕ → Option ℕ
number_after n = cond (nat_lt n (2 ^ 64 - 1)) (Some (n + 1)) None
