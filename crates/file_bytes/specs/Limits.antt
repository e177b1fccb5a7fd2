-- The blocks of a file.
use Rattle.std.specs.Prelude.{ℕ, ◌+◌, ◌-◌, ◌/◌}

-- the bytes of a block
abbrev pub block_bytes : ℕ
block_bytes = 4096

-- how many blocks so many bytes fill, the last one perhaps in part
abbrev pub blocks_filled : ℕ → ℕ
blocks_filled bytes = (bytes + (block_bytes - 1)) / block_bytes
