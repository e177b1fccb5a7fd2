-- The limits of a block file.
use Rattle.std.specs.Prelude.{ℕ, ◌-◌}

-- the bytes of metadata in a block of the chain, behind the number of the next one
abbrev pub chain_bytes : ℕ
chain_bytes = 4092

-- the most blocks of a file
abbrev pub max_blocks : ℕ
max_blocks = 1048576

-- the last block that a file may have
abbrev pub last_block : ℕ
last_block = max_blocks - 1

-- the most bytes of a file's metadata
abbrev pub max_metadata : ℕ
max_metadata = 15000000
