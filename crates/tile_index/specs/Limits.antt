-- The limits of an index.
use Rattle.std.specs.Prelude.{ℕ}

-- the most blocks of a tile: the longest has 40,960 bytes
abbrev pub max_tile_blocks : ℕ
max_tile_blocks = 10
