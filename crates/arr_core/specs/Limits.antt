-- The limits of names and of coverages.
use Rattle.std.specs.Prelude.{ℕ, ◌^◌}

-- the most bytes of a name
abbrev pub max_name : ℕ
max_name = 64

-- the most fields of a coverage
abbrev pub max_fields : ℕ
max_fields = 16

-- the most axes of a domain
abbrev pub max_axes : ℕ
max_axes = 6

-- the greatest bound of an axis; the least one is below its negation by 1
abbrev pub max_bound : ℕ
max_bound = 2147483647

-- the most points of a domain
abbrev pub max_points : ℕ
max_points = 2 ^ 24

-- the most points of a tile
abbrev pub max_tile : ℕ
max_tile = 4096

-- the most coverages of a store
abbrev pub max_coverages : ℕ
max_coverages = 1024
