-- How many cells a result has.
use Rattle.std.specs.Prelude.{ℕ, ◌+◌, ◌*◌, min, List, [], ◌∷◌, length}
use Rattle.arr_core.specs.Domains.{count}
use Rattle.wcps_types.specs.Typed.{CombinationTree}

-- of all items together: points times fields
abbrev pub result_cells : List CombinationTree → ℕ
result_cells [] = 0
result_cells (c ∷ more) = count c.item.domain * length c.item.fields + result_cells more

-- how many are allowed
abbrev pub max_cells : ℕ
max_cells = 1048576

-- the number where it is allowed, else one more than is allowed
abbrev pub capped_cells : ℕ → ℕ
capped_cells n = min n (max_cells + 1)
