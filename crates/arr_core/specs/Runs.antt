-- Numbers in order, as runs of one value.
use Rattle.std.specs.Prelude.{ℕ, ℤ, List, [], ◌∷◌, ◌++◌, replicate, cond}
use Rattle.arr_core.specs.declared.runs.RunList.{RunList}

-- each value as often as its count says, as far as both lists go
abbrev pub spread : List ℤ → List ℕ → List ℤ
spread (value ∷ values) (count ∷ counts) = replicate count value ++ spread values counts
spread _ _ = []

-- each value once where there are no counts
abbrev pub runs_of : List ℤ → List ℕ → List ℤ
runs_of values [] = values
runs_of values (count ∷ counts) = spread values (count ∷ counts)

-- the numbers that a list of runs stands for: those of 32 bits where it is narrow
abbrev pub cells_of : RunList → List ℤ
cells_of runs = cond runs.is_narrow runs.narrow.items (runs_of runs.values.items runs.counts.items)
