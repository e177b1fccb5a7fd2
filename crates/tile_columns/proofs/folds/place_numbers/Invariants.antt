use Rattle.std.proofs.Common.{◌≡◌, take, get_or, []}
use Rattle.tile_columns.proofs.folds.place_numbers.Given as goal

abbrev pub invariant-loop-k : goal.invariant-loop-k
invariant-loop-k l = l.numbers.items ≡ take l.k (get_or l.frame l.place [])
