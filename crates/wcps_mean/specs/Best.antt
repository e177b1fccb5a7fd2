-- The greatest and the least of a list that grows.
use Rattle.std.specs.Prelude.{ℤ, List, [], ◌∷◌, Option, Some, None}
use Rattle.wcps_mean.specs.Condensers.{larger, smaller, greatest, least}

abbrev pub greatest_of : List ℤ → Option ℤ
greatest_of [] = None
greatest_of (z ∷ zs) = Some (greatest z zs)

abbrev pub least_of : List ℤ → Option ℤ
least_of [] = None
least_of (z ∷ zs) = Some (least z zs)

-- the greater of x and the value before, if any
abbrev pub top_of : Option ℤ → ℤ → ℤ
top_of None x = x
top_of (Some m) x = larger m x

-- the smaller of x and the value before, if any
abbrev pub bottom_of : Option ℤ → ℤ → ℤ
bottom_of None x = x
bottom_of (Some m) x = smaller m x
