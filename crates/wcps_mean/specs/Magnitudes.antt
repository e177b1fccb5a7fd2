-- Factors by sign and magnitude.
use Rattle.std.specs.Prelude.{ℕ, zero, suc, ◌+◌, ◌*◌, ◌^◌, min, ℤ, pos, negsuc, Bool, true, false, ◌||◌, List, [], ◌∷◌}
use Rattle.wcps_mean.specs.Cells.{differ}

-- a magnitude above 2^63 counts as 2^63 + 1
abbrev pub cap : ℕ → ℕ
cap m = min m (2 ^ 63 + 1)

abbrev pub is_zero : ℤ → Bool
is_zero (pos zero) = true
is_zero (pos (suc n)) = false
is_zero (negsuc n) = false

abbrev pub is_negative : ℤ → Bool
is_negative (pos n) = false
is_negative (negsuc n) = true

-- the magnitude of a factor, where the factor 0 counts as 1
abbrev pub magnitude_of : ℤ → ℕ
magnitude_of (pos zero) = 1
magnitude_of (pos (suc n)) = suc n
magnitude_of (negsuc n) = suc n

-- whether a factor is 0
abbrev pub has_zero_of : List ℤ → Bool
has_zero_of [] = false
has_zero_of (z ∷ zs) = is_zero z || has_zero_of zs

-- whether an odd number of factors is negative
abbrev pub sign_of : List ℤ → Bool
sign_of [] = false
sign_of (z ∷ zs) = differ (is_negative z) (sign_of zs)

-- the product of the magnitudes
abbrev pub size_of : List ℤ → ℕ
size_of [] = 1
size_of (z ∷ zs) = magnitude_of z * size_of zs
