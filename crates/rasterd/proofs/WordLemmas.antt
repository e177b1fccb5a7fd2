-- A list of two words.
use Rattle.std.proofs.Common.{◌≡◌, ◌<◌, ◌≤◌, List, [], ◌∷◌, length, get_or, arith}
use Rattle.std.specs.Prelude.{String}
use Rattle.std.specs.declared.alloc.Global.{Global}

pub two_words : (words : List (String Global)) (a b : String Global) → 2 ≤ length words → length words < 3 → a ≡ get_or words 0 a → b ≡ get_or words 1 b
    → words ≡ a ∷ b ∷ []
two_words [] a b some few x y = absurd (omega arith)
two_words (w ∷ []) a b some few x y = absurd (omega arith)
two_words (w ∷ v ∷ []) a b some few x y = cc
two_words (w ∷ v ∷ u ∷ words) a b some few x y = absurd (omega arith)
