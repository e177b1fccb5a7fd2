-- Texts in pieces.
use Rattle.std.specs.Prelude.{◌≡◌, ℕ, List, [], ◌∷◌, ◌++◌, Result, IfOk, String, string_bytes}
use Rattle.std.specs.Borrow.{Bor}

-- the pieces one after the other
abbrev pub text_of : List (Bor (List ℕ)) → List ℕ
text_of [] = []
text_of (piece ∷ []) = piece.now
text_of (piece ∷ next ∷ more) = piece.now ++ text_of (next ∷ more)

-- a call wrote that text, unless no memory was left
abbrev pub Writes : {A E : Type 0} → Result (String A) E → List ℕ → Type 0
Writes result bytes = IfOk result (λ text. string_bytes text ≡ bytes)
