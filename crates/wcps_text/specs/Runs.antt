-- Runs of bytes of one class.
use Rattle.std.specs.Prelude.{◌≡◌, ℕ, Bool, false, List, [], ◌∷◌}
use Rattle.std.specs.Char.{is_ascii_digit}
use Rattle.wcps_text.specs.declared.runs.Class.{Class}
use Rattle.wcps_text.specs.declared.runs.Class.TheVariants as classes
use Rattle.wcps_text.specs.Lexing.{is_space, continues_name, is_quotable}

abbrev pub is_of : Class → ℕ → Bool
is_of classes.Space = is_space
is_of classes.Digit = is_ascii_digit
is_of classes.Name = continues_name
is_of classes.Quotable = is_quotable

-- no byte of that kind stands at the front
abbrev pub Stops : (ℕ → Bool) → List ℕ → Type 0
Stops p [] = Unit {0}
Stops p (b ∷ bs) = p b ≡ false
