-- What stands at the front of a text, in the words of the code that reads it.
use Rattle.std.specs.Prelude.{◌≡◌, ◌≢◌, ℕ, ◌+◌, false, List, length, take, drop, Ok}
use Rattle.std.specs.Char.{is_ascii_digit}
use Rattle.wcps_text.specs.declared.token.Kind.{Kind}
use Rattle.wcps_text.specs.declared.token.Token.{Token}
use Rattle.wcps_text.specs.Token.{tok, tok_at}
use Rattle.wcps_text.specs.Lexing.{begins_name, IsLongest}

-- the first n bytes are the longest token at the front, and it is of that kind
abbrev pub IsFront : List ℕ → ℕ → Kind → Type 0
IsFront text n kind = IsLongest (take n text) (Ok (tok_at kind (take n text))) (drop n text) text

-- the longest token of what follows the first bytes of a text, as many as are named
abbrev pub IsTokenAt : List ℕ → ℕ → Token → Type 0
IsTokenAt text start t = IsLongest t.text.now (Ok (tok t)) (drop (start + length t.text.now) text) (drop start text)

-- a byte that begins no number, no name, no variable and no string
pub record IsOther (b : ℕ) : Type 0 where
  pub no_digit : is_ascii_digit b ≡ false
  pub no_letter : begins_name b ≡ false
  pub no_dollar : b ≢ 36
  pub no_quote : b ≢ 34
