-- The tokens of a text.
use Rattle.std.specs.Prelude.{◌≡◌, ℕ, ◌+◌, ◌-◌, ◌*◌, ◌<◌, ◌≤◌, Bool, cond, ◌&&◌, ◌||◌, not, IsTrue, List, [], ◌∷◌, ◌++◌, length, map, Option, Some, None, Result, Ok, Err, codes, nat_le, ◌==◌}
use Rattle.std.specs.Char.{is_ascii_digit, is_ascii_alphanumeric}
use Rattle.wcps_text.specs.declared.token.Symbol.{Symbol}
use Rattle.wcps_text.specs.declared.token.Symbol.TheVariants as signs
use Rattle.arr_core.specs.declared.keyword.Keyword.{Keyword}
use Rattle.arr_core.specs.Keywords.{IsWritten}
use Rattle.wcps_text.specs.declared.token.Token.{Token}
use Rattle.wcps_text.specs.declared.error.LexError.{LexError}
use Rattle.wcps_text.specs.declared.error.LexError.TheVariants as errors
use Rattle.wcps_text.specs.Token.{Tok, number, name, dollar, quoted, word, sign, tok}
use Rattle.arr_core.specs.Limits.{max_name}
use Rattle.wcps_text.specs.Number.{max_number}
pub use Rattle.arr_core.specs.Names.{begins_name}

-- space, tab, CR and LF
abbrev pub is_space : ℕ → Bool
is_space b = (b == 32 || b == 9) || (b == 13 || b == 10)

-- a letter, a digit or `_`
abbrev pub continues_name : ℕ → Bool
continues_name b = is_ascii_alphanumeric b || b == 95

-- what may stand in a string: bytes 32 to 126 but the quote
abbrev pub is_quotable : ℕ → Bool
is_quotable b = (nat_le 32 b && nat_le b 126) && not (b == 34)

-- all bytes pass
abbrev pub Every : (ℕ → Bool) → List ℕ → Type 0
Every p [] = Unit {0}
Every p (b ∷ bs) = IsTrue (p b) × Every p bs

-- the value of digits, behind a front of that value
abbrev pub decimal_from : ℕ → List ℕ → ℕ
decimal_from n [] = n
decimal_from n (d ∷ ds) = decimal_from (n * 10 + (d - 48)) ds

abbrev pub decimal : List ℕ → ℕ
decimal ds = decimal_from 0 ds

-- the symbol that a byte is alone: ( ) [ ] { } , ; : . < > = + - * /
abbrev pub single : ℕ → Option Symbol
single b = cond (b == 40) (Some signs.LeftParen)
    (cond (b == 41) (Some signs.RightParen)
    (cond (b == 91) (Some signs.LeftBracket)
    (cond (b == 93) (Some signs.RightBracket)
    (cond (b == 123) (Some signs.LeftBrace)
    (cond (b == 125) (Some signs.RightBrace)
    (cond (b == 44) (Some signs.Comma)
    (cond (b == 59) (Some signs.Semicolon)
    (cond (b == 58) (Some signs.Colon)
    (cond (b == 46) (Some signs.Dot)
    (cond (b == 60) (Some signs.Less)
    (cond (b == 62) (Some signs.Greater)
    (cond (b == 61) (Some signs.Equal)
    (cond (b == 43) (Some signs.Plus)
    (cond (b == 45) (Some signs.Minus)
    (cond (b == 42) (Some signs.Star) (cond (b == 47) (Some signs.Slash) None))))))))))))))))

-- the symbol that a byte is together with `=` behind it: <= >= !=
abbrev pub double : ℕ → Option Symbol
double b = cond (b == 60) (Some signs.LessEqual)
    (cond (b == 62) (Some signs.GreaterEqual) (cond (b == 33) (Some signs.NotEqual) None))

-- the bytes of a symbol
abbrev pub symbol_text : Symbol → List ℕ
symbol_text signs.LeftParen = codes "("
symbol_text signs.RightParen = codes ")"
symbol_text signs.LeftBracket = codes "["
symbol_text signs.RightBracket = codes "]"
symbol_text signs.LeftBrace = codes "{"
symbol_text signs.RightBrace = codes "}"
symbol_text signs.Comma = codes ","
symbol_text signs.Semicolon = codes ";"
symbol_text signs.Colon = codes ":"
symbol_text signs.Dot = codes "."
symbol_text signs.Less = codes "<"
symbol_text signs.LessEqual = codes "<="
symbol_text signs.Greater = codes ">"
symbol_text signs.GreaterEqual = codes ">="
symbol_text signs.Equal = codes "="
symbol_text signs.NotEqual = codes "!="
symbol_text signs.Plus = codes "+"
symbol_text signs.Minus = codes "-"
symbol_text signs.Star = codes "*"
symbol_text signs.Slash = codes "/"

-- a letter or `_`, then letters, digits and `_`
pub data IsWord : List ℕ → Type 0 where
  is_word : {c : ℕ} {cs : List ℕ} → IsTrue (begins_name c) → Every continues_name cs → IsWord (c ∷ cs)

pub data IsDigits : List ℕ → Type 0 where
  is_digits : {d : ℕ} {ds : List ℕ} → IsTrue (is_ascii_digit d) → Every is_ascii_digit ds → IsDigits (d ∷ ds)

-- The bytes have the form of a token, and this is the token that they are, or why they are none.
pub data Reads : List ℕ → Result Tok LexError → Type 0 where
  numeral : {ds : List ℕ} → IsDigits ds → decimal ds ≤ max_number → Reads ds (Ok (number (decimal ds)))
  large_numeral : {ds : List ℕ} → IsDigits ds → max_number < decimal ds → Reads ds (Err errors.NumberTooLarge)
  plain : {w : List ℕ} → IsWord w → length w ≤ max_name → ((k : Keyword) → IsWritten k w → ⊥) → Reads w (Ok (name w))
  reserved : {w : List ℕ} {k : Keyword} → IsWord w → length w ≤ max_name → IsWritten k w → Reads w (Ok (word k))
  long_plain : {w : List ℕ} → IsWord w → max_name < length w → Reads w (Err errors.BadToken)
  -- the `$` counts among the bytes of a name
  marked : {w : List ℕ} → IsWord w → length w < max_name → Reads (36 ∷ w) (Ok (dollar (36 ∷ w)))
  long_marked : {w : List ℕ} → IsWord w → max_name ≤ length w → Reads (36 ∷ w) (Err errors.BadToken)
  text_between : {w : List ℕ} (cs : List ℕ) → Every is_quotable cs → w ≡ 34 ∷ (cs ++ 34 ∷ []) → Reads w (Ok (quoted w))
  one_byte : {b : ℕ} {s : Symbol} → single b ≡ Some s → Reads (b ∷ []) (Ok (sign s))
  two_bytes : {b : ℕ} {s : Symbol} → double b ≡ Some s → Reads (b ∷ 61 ∷ []) (Ok (sign s))

-- the text begins with w, which has the form of a token, and with nothing longer that has one
pub record IsLongest (w : List ℕ) (r : Result Tok LexError) (rest text : List ℕ) : Type 0 where
  pub cut : text ≡ w ++ rest
  pub reads : Reads w r
  pub longest : (v us : List ℕ) (q : Result Tok LexError) → Reads v q → text ≡ v ++ us → length v ≤ length w

-- a token, its bytes, and where they begin
pub record Piece : Type 0 where
  pub start : ℕ
  pub bytes : List ℕ
  pub is : Tok

abbrev pub piece : Token → Piece
piece t = record { start = t.start; bytes = t.text.now; is = tok t }

-- the tokens of a text, without where they stand
abbrev pub tokens_of : List Piece → List Tok
tokens_of pieces = map (λ (p : Piece). p.is) pieces

-- The text, whose first byte is at that place, has these tokens. Spaces between them leave no trace.
pub data Lexed : ℕ → List ℕ → List Piece → Type 0 where
  at_end : {at : ℕ} → Lexed at [] []
  past_space : {at c : ℕ} {text : List ℕ} {ps : List Piece} → IsTrue (is_space c) → Lexed (at + 1) text ps
      → Lexed at (c ∷ text) ps
  past_token : {at : ℕ} {text w rest : List ℕ} {t : Tok} {ps : List Piece} → IsLongest w (Ok t) rest text
      → Lexed (at + length w) rest ps
      → Lexed at text (record { start = at; bytes = w; is = t } ∷ ps)

-- The text has no tokens: this is wrong with the first bytes that are none.
pub data Refused : List ℕ → LexError → Type 0 where
  behind_space : {c : ℕ} {text : List ℕ} {e : LexError} → IsTrue (is_space c) → Refused text e → Refused (c ∷ text) e
  behind_token : {text w rest : List ℕ} {t : Tok} {e : LexError} → IsLongest w (Ok t) rest text → Refused rest e
      → Refused text e
  no_token : {text w rest : List ℕ} {e : LexError} → IsLongest w (Err e) rest text → Refused text e
  no_form : {c : ℕ} {text : List ℕ} → (IsTrue (is_space c) → ⊥)
      → ((v us : List ℕ) (q : Result Tok LexError) → Reads v q → c ∷ text ≡ v ++ us → ⊥)
      → Refused (c ∷ text) errors.BadToken
