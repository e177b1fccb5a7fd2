-- How numbers, keywords and symbols are written, so that the text reads as the token.
use Rattle.std.proofs.Common.{◌≡◌, ℕ, suc, ◌+◌, ◌-◌, ◌*◌, ◌/◌, ◌%◌, ◌^◌, ◌<◌, ◌≤◌, Bool, true, pos, negsuc, ◌-ℤ◌, List, [], ◌∷◌, ◌++◌, length, Ok, decimal as decimal_text, refl, ◌∙◌, arith}
use Rattle.std.proofs.lemmas.Bool.Decides.{nat_tests}
use Rattle.std.proofs.lemmas.Fmt.{decimal_by_steps}
use Rattle.std.proofs.lemmas.Int.{ints}
use Rattle.std.specs.Char.{is_ascii_digit}
use Rattle.arr_core.specs.declared.keyword.Keyword.{Keyword}
use Rattle.arr_core.specs.declared.keyword.Keyword.TheVariants as words
use Rattle.arr_core.specs.Limits.{max_name}
use Rattle.arr_core.specs.Keywords.{keyword_text}
use Rattle.wcps_text.specs.declared.token.Symbol.{Symbol}
use Rattle.wcps_text.specs.declared.token.Symbol.TheVariants as signs
use Rattle.wcps_text.specs.Token.{Tok, number, name, dollar, quoted, word, sign}
use Rattle.wcps_text.specs.Number.{max_number}
use Rattle.wcps_text.specs.Lexing.{Every, decimal, decimal_from, symbol_text, IsWord, is_word, IsDigits, is_digits, Reads, one_byte, two_bytes}

-- bytes that read as the token, which is no string
abbrev pub Written : Tok → Type 0
Written (number n) = n ≤ max_number
Written (name x) = Reads x (Ok (name x))
Written (dollar x) = Reads x (Ok (dollar x))
Written (quoted w) = ⊥
Written (word k) = Unit {0}
Written (sign s) = Unit {0}

-- the digits of a number
pub record IsText (n : ℕ) (ds : List ℕ) : Type 0 where
  pub digits : IsDigits ds
  pub value : decimal ds ≡ n

every_push : (p : ℕ → Bool) (ds : List ℕ) (d : ℕ) → Every p ds → p d ≡ true → Every p (ds ++ d ∷ [])
every_push p [] d all h = (h, tt)
every_push p (x ∷ ds) d all h = (all.0, every_push p ds d all.1 h)

decimal_push : (m : ℕ) (ds : List ℕ) (d : ℕ) → decimal_from m (ds ++ d ∷ []) ≡ decimal_from m ds * 10 + (d - 48)
decimal_push m [] d = refl
decimal_push m (x ∷ ds) d = decimal_push (m * 10 + (x - 48)) ds d

digits_push : (ds : List ℕ) (d : ℕ) → IsDigits ds → is_ascii_digit d ≡ true → IsDigits (ds ++ d ∷ [])
digits_push ds d (is_digits {d = x} {ds = xs} first more) h = is_digits first (every_push is_ascii_digit xs d more h)

pub digit : (n : ℕ) → n < 10 → is_ascii_digit (48 + n) ≡ true
digit n lt = grind (arith, nat_tests)

one_digit : (n : ℕ) → n < 10 → IsText n ((48 + n) ∷ [])
one_digit n lt = record { digits = is_digits (digit n lt) tt; value = omega arith }

more_digits : (n : ℕ) (ds : List ℕ) → 10 ≤ n → IsText (n / 10) ds → IsText n (ds ++ ((48 + n % 10) ∷ []))
more_digits n ds le t =
    let small : n % 10 < 10 = omega arith in
    record {
      digits = digits_push ds (48 + n % 10) t.digits (digit (n % 10) small);
      value = decimal_push 0 ds (48 + n % 10) ∙ rw t.value (omega arith);
    }

pub number_text : (n : ℕ) → n < 2 ^ 64 → IsText n (decimal_text n)
number_text n lt = decimal_by_steps IsText one_digit more_digits n lt

-- a minus and the digits of a number make the negative number
pub below_zero : (n : ℕ) → pos 0 -ℤ pos (suc n) ≡ negsuc n
below_zero n = omega (arith, ints)

pub word_text : (k : Keyword) → IsWord (keyword_text k) × (length (keyword_text k) ≤ max_name)
word_text words.For = (is_word refl (refl, (refl, tt)), omega arith)
word_text words.In = (is_word refl (refl, tt), omega arith)
word_text words.Where = (is_word refl (refl, (refl, (refl, (refl, tt)))), omega arith)
word_text words.Return = (is_word refl (refl, (refl, (refl, (refl, (refl, tt))))), omega arith)
word_text words.Encode = (is_word refl (refl, (refl, (refl, (refl, (refl, tt))))), omega arith)
word_text words.Csv = (is_word refl (refl, (refl, tt)), omega arith)
word_text words.Coverage = (is_word refl (refl, (refl, (refl, (refl, (refl, (refl, (refl, tt))))))), omega arith)
word_text words.Over = (is_word refl (refl, (refl, (refl, tt))), omega arith)
word_text words.Values = (is_word refl (refl, (refl, (refl, (refl, (refl, tt))))), omega arith)
word_text words.Value = (is_word refl (refl, (refl, (refl, (refl, tt)))), omega arith)
word_text words.List = (is_word refl (refl, (refl, (refl, tt))), omega arith)
word_text words.Condense = (is_word refl (refl, (refl, (refl, (refl, (refl, (refl, (refl, tt))))))), omega arith)
word_text words.Using = (is_word refl (refl, (refl, (refl, (refl, tt)))), omega arith)
word_text words.And = (is_word refl (refl, (refl, tt)), omega arith)
word_text words.Or = (is_word refl (refl, tt), omega arith)
word_text words.Xor = (is_word refl (refl, (refl, tt)), omega arith)
word_text words.Not = (is_word refl (refl, (refl, tt)), omega arith)
word_text words.Abs = (is_word refl (refl, (refl, tt)), omega arith)
word_text words.Bit = (is_word refl (refl, (refl, tt)), omega arith)
word_text words.True = (is_word refl (refl, (refl, (refl, tt))), omega arith)
word_text words.False = (is_word refl (refl, (refl, (refl, (refl, tt)))), omega arith)
word_text words.Count = (is_word refl (refl, (refl, (refl, (refl, tt)))), omega arith)
word_text words.Some = (is_word refl (refl, (refl, (refl, tt))), omega arith)
word_text words.All = (is_word refl (refl, (refl, tt)), omega arith)
word_text words.Add = (is_word refl (refl, (refl, tt)), omega arith)
word_text words.Avg = (is_word refl (refl, (refl, tt)), omega arith)
word_text words.Min = (is_word refl (refl, (refl, tt)), omega arith)
word_text words.Max = (is_word refl (refl, (refl, tt)), omega arith)
word_text words.ImageCrsDomain = (is_word refl (refl, (refl, (refl, (refl, (refl, (refl, (refl, (refl, (refl, (refl, (refl, (refl, (refl, tt))))))))))))), omega arith)

pub sign_text : (s : Symbol) → Reads (symbol_text s) (Ok (sign s))
sign_text signs.LeftParen = one_byte refl
sign_text signs.RightParen = one_byte refl
sign_text signs.LeftBracket = one_byte refl
sign_text signs.RightBracket = one_byte refl
sign_text signs.LeftBrace = one_byte refl
sign_text signs.RightBrace = one_byte refl
sign_text signs.Comma = one_byte refl
sign_text signs.Semicolon = one_byte refl
sign_text signs.Colon = one_byte refl
sign_text signs.Dot = one_byte refl
sign_text signs.Less = one_byte refl
sign_text signs.LessEqual = two_bytes refl
sign_text signs.Greater = one_byte refl
sign_text signs.GreaterEqual = two_bytes refl
sign_text signs.Equal = one_byte refl
sign_text signs.NotEqual = two_bytes refl
sign_text signs.Plus = one_byte refl
sign_text signs.Minus = one_byte refl
sign_text signs.Star = one_byte refl
sign_text signs.Slash = one_byte refl
