-- Texts as tokens and the spaces between them.
use Rattle.std.proofs.Common.{◌≡◌, ◌==◌, ℕ, ◌+◌, ◌≤◌, Bool, true, false, ◌&&◌, List, [], ◌∷◌, ◌++◌, length, drop, None, Result, Ok, decimal as decimal_text, refl, sym, ap, ◌∙◌, arith, subst, append_assoc}
use Rattle.std.proofs.lemmas.Bool.Decides.{nat_tests}
use Rattle.std.specs.Char.{is_ascii_digit}
use Rattle.wcps_text.specs.declared.token.Symbol.{Symbol}
use Rattle.wcps_text.specs.declared.token.Symbol.TheVariants as signs
use Rattle.wcps_text.specs.declared.error.LexError.{LexError}
use Rattle.wcps_text.specs.Runs.{Stops}
use Rattle.wcps_text.specs.Token.{Tok, number, name, dollar, quoted, word, sign}
use Rattle.arr_core.specs.Keywords.{keyword_text}
use Rattle.wcps_text.specs.Lexing.{begins_name, continues_name, symbol_text, double, IsWord, is_word, IsDigits, is_digits, Reads, numeral, plain, reserved, marked, IsLongest, Piece, Lexed, at_end, past_space, past_token, tokens_of}
use Rattle.wcps_text.specs.Fronts.{IsOther}
use Rattle.wcps_text.proofs.Fronts.{fits, digit_most, letter_most, dollar_most, other_most, none_equal, true_false}
use Rattle.wcps_text.proofs.Lexemes.{Written, number_text, word_text, sign_text}

-- a space, or a token
pub data Mark : Type 0 where
  gap : Mark
  tk : Tok → Mark

-- the bytes of a token
abbrev pub bytes_of : Tok → List ℕ
bytes_of (number n) = decimal_text n
bytes_of (name x) = x
bytes_of (dollar x) = x
bytes_of (quoted x) = x
bytes_of (word k) = keyword_text k
bytes_of (sign s) = symbol_text s

-- the text
abbrev pub text_of : List Mark → List ℕ
text_of [] = []
text_of (gap ∷ ms) = 32 ∷ text_of ms
text_of (tk t ∷ ms) = bytes_of t ++ text_of ms

-- the tokens
abbrev pub toks_of : List Mark → List Tok
toks_of [] = []
toks_of (gap ∷ ms) = toks_of ms
toks_of (tk t ∷ ms) = t ∷ toks_of ms

abbrev pub is_equals : ℕ → Bool
is_equals b = b == 61

-- no byte behind it belongs to it
abbrev pub Ends : Tok → List ℕ → Type 0
Ends (number n) rest = Stops continues_name rest
Ends (name x) rest = Stops continues_name rest
Ends (dollar x) rest = Stops continues_name rest
Ends (quoted w) rest = ⊥
Ends (word k) rest = Stops continues_name rest
Ends (sign signs.Less) rest = Stops is_equals rest
Ends (sign signs.Greater) rest = Stops is_equals rest
Ends (sign _) rest = Unit {0}

-- each token is written and ends
abbrev pub Cleared : List Mark → Type 0
Cleared [] = Unit {0}
Cleared (gap ∷ ms) = Cleared ms
Cleared (tk t ∷ ms) = Written t × Ends t (text_of ms) × Cleared ms

-- ---- the longest token

-- what is at most as long as a token at the front of a text
abbrev Bound : List ℕ → List ℕ → Type 0
Bound w rest = (v us : List ℕ) (q : Result Tok LexError) → Reads v q → w ++ rest ≡ v ++ us → length v ≤ length w

longest : (w rest : List ℕ) (r : Result Tok LexError) → Reads w r → Bound w rest → IsLongest w r rest (w ++ rest)
longest w rest r reads bound = record { cut = refl; reads = reads; longest = bound }

drop_front : (xs ys : List ℕ) → drop (length xs) (xs ++ ys) ≡ ys
drop_front [] ys = refl
drop_front (x ∷ xs) ys = drop_front xs ys

stops_front : (p : ℕ → Bool) (xs ys : List ℕ) → Stops p ys → Stops p (drop (length xs) (xs ++ ys))
stops_front p xs ys h = subst (λ (t : List ℕ). Stops p t) (sym (drop_front xs ys)) h

name_bound : (w rest : List ℕ) → IsWord w → Stops continues_name rest → Bound w rest
name_bound w rest (is_word {c} {cs} begin more) h = λ v us q form same. fits (letter_most c (length cs) (cs ++ rest) begin (stops_front continues_name cs rest h)) v us q form same

digit_goes_on : (b : ℕ) → continues_name b ≡ false → is_ascii_digit b ≡ false
digit_goes_on b h = grind (arith, nat_tests)

digits_stop : (rest : List ℕ) → Stops continues_name rest → Stops is_ascii_digit rest
digits_stop [] h = tt
digits_stop (b ∷ rest) h = digit_goes_on b h

digits_bound : (w rest : List ℕ) → IsDigits w → Stops continues_name rest → Bound w rest
digits_bound w rest (is_digits {d} {ds} begin more) h = λ v us q form same. fits (digit_most d (length ds) (ds ++ rest) begin (stops_front is_ascii_digit ds rest (digits_stop rest h))) v us q form same

dollar_bound : (w rest : List ℕ) → Stops continues_name rest → Bound (36 ∷ w) rest
dollar_bound w rest h = λ v us q form same. fits (dollar_most (length w) (w ++ rest) (stops_front continues_name w rest h)) v us q form same

dollar_longest : (w x rest : List ℕ) → Reads w (Ok (dollar x)) → Stops continues_name rest → Bound w rest
dollar_longest _ _ rest (marked {w} is short) h = dollar_bound w rest h

name_longest : (w x rest : List ℕ) → Reads w (Ok (name x)) → Stops continues_name rest → Bound w rest
name_longest w _ rest (plain is short free) h = name_bound w rest is h

not_equals : (rest us : List ℕ) → Stops is_equals rest → rest ≡ 61 ∷ us → ⊥
not_equals rest us h e = true_false refl (subst (λ (t : List ℕ). Stops is_equals t) e h)

-- a symbol that is never the front of a longer one
alone_bound : (b : ℕ) (rest : List ℕ) → IsOther b → double b ≡ None → Bound (b ∷ []) rest
alone_bound b rest is none = λ v us q form same. fits (other_most b 1 rest is (λ _ _. omega arith) (λ s vs both _. absurd (none_equal none both))) v us q form same

-- `<` or `>` alone
narrow_bound : (b : ℕ) (rest : List ℕ) → IsOther b → Stops is_equals rest → Bound (b ∷ []) rest
narrow_bound b rest is h = λ v us q form same. fits (other_most b 1 rest is (λ _ _. omega arith) (λ s vs _ e. absurd (not_equals rest vs h e))) v us q form same

wide_bound : (b : ℕ) (rest : List ℕ) → IsOther b → Bound (b ∷ 61 ∷ []) rest
wide_bound b rest is = λ v us q form same. fits (other_most b 2 (61 ∷ rest) is (λ _ _. omega arith) (λ s vs _ e. omega arith)) v us q form same

byte_sign : (b : ℕ) → is_ascii_digit b ≡ false → begins_name b ≡ false → (b == 36) ≡ false → (b == 34) ≡ false → IsOther b
byte_sign b hd hl hs hq = record {
  no_digit = hd;
  no_letter = hl;
  no_dollar = λ e. absurd (true_false refl (subst (λ (x : ℕ). (x == 36) ≡ false) e hs));
  no_quote = λ e. absurd (true_false refl (subst (λ (x : ℕ). (x == 34) ≡ false) e hq));
}

sign_bound : (s : Symbol) (rest : List ℕ) → Ends (sign s) rest → Bound (symbol_text s) rest
sign_bound signs.LeftParen rest h = alone_bound 40 rest (byte_sign 40 refl refl refl refl) refl
sign_bound signs.RightParen rest h = alone_bound 41 rest (byte_sign 41 refl refl refl refl) refl
sign_bound signs.LeftBracket rest h = alone_bound 91 rest (byte_sign 91 refl refl refl refl) refl
sign_bound signs.RightBracket rest h = alone_bound 93 rest (byte_sign 93 refl refl refl refl) refl
sign_bound signs.LeftBrace rest h = alone_bound 123 rest (byte_sign 123 refl refl refl refl) refl
sign_bound signs.RightBrace rest h = alone_bound 125 rest (byte_sign 125 refl refl refl refl) refl
sign_bound signs.Comma rest h = alone_bound 44 rest (byte_sign 44 refl refl refl refl) refl
sign_bound signs.Semicolon rest h = alone_bound 59 rest (byte_sign 59 refl refl refl refl) refl
sign_bound signs.Colon rest h = alone_bound 58 rest (byte_sign 58 refl refl refl refl) refl
sign_bound signs.Dot rest h = alone_bound 46 rest (byte_sign 46 refl refl refl refl) refl
sign_bound signs.Less rest h = narrow_bound 60 rest (byte_sign 60 refl refl refl refl) h
sign_bound signs.LessEqual rest h = wide_bound 60 rest (byte_sign 60 refl refl refl refl)
sign_bound signs.Greater rest h = narrow_bound 62 rest (byte_sign 62 refl refl refl refl) h
sign_bound signs.GreaterEqual rest h = wide_bound 62 rest (byte_sign 62 refl refl refl refl)
sign_bound signs.Equal rest h = alone_bound 61 rest (byte_sign 61 refl refl refl refl) refl
sign_bound signs.NotEqual rest h = wide_bound 33 rest (byte_sign 33 refl refl refl refl)
sign_bound signs.Plus rest h = alone_bound 43 rest (byte_sign 43 refl refl refl refl) refl
sign_bound signs.Minus rest h = alone_bound 45 rest (byte_sign 45 refl refl refl refl) refl
sign_bound signs.Star rest h = alone_bound 42 rest (byte_sign 42 refl refl refl refl) refl
sign_bound signs.Slash rest h = alone_bound 47 rest (byte_sign 47 refl refl refl refl) refl

front : (t : Tok) (rest : List ℕ) → Written t → Ends t rest → IsLongest (bytes_of t) (Ok t) rest (bytes_of t ++ rest)
front (number n) rest small h =
    let t = number_text n (omega arith) in
    longest (decimal_text n) rest (Ok (number n)) (subst (λ (m : ℕ). Reads (decimal_text n) (Ok (number m))) t.value (numeral t.digits (rw t.value small))) (digits_bound (decimal_text n) rest t.digits h)
front (name x) rest reads h = longest x rest (Ok (name x)) reads (name_longest x x rest reads h)
front (dollar x) rest reads h = longest x rest (Ok (dollar x)) reads (dollar_longest x x rest reads h)
front (quoted x) rest none h = absurd none
front (word k) rest none h = let t = word_text k in longest (keyword_text k) rest (Ok (word k)) (reserved t.0 t.1 refl) (name_bound (keyword_text k) rest t.0 h)
front (sign s) rest none h = longest (symbol_text s) rest (Ok (sign s)) (sign_text s) (sign_bound s rest h)

-- ---- whole texts

-- the text has these tokens
pub record Cut (at : ℕ) (ms : List Mark) : Type 0 where
  pub pieces : List Piece
  pub lexed : Lexed at (text_of ms) pieces
  pub same : tokens_of pieces ≡ toks_of ms

pub cut : (ms : List Mark) (at : ℕ) → Cleared ms → Cut at ms
cut [] at h = record { pieces = []; lexed = at_end; same = refl }
cut (gap ∷ ms) at h =
    let more = cut ms (at + 1) h in
    record { pieces = more.pieces; lexed = past_space refl more.lexed; same = more.same }
cut (tk t ∷ ms) at h =
    let w = bytes_of t in
    let more = cut ms (at + length w) h.2 in
    record {
      pieces = record { start = at; bytes = w; is = t } ∷ more.pieces;
      lexed = past_token (front t (text_of ms) h.0 h.1) more.lexed;
      same = ap (λ (us : List Tok). t ∷ us) more.same;
    }

-- ---- marks whose tokens end by what follows them

-- a space or a symbol stands at the front, or nothing
abbrev pub breaks : List Mark → Bool
breaks [] = true
breaks (gap ∷ ms) = true
breaks (tk (sign s) ∷ ms) = true
breaks _ = false

abbrev pub gapped : List Mark → Bool
gapped (gap ∷ ms) = true
gapped _ = false

-- what stands behind the token ends it
abbrev pub ended : Tok → List Mark → Bool
ended (sign signs.Less) ms = gapped ms
ended (sign signs.Greater) ms = gapped ms
ended (sign _) ms = true
ended (quoted x) ms = false
ended _ ms = breaks ms

abbrev pub spaced : List Mark → Bool
spaced [] = true
spaced (gap ∷ ms) = spaced ms
spaced (tk t ∷ ms) = ended t ms && spaced ms

-- the names and the numbers read as such
abbrev pub Proper : List Mark → Type 0
Proper [] = Unit {0}
Proper (gap ∷ ms) = Proper ms
Proper (tk (word k) ∷ ms) = Proper ms
Proper (tk (sign s) ∷ ms) = Proper ms
Proper (tk t ∷ ms) = Written t × Proper ms

sign_stops : (s : Symbol) (rest : List ℕ) → Stops continues_name (symbol_text s ++ rest)
sign_stops signs.LeftParen rest = refl
sign_stops signs.RightParen rest = refl
sign_stops signs.LeftBracket rest = refl
sign_stops signs.RightBracket rest = refl
sign_stops signs.LeftBrace rest = refl
sign_stops signs.RightBrace rest = refl
sign_stops signs.Comma rest = refl
sign_stops signs.Semicolon rest = refl
sign_stops signs.Colon rest = refl
sign_stops signs.Dot rest = refl
sign_stops signs.Less rest = refl
sign_stops signs.LessEqual rest = refl
sign_stops signs.Greater rest = refl
sign_stops signs.GreaterEqual rest = refl
sign_stops signs.Equal rest = refl
sign_stops signs.NotEqual rest = refl
sign_stops signs.Plus rest = refl
sign_stops signs.Minus rest = refl
sign_stops signs.Star rest = refl
sign_stops signs.Slash rest = refl

break_stops : (ms : List Mark) → breaks ms ≡ true → Stops continues_name (text_of ms)
break_stops [] h = tt
break_stops (gap ∷ ms) h = refl
break_stops (tk (sign s) ∷ ms) h = sign_stops s (text_of ms)
break_stops (tk (number n) ∷ ms) h = absurd (true_false h refl)
break_stops (tk (name n) ∷ ms) h = absurd (true_false h refl)
break_stops (tk (dollar n) ∷ ms) h = absurd (true_false h refl)
break_stops (tk (quoted n) ∷ ms) h = absurd (true_false h refl)
break_stops (tk (word n) ∷ ms) h = absurd (true_false h refl)

gap_stops : (ms : List Mark) → gapped ms ≡ true → Stops is_equals (text_of ms)
gap_stops [] h = tt
gap_stops (gap ∷ ms) h = refl
gap_stops (tk t ∷ ms) h = absurd (true_false h refl)

ends_sign : (s : Symbol) (ms : List Mark) → ended (sign s) ms ≡ true → Ends (sign s) (text_of ms)
ends_sign signs.LeftParen ms h = tt
ends_sign signs.RightParen ms h = tt
ends_sign signs.LeftBracket ms h = tt
ends_sign signs.RightBracket ms h = tt
ends_sign signs.LeftBrace ms h = tt
ends_sign signs.RightBrace ms h = tt
ends_sign signs.Comma ms h = tt
ends_sign signs.Semicolon ms h = tt
ends_sign signs.Colon ms h = tt
ends_sign signs.Dot ms h = tt
ends_sign signs.Less ms h = gap_stops ms h
ends_sign signs.LessEqual ms h = tt
ends_sign signs.Greater ms h = gap_stops ms h
ends_sign signs.GreaterEqual ms h = tt
ends_sign signs.Equal ms h = tt
ends_sign signs.NotEqual ms h = tt
ends_sign signs.Plus ms h = tt
ends_sign signs.Minus ms h = tt
ends_sign signs.Star ms h = tt
ends_sign signs.Slash ms h = tt

both : (a b : Bool) → (a && b) ≡ true → (a ≡ true) × (b ≡ true)
both true b h = (refl, h)
both false b h = absurd (true_false h refl)

pub clear : (ms : List Mark) → spaced ms ≡ true → Proper ms → Cleared ms
clear [] h p = tt
clear (gap ∷ ms) h p = clear ms h p
clear (tk (number n) ∷ ms) h p = let e = both (breaks ms) (spaced ms) h in (p.0, break_stops ms e.0, clear ms e.1 p.1)
clear (tk (name n) ∷ ms) h p = let e = both (breaks ms) (spaced ms) h in (p.0, break_stops ms e.0, clear ms e.1 p.1)
clear (tk (dollar n) ∷ ms) h p = let e = both (breaks ms) (spaced ms) h in (p.0, break_stops ms e.0, clear ms e.1 p.1)
clear (tk (quoted n) ∷ ms) h p = absurd p.0
clear (tk (word k) ∷ ms) h p = let e = both (breaks ms) (spaced ms) h in (tt, break_stops ms e.0, clear ms e.1 p)
clear (tk (sign s) ∷ ms) h p = let e = both (ended (sign s) ms) (spaced ms) h in (tt, ends_sign s ms e.0, clear ms e.1 p)

-- ---- texts that are put together

-- the bytes are those of the marks before the rest
pub record Puts (bs : List ℕ) (A : List Mark → List Mark) : Type 0 where
  pub puts : (rest : List Mark) → bs ++ text_of rest ≡ text_of (A rest)

infixl 10 ◌>>>◌
pub ◌>>>◌ : {a b : List ℕ} {A B : List Mark → List Mark} → Puts a A → Puts b B → Puts (a ++ b) (λ rest. A (B rest))
◌>>>◌ {a} {b} {A} {B} h k = record { puts = λ rest. append_assoc a b (text_of rest) ∙ ap (λ (z : List ℕ). a ++ z) (k.puts rest) ∙ h.puts (B rest) }

-- the same text, put together otherwise
pub ungrouped : (a b c : List ℕ) {A : List Mark → List Mark} → Puts (a ++ (b ++ c)) A → Puts ((a ++ b) ++ c) A
ungrouped a b c {A} h = subst (λ (bs : List ℕ). Puts bs A) (sym (append_assoc a b c)) h
