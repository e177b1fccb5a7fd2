-- The text of tokens, with a space behind each, is cut into just these tokens.
use Rattle.std.proofs.Common.{◌≡◌, ◌≢◌, ◌==◌, ℕ, ◌+◌, ◌<◌, ◌≤◌, Bool, true, not, List, [], ◌∷◌, ◌++◌, length, get_or, ⊎_elim, Some, Result, Ok, decimal as decimal_text, refl, sym, ap, ◌∙◌, arith, subst}
use Rattle.std.proofs.lemmas.Bool.{false≢true}
use Rattle.std.proofs.lemmas.Bool.Decides.{nat_tests, eqb_tells}
use Rattle.std.proofs.lemmas.Option.{none-some}
use Rattle.std.specs.Char.{is_ascii_digit}
use Rattle.wcps_text.specs.declared.token.Symbol.{Symbol}
use Rattle.wcps_text.specs.declared.error.LexError.{LexError}
use Rattle.wcps_text.specs.Token.{Tok, number, name, dollar, quoted, word, sign}
use Rattle.wcps_text.specs.Lexing.{begins_name, continues_name, Every, single, double, IsWord, is_word, IsDigits, is_digits, Reads, numeral, large_numeral, plain, reserved, long_plain, marked, long_marked, text_between, one_byte, two_bytes, IsLongest, Piece, Lexed, at_end, past_space, past_token, tokens_of}
use Rattle.wcps_text.proofs.Fronts.{ahead, behind, digit_low, letter_low}
use Rattle.wcps_text.proofs.Lexemes.{Written, number_text, word_text, sign_text}
use Rattle.wcps_print.specs.Printing.{bytes_of, text_of}
use Rattle.wcps_print.proofs.Proper.{Each}

-- each token reads as itself
reads_again : (t : Tok) → Written t → Reads (bytes_of t) (Ok t)
reads_again (number n) small =
    let t = number_text n (omega arith) in
    subst (λ (m : ℕ). Reads (decimal_text n) (Ok (number m))) t.value (numeral t.digits (rw t.value small))
reads_again (name x) h = h
reads_again (dollar x) h = h
reads_again (quoted x) h = absurd h
reads_again (word k) h = let t = word_text k in reserved t.0 t.1 refl
reads_again (sign s) h = sign_text s

-- no space
abbrev dense : ℕ → Bool
dense b = not (b == 32)

digit_dense : (b : ℕ) → is_ascii_digit b ≡ true → dense b ≡ true
digit_dense b h = grind (arith, nat_tests)

letter_dense : (b : ℕ) → begins_name b ≡ true → dense b ≡ true
letter_dense b h = grind (arith, nat_tests)

continued_dense : (b : ℕ) → continues_name b ≡ true → dense b ≡ true
continued_dense b h = grind (arith, nat_tests)

every_dense : (p : ℕ → Bool) (bs : List ℕ) → ((b : ℕ) → p b ≡ true → dense b ≡ true) → Every p bs → Every dense bs
every_dense p [] f all = tt
every_dense p (b ∷ bs) f all = (f b all.0, every_dense p bs f all.1)

single_dense : (b : ℕ) (s : Symbol) → single b ≡ Some s → dense b ≡ true
single_dense b s e =
    ⊎_elim (λ same. absurd (none-some s (subst (λ (c : ℕ). single c ≡ Some s) same.1 e))) (λ other. rw other.0 refl) (eqb_tells b 32)

double_dense : (b : ℕ) (s : Symbol) → double b ≡ Some s → dense b ≡ true
double_dense b s e =
    ⊎_elim (λ same. absurd (none-some s (subst (λ (c : ℕ). double c ≡ Some s) same.1 e))) (λ other. rw other.0 refl) (eqb_tells b 32)

name_dense : {w : List ℕ} → IsWord w → Every dense w
name_dense (is_word {c} {cs} begin more) = (letter_dense c begin, every_dense continues_name cs continued_dense more)

digits_dense : {w : List ℕ} → IsDigits w → Every dense w
digits_dense (is_digits {d} {ds} begin more) = (digit_dense d begin, every_dense is_ascii_digit ds digit_dense more)

-- only in strings are there spaces
unspaced : {v : List ℕ} {q : Result Tok LexError} → Reads v q → get_or v 0 0 ≢ 34 → Every dense v
unspaced (numeral is small) h = digits_dense is
unspaced (large_numeral is large) h = digits_dense is
unspaced (plain is short free) h = name_dense is
unspaced (reserved is short same) h = name_dense is
unspaced (long_plain is long) h = name_dense is
unspaced (marked is short) h = (refl, name_dense is)
unspaced (long_marked is long) h = (refl, name_dense is)
unspaced (text_between cs all same) h = absurd (h (ap (λ (w : List ℕ). get_or w 0 0) same))
unspaced (one_byte {b} {s} alone) h = (single_dense b s alone, tt)
unspaced (two_bytes {b} {s} both) h = (double_dense b s both, (refl, tt))

-- a token that is no string has a first byte, and that is no quote
record Begins (w : List ℕ) : Type 0 where
  some : 0 < length w
  unquoted : get_or w 0 0 ≢ 34

name_begins : {w : List ℕ} → IsWord w → Begins w
name_begins (is_word {c} {cs} begin more) = record { some = omega arith; unquoted = λ same. absurd (omega (arith, letter_low c begin)) }

digits_begin : {w : List ℕ} → IsDigits w → Begins w
digits_begin (is_digits {d} {ds} begin more) = record { some = omega arith; unquoted = λ same. absurd (omega (arith, digit_low d begin)) }

begins : {w : List ℕ} {t : Tok} → Reads w (Ok t) → Written t → Begins w
begins (numeral is small) h = digits_begin is
begins (plain is short free) h = name_begins is
begins (reserved is short same) h = name_begins is
begins (marked is short) h = record { some = omega arith; unquoted = λ same. absurd (omega arith) }
begins (text_between cs all same) h = absurd h
begins (one_byte {b} {s} alone) h = record { some = omega arith; unquoted = λ same. absurd (none-some s (subst (λ (c : ℕ). single c ≡ Some s) same alone)) }
begins (two_bytes {b} {s} both) h = record { some = omega arith; unquoted = λ same. absurd (none-some s (subst (λ (c : ℕ). double c ≡ Some s) same both)) }

no_space : (x : ℕ) → 32 ≡ x → dense x ≡ true → ⊥
no_space x same h = false≢true (subst (λ (b : ℕ). dense b ≡ true) (sym same) h)

before_space : (w r v us : List ℕ) → Every dense v → w ++ 32 ∷ r ≡ v ++ us → length v ≤ length w
before_space w r [] us all e = omega arith
before_space [] r (x ∷ v) us all e = absurd (no_space x (ahead e) all.0)
before_space (b ∷ w) r (x ∷ v) us all e = omega (arith, before_space w r v us all.1 (behind e))

same_first : (w r v us : List ℕ) → Begins w → w ++ 32 ∷ r ≡ v ++ us → get_or v 0 0 ≢ 34
same_first [] r v us h e = absurd (omega (arith, h.some))
same_first (b ∷ w) r [] us h e = λ same. absurd (omega arith)
same_first (b ∷ w) r (x ∷ v) us h e = λ same. h.unquoted (ahead e ∙ same)

longest_here : (w r : List ℕ) (t : Tok) → Reads w (Ok t) → Written t → IsLongest w (Ok t) (32 ∷ r) (w ++ 32 ∷ r)
longest_here w r t reads h = record {
  cut = refl;
  reads = reads;
  longest = λ v us q form same. before_space w r v us (unspaced form (same_first w r v us (begins reads h) same)) same;
}

-- the text of tokens has these tokens
pub record Cut (at : ℕ) (ts : List Tok) : Type 0 where
  pub pieces : List Piece
  pub lexed : Lexed at (text_of ts) pieces
  pub same : tokens_of pieces ≡ ts

pub cut : (ts : List Tok) (at : ℕ) → Each Written ts → Cut at ts
unfolding text_of
cut [] at h = record { pieces = []; lexed = at_end; same = refl }
cut (t ∷ ts) at h =
    let w = bytes_of t in
    let more = cut ts (at + length w + 1) h.1 in
    record {
      pieces = record { start = at; bytes = w; is = t } ∷ more.pieces;
      lexed = past_token (longest_here w (text_of ts) t (reads_again t h.0) h.0) (past_space refl more.lexed);
      same = ap (λ (us : List Tok). t ∷ us) more.same;
    }
