-- Tokens that a text can have, and the tokens of names.
use Rattle.std.proofs.Common.{◌≡◌, ℕ, ◌≤◌, List, [], ◌∷◌, get_or, Ok, refl, arith, ⊎_elim}
use Rattle.std.proofs.lemmas.Bool.Decides.{eqb_tells}
use Rattle.wcps_text.specs.Token.{Tok, number, name, dollar, quoted, word, sign}
use Rattle.wcps_text.specs.Lexing.{is_word, Reads, numeral, plain, reserved, marked, text_between, one_byte, two_bytes, Piece, Lexed, at_end, past_space, past_token, tokens_of}
use Rattle.wcps_text.specs.Number.{max_number}
use Rattle.wcps_text.proofs.Fronts.{letter_low}
use Rattle.wcps_print.specs.Printing.{name_token}

-- what some bytes of a text can be
abbrev pub Proper : Tok → Type 0
Proper (number n) = n ≤ max_number
Proper (name x) = Reads x (Ok (name x))
Proper (dollar x) = Reads x (Ok (dollar x))
Proper (quoted w) = Unit {0}
Proper (word k) = Unit {0}
Proper (sign s) = Unit {0}

abbrev pub Each : (Tok → Type 0) → List Tok → Type 0
Each P [] = Unit {0}
Each P (t ∷ ts) = P t × Each P ts

proper_read : {w : List ℕ} {t : Tok} → Reads w (Ok t) → Proper t
proper_read (numeral is small) = small
proper_read (plain is short free) = plain is short free
proper_read (reserved is short same) = tt
proper_read (marked is short) = marked is short
proper_read (text_between cs all same) = tt
proper_read (one_byte alone) = tt
proper_read (two_bytes both) = tt

pub proper_lexed : {at : ℕ} {text : List ℕ} {ps : List Piece} → Lexed at text ps → Each Proper (tokens_of ps)
proper_lexed at_end = tt
proper_lexed (past_space blank h) = proper_lexed h
proper_lexed (past_token longest h) = (proper_read longest.reads, proper_lexed h)

name_first : {w x : List ℕ} → Reads w (Ok (name x)) → get_or x 0 0 ≡ 36 → ⊥
name_first (plain (is_word {c} {cs} begin more) short free) e = omega (arith, letter_low c begin)

dollar_first : {w x : List ℕ} → Reads w (Ok (dollar x)) → get_or x 0 0 ≡ 36
dollar_first (marked is short) = refl

pub name_as_name : (x : List ℕ) → Reads x (Ok (name x)) → name_token x ≡ name x
unfolding name_token
name_as_name x h = ⊎_elim (λ same. absurd (name_first h same.1)) (λ other. rw other.0 refl) (eqb_tells (get_or x 0 0) 36)

pub dollar_as_dollar : (x : List ℕ) → Reads x (Ok (dollar x)) → name_token x ≡ dollar x
unfolding name_token
dollar_as_dollar x h = rw (dollar_first h) refl
