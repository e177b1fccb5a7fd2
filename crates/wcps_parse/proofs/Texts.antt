-- A text has at most one list of tokens or one first refusal, and not both.
use Rattle.std.proofs.Common.{◌≡◌, ◌==◌, ℕ, zero, suc, ◌+◌, ◌<◌, ◌≤◌, true, false, cond, IsTrue, List, [], ◌∷◌, ◌++◌, length, map, take, Option, Some, None, Result, Ok, Err, refl, sym, ap, ◌∙◌, arith, subst}
use Rattle.std.specs.Prelude.{nat_le}
use Rattle.std.specs.Char.{to_ascii_lowercase, is_ascii_digit}
use Rattle.std.proofs.lemmas.Bool.Decides.{nat_tests}
use Rattle.std.proofs.lemmas.List.{take_at}
use Rattle.wcps_text.specs.declared.token.Symbol.{Symbol}
use Rattle.arr_core.specs.declared.keyword.Keyword.{Keyword}
use Rattle.wcps_text.specs.declared.error.LexError.{LexError}
use Rattle.wcps_text.specs.declared.error.LexError.TheVariants as errors
use Rattle.wcps_text.specs.Token.{Tok, number, name, dollar, quoted, word, sign}
use Rattle.arr_core.specs.Limits.{max_name}
use Rattle.wcps_text.specs.Number.{max_number}
use Rattle.arr_core.specs.Keywords.{all_keywords}
use Rattle.arr_core.proofs.Keywords.{keyword_in, found-written, none-found}
use Rattle.wcps_text.specs.Lexing.{is_space, begins_name, decimal, single, double, is_word, is_digits, Reads, numeral, large_numeral, plain, reserved, long_plain, marked, long_marked, text_between, one_byte, two_bytes, IsLongest, Piece, Lexed, at_end, past_space, past_token, Refused, behind_space, behind_token, no_token, no_form}
use Rattle.wcps_text.proofs.Fronts.{ahead, behind, true_false}

-- ---- what bytes of the form of a token are

-- the kind that begins with a byte: a number, a name, a name with `$`, a string, a symbol
abbrev kind_at : ℕ → ℕ
kind_at b = cond (is_ascii_digit b) 0 (cond (begins_name b) 1 (cond (b == 36) 2 (cond (b == 34) 3 4)))

digit-kind : (b : ℕ) → is_ascii_digit b ≡ true → kind_at b ≡ 0
digit-kind b h = grind (arith, nat_tests)

letter-kind : (b : ℕ) → begins_name b ≡ true → kind_at b ≡ 1
letter-kind b h = grind (arith, nat_tests)

single-kind : (b : ℕ) (s : Symbol) → single b ≡ Some s → kind_at b ≡ 4
single-kind b s h = grind (arith, nat_tests)

double-kind : (b : ℕ) (s : Symbol) → double b ≡ Some s → kind_at b ≡ 4
double-kind b s h = grind (arith, nat_tests)

digit-dense : (b : ℕ) → is_ascii_digit b ≡ true → is_space b ≡ false
digit-dense b h = grind (arith, nat_tests)

letter-dense : (b : ℕ) → begins_name b ≡ true → is_space b ≡ false
letter-dense b h = grind (arith, nat_tests)

single-dense : (b : ℕ) (s : Symbol) → single b ≡ Some s → is_space b ≡ false
single-dense b s h = grind (arith, nat_tests)

double-dense : (b : ℕ) (s : Symbol) → double b ≡ Some s → is_space b ≡ false
double-dense b s h = grind (arith, nat_tests)

at-most : {A : Type 0} (n m : ℕ) (a b : A) → n ≤ m → cond (nat_le n m) a b ≡ a
at-most n m a b h = grind (arith, nat_tests)

above : {A : Type 0} (n m : ℕ) (a b : A) → m < n → cond (nat_le n m) a b ≡ b
above n m a b h = grind (arith, nat_tests)

abbrev named : List ℕ → Option Keyword → Result Tok LexError
named w None = Ok (name w)
named w (Some k) = Ok (word k)

abbrev symbol_of : Option Symbol → Result Tok LexError
symbol_of None = Err errors.BadToken
symbol_of (Some s) = Ok (sign s)

abbrev symbol_at : List ℕ → Result Tok LexError
symbol_at [] = Err errors.BadToken
symbol_at (b ∷ []) = symbol_of (single b)
symbol_at (b ∷ c ∷ cs) = symbol_of (double b)

-- what bytes of a kind are
abbrev meant : ℕ → List ℕ → Result Tok LexError
meant zero w = cond (nat_le (decimal w) max_number) (Ok (number (decimal w))) (Err errors.NumberTooLarge)
meant (suc zero) w = cond (nat_le (length w) max_name) (named w (keyword_in all_keywords (map to_ascii_lowercase w))) (Err errors.BadToken)
meant (suc (suc zero)) w = cond (nat_le (length w) max_name) (Ok (dollar w)) (Err errors.BadToken)
meant (suc (suc (suc zero))) w = Ok (quoted w)
meant (suc (suc (suc (suc k)))) w = symbol_at w

abbrev kind_of : List ℕ → ℕ
kind_of [] = 4
kind_of (b ∷ bs) = kind_at b

meant-as : (w : List ℕ) (k : ℕ) (r : Result Tok LexError) → kind_of w ≡ k → meant k w ≡ r → r ≡ meant (kind_of w) w
meant-as w k r e h = sym h ∙ ap (λ n. meant n w) (sym e)

reads-meant : (w : List ℕ) (r : Result Tok LexError) → Reads w r → r ≡ meant (kind_of w) w
reads-meant w r (numeral (is_digits {d} {ds} begin more) small) =
    meant-as (d ∷ ds) 0 _ (digit-kind d begin) (at-most (decimal (d ∷ ds)) max_number _ _ small)
reads-meant w r (large_numeral (is_digits {d} {ds} begin more) large) =
    meant-as (d ∷ ds) 0 _ (digit-kind d begin) (above (decimal (d ∷ ds)) max_number _ _ large)
reads-meant w r (plain (is_word {c} {cs} begin more) short free) =
    meant-as (c ∷ cs) 1 _ (letter-kind c begin) (at-most (length (c ∷ cs)) max_name _ _ short ∙ ap (named (c ∷ cs)) (none-found (c ∷ cs) free))
reads-meant w r (reserved {k} (is_word {c} {cs} begin more) short same) =
    meant-as (c ∷ cs) 1 _ (letter-kind c begin) (at-most (length (c ∷ cs)) max_name _ _ short ∙ ap (named (c ∷ cs)) (found-written k (c ∷ cs) same))
reads-meant w r (long_plain (is_word {c} {cs} begin more) long) =
    meant-as (c ∷ cs) 1 _ (letter-kind c begin) (above (length (c ∷ cs)) max_name _ _ long)
reads-meant w r (marked {w = v} is short) = meant-as (36 ∷ v) 2 _ refl (at-most (length (36 ∷ v)) max_name _ _ (omega (arith, short)))
reads-meant w r (long_marked {w = v} is long) = meant-as (36 ∷ v) 2 _ refl (above (length (36 ∷ v)) max_name _ _ (omega (arith, long)))
reads-meant w r (text_between cs all same) = meant-as w 3 _ (ap kind_of same) refl
reads-meant w r (one_byte {b} {s} e) = meant-as (b ∷ []) 4 _ (single-kind b s e) (ap symbol_of e)
reads-meant w r (two_bytes {b} {s} e) = meant-as (b ∷ 61 ∷ []) 4 _ (double-kind b s e) (ap symbol_of e)

reads-once : (w : List ℕ) (r q : Result Tok LexError) → Reads w r → Reads w q → r ≡ q
reads-once w r q h k = reads-meant w r h ∙ sym (reads-meant w q k)

-- ---- where a token ends

-- it has a first byte, which is no space
record Front (w : List ℕ) : Type 0 where
  pub byte : ℕ
  pub more : List ℕ
  pub is : w ≡ byte ∷ more
  pub dense : is_space byte ≡ false

front-of : (w : List ℕ) (r : Result Tok LexError) → Reads w r → Front w
front-of w r (numeral (is_digits {d} {ds} begin more) small) = record { byte = d; more = ds; is = refl; dense = digit-dense d begin }
front-of w r (large_numeral (is_digits {d} {ds} begin more) large) = record { byte = d; more = ds; is = refl; dense = digit-dense d begin }
front-of w r (plain (is_word {c} {cs} begin more) short free) = record { byte = c; more = cs; is = refl; dense = letter-dense c begin }
front-of w r (reserved (is_word {c} {cs} begin more) short same) = record { byte = c; more = cs; is = refl; dense = letter-dense c begin }
front-of w r (long_plain (is_word {c} {cs} begin more) long) = record { byte = c; more = cs; is = refl; dense = letter-dense c begin }
front-of w r (marked {w = v} is short) = record { byte = 36; more = v; is = refl; dense = refl }
front-of w r (long_marked {w = v} is long) = record { byte = 36; more = v; is = refl; dense = refl }
front-of w r (text_between cs all same) = record { byte = 34; more = cs ++ 34 ∷ []; is = same; dense = refl }
front-of w r (one_byte {b} {s} e) = record { byte = b; more = []; is = refl; dense = single-dense b s e }
front-of w r (two_bytes {b} {s} e) = record { byte = b; more = 61 ∷ []; is = refl; dense = double-dense b s e }

-- no token stands at the end of a text
past-end : (w rest : List ℕ) (r : Result Tok LexError) → IsLongest w r rest [] → ⊥
past-end w rest r long = let f = front-of w r long.reads in empty f.byte (f.more ++ rest) (long.cut ∙ ap (λ v. v ++ rest) f.is)
  where
    empty : (b : ℕ) (bs : List ℕ) → [] ≡ b ∷ bs → ⊥
    empty b bs e = absurd (cc)

-- nor at a space
at-space : (c : ℕ) (text w rest : List ℕ) (r : Result Tok LexError) → IsTrue (is_space c) → IsLongest w r rest (c ∷ text) → ⊥
at-space c text w rest r blank long =
    let f = front-of w r long.reads in
    true_false blank (ap is_space (ahead (long.cut ∙ ap (λ v. v ++ rest) f.is)) ∙ f.dense)

record Same (w rest v us : List ℕ) (r q : Result Tok LexError) : Type 0 where
  pub bytes : w ≡ v
  pub rests : rest ≡ us
  pub token : r ≡ q

behind-all : (v xs ys : List ℕ) → v ++ xs ≡ v ++ ys → xs ≡ ys
behind-all [] xs ys e = e
behind-all (c ∷ v) xs ys e = behind-all v xs ys (behind e)

-- the token at the front of a text is one
longest-once : (w v rest us text : List ℕ) (r q : Result Tok LexError) → IsLongest w r rest text → IsLongest v q us text → Same w rest v us r q
longest-once w v rest us text r q l m =
    let len : length w ≡ length v = omega (arith, m.longest w rest r l.reads l.cut, l.longest v us q m.reads m.cut) in
    let e : w ++ rest ≡ v ++ us = sym l.cut ∙ m.cut in
    let bytes : w ≡ v = sym (take_at w rest (length v) len) ∙ ap (take (length v)) e ∙ take_at v us (length v) refl in
    record {
      bytes = bytes;
      rests = behind-all v rest us (ap (λ (x : List ℕ). x ++ rest) (sym bytes) ∙ e);
      token = reads-once v r q (subst (λ (x : List ℕ). Reads x r) bytes l.reads) m.reads;
    }

-- ---- whole texts

token-of : (t u : Tok) → ◌≡◌ {A = Result Tok LexError} (Ok t) (Ok u) → t ≡ u
token-of t u e = cc

error-of : (e f : LexError) → ◌≡◌ {A = Result Tok LexError} (Err e) (Err f) → e ≡ f
error-of e f h = cc

no-both : (t : Tok) (e : LexError) → ◌≡◌ {A = Result Tok LexError} (Ok t) (Err e) → ⊥
no-both t e h = absurd (cc)

pub lexed-once : (at : ℕ) (text : List ℕ) (ps qs : List Piece) → Lexed at text ps → Lexed at text qs → ps ≡ qs
lexed-once at text ps qs at_end at_end = refl
lexed-once at text ps qs at_end (past_token m k) = absurd (past-end _ _ _ m)
lexed-once at text ps qs (past_space b h) (past_space c k) = lexed-once _ _ ps qs h k
lexed-once at text ps qs (past_space b h) (past_token m k) = absurd (at-space _ _ _ _ _ b m)
lexed-once at text ps qs (past_token l h) at_end = absurd (past-end _ _ _ l)
lexed-once at text ps qs (past_token l h) (past_space c k) = absurd (at-space _ _ _ _ _ c l)
lexed-once at text ps qs (past_token {w} {rest} {t} {ps = more} l h) (past_token {w = v} {rest = us} {t = u} {ps = others} m k) =
    let s = longest-once w v rest us text (Ok t) (Ok u) l m in
    let after : Lexed (at + length w) rest others = subst (λ (x : List ℕ). Lexed (at + length w) x others) (sym s.rests) (subst (λ (x : List ℕ). Lexed (at + length x) us others) (sym s.bytes) k) in
    ap (λ (x : List ℕ). record { start = at; bytes = x; is = t } ∷ more) s.bytes
    ∙ ap (λ (x : Tok). record { start = at; bytes = v; is = x } ∷ more) (token-of t u s.token)
    ∙ ap (λ (x : List Piece). record { start = at; bytes = v; is = u } ∷ x) (lexed-once (at + length w) rest more others h after)

pub refused-once : (text : List ℕ) (e f : LexError) → Refused text e → Refused text f → e ≡ f
refused-once text e f (behind_space b h) (behind_space c k) = refused-once _ e f h k
refused-once text e f (behind_space b h) (behind_token m k) = absurd (at-space _ _ _ _ _ b m)
refused-once text e f (behind_space b h) (no_token m) = absurd (at-space _ _ _ _ _ b m)
refused-once text e f (behind_space b h) (no_form dense none) = absurd (dense b)
refused-once text e f (behind_token l h) (behind_space c k) = absurd (at-space _ _ _ _ _ c l)
refused-once text e f (behind_token {w} {rest} {t} l h) (behind_token {w = v} {rest = us} {t = u} m k) =
    let s = longest-once w v rest us text (Ok t) (Ok u) l m in
    refused-once rest e f h (subst (λ (x : List ℕ). Refused x f) (sym s.rests) k)
refused-once text e f (behind_token {w} {rest} {t} l h) (no_token {w = v} {rest = us} m) = absurd (no-both t f (longest-once w v rest us text (Ok t) (Err f) l m).token)
refused-once text e f (behind_token {w} {rest} {t} l h) (no_form dense none) = absurd (none w rest (Ok t) l.reads l.cut)
refused-once text e f (no_token l) (behind_space c k) = absurd (at-space _ _ _ _ _ c l)
refused-once text e f (no_token {w} {rest} l) (behind_token {w = v} {rest = us} {t = u} m k) = absurd (no-both u e (longest-once v w us rest text (Ok u) (Err e) m l).token)
refused-once text e f (no_token {w} {rest} l) (no_token {w = v} {rest = us} m) = error-of e f (longest-once w v rest us text (Err e) (Err f) l m).token
refused-once text e f (no_token {w} {rest} l) (no_form dense none) = absurd (none w rest (Err e) l.reads l.cut)
refused-once text e f (no_form dense none) (behind_space c k) = absurd (dense c)
refused-once text e f (no_form dense none) (behind_token {w = v} {rest = us} {t = u} m k) = absurd (none v us (Ok u) m.reads m.cut)
refused-once text e f (no_form dense none) (no_token {w = v} {rest = us} m) = absurd (none v us (Err f) m.reads m.cut)
refused-once text e f (no_form dense none) (no_form thick nothing) = refl

pub not-both : (at : ℕ) (text : List ℕ) (ps : List Piece) (e : LexError) → Lexed at text ps → Refused text e → ⊥
not-both at text ps e at_end (behind_token m k) = past-end _ _ _ m
not-both at text ps e at_end (no_token m) = past-end _ _ _ m
not-both at text ps e (past_space b h) (behind_space c k) = not-both _ _ ps e h k
not-both at text ps e (past_space b h) (behind_token m k) = at-space _ _ _ _ _ b m
not-both at text ps e (past_space b h) (no_token m) = at-space _ _ _ _ _ b m
not-both at text ps e (past_space b h) (no_form dense none) = dense b
not-both at text ps e (past_token l h) (behind_space c k) = at-space _ _ _ _ _ c l
not-both at text ps e (past_token {w} {rest} {t} {ps = more} l h) (behind_token {w = v} {rest = us} {t = u} m k) =
    not-both _ rest more e h (subst (λ (x : List ℕ). Refused x e) (sym (longest-once w v rest us text (Ok t) (Ok u) l m).rests) k)
not-both at text ps e (past_token {w} {rest} {t} {ps = more} l h) (no_token {w = v} {rest = us} m) = no-both t e (longest-once w v rest us text (Ok t) (Err e) l m).token
not-both at text ps e (past_token {w} {rest} {t} {ps = more} l h) (no_form dense none) = none w rest (Ok t) l.reads l.cut
