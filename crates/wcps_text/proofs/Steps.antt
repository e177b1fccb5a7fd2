-- Steps through a text: over spaces and over tokens.
use Rattle.std.proofs.Common.{◌≡◌, ℕ, zero, suc, ◌+◌, ◌-◌, ◌≤◌, List, [], ◌∷◌, ◌++◌, length, map, take, drop, Ok, sym, ap, ◌∙◌, arith, subst, append_assoc, append-nil}
use Rattle.std.proofs.lemmas.List.{take_rest, drop-drop, drop_all, length-drop, map-append}
use Rattle.wcps_text.specs.declared.error.LexError.{LexError}
use Rattle.wcps_text.specs.declared.token.Token.{Token}
use Rattle.wcps_text.specs.Token.{tok}
use Rattle.wcps_text.specs.Runs.{Stops}
use Rattle.wcps_text.specs.Lexing.{is_space, Every, IsLongest, Piece, piece, Lexed, at_end, past_space, past_token, Refused, behind_space}

spaces_lexed : (n at : ℕ) (text : List ℕ) (ps : List Piece) → n ≤ length text → Every is_space (take n text) → Lexed (at + n) (drop n text) ps → Lexed at text ps
spaces_lexed zero at text ps le all h = subst (λ (k : ℕ). Lexed k text ps) (zero_more at) h
  where
    zero_more : (at : ℕ) → at + zero ≡ at
    zero_more at = omega arith
spaces_lexed (suc n) at [] ps le all h = absurd (omega arith)
spaces_lexed (suc n) at (c ∷ text) ps le all h = past_space all.0 (spaces_lexed n (at + 1) text ps (omega arith) all.1 (subst (λ (k : ℕ). Lexed k (drop n text) ps) (one_more at n) h))
  where
    one_more : (at n : ℕ) → at + suc n ≡ at + 1 + n
    one_more at n = omega arith

spaces_refused : (n : ℕ) (text : List ℕ) (e : LexError) → n ≤ length text → Every is_space (take n text) → Refused (drop n text) e → Refused text e
spaces_refused zero text e le all h = h
spaces_refused (suc n) [] e le all h = absurd (omega arith)
spaces_refused (suc n) (c ∷ text) e le all h = behind_space all.0 (spaces_refused n text e (omega arith) all.1 h)

-- the first n bytes from a place on are spaces
pub record IsBlank (text : List ℕ) (at n : ℕ) : Type 0 where
  pub within : n ≤ length (drop at text)
  pub all : Every is_space (take n (drop at text))

pub blank_behind : (bytes text : List ℕ) (at n : ℕ) → bytes ≡ text → n ≤ length (take (length bytes - at) (drop at bytes)) → Every is_space (take n (take (length bytes - at) (drop at bytes))) → IsBlank text at n
blank_behind bytes text at n same within all =
    subst (λ (t : List ℕ). IsBlank t at n) same (record {
      within = subst (λ (t : List ℕ). n ≤ length t) (take_rest bytes at) within;
      all = subst (λ (t : List ℕ). Every is_space (take n t)) (take_rest bytes at) all;
    })

pub dense_behind : (bytes text : List ℕ) (at n : ℕ) → bytes ≡ text → Stops is_space (drop n (take (length bytes - at) (drop at bytes))) → Stops is_space (drop (at + n) text)
dense_behind bytes text at n same stops =
    subst (λ (t : List ℕ). Stops is_space (drop (at + n) t)) same (subst (λ (t : List ℕ). Stops is_space t) (drop-drop n at bytes) (subst (λ (t : List ℕ). Stops is_space (drop n t)) (take_rest bytes at) stops))

pub within_behind : (text : List ℕ) (at n : ℕ) → IsBlank text at n → at ≤ length text → at + n ≤ length text
within_behind text at n blank le = omega (arith, blank.within, length-drop at text)

pub blank_lexed : (text : List ℕ) (at n : ℕ) (ps : List Piece) → IsBlank text at n → Lexed (at + n) (drop (at + n) text) ps → Lexed at (drop at text) ps
blank_lexed text at n ps blank h = spaces_lexed n at (drop at text) ps blank.within blank.all (subst (λ (t : List ℕ). Lexed (at + n) t ps) (sym (drop-drop n at text)) h)

pub blank_refused : (text : List ℕ) (at n : ℕ) (e : LexError) → IsBlank text at n → Refused (drop (at + n) text) e → Refused (drop at text) e
blank_refused text at n e blank h = spaces_refused n (drop at text) e blank.within blank.all (subst (λ (t : List ℕ). Refused t e) (sym (drop-drop n at text)) h)

-- a token that is read, in its place
pub token_lexed : (text : List ℕ) (at : ℕ) (t : Token) (ps : List Piece) → t.start ≡ at → IsLongest t.text.now (Ok (tok t)) (drop (at + length t.text.now) text) (drop at text)
    → Lexed (at + length t.text.now) (drop (at + length t.text.now) text) ps → Lexed at (drop at text) (piece t ∷ ps)
token_lexed text at t ps place longest h =
    subst (λ (k : ℕ). Lexed at (drop at text) (record { start = k; bytes = t.text.now; is = tok t } ∷ ps)) (sym place) (past_token longest h)

pub pushed : (ts : List Token) (t : Token) (ps : List Piece) → map piece (ts ++ t ∷ []) ++ ps ≡ map piece ts ++ piece t ∷ ps
pushed ts t ps = ap (λ (qs : List Piece). qs ++ ps) (map-append piece ts (t ∷ [])) ∙ append_assoc (map piece ts) (piece t ∷ []) ps

pub first_lexed : (text : List ℕ) (n : ℕ) (ts : List Token) (ps : List Piece) → n ≤ length text → Every is_space (take n text) → ts ≡ [] → Lexed n (drop n text) ps → Lexed 0 text (map piece ts ++ ps)
first_lexed text n ts ps le all none h =
    let same : 0 + n ≡ n = omega arith in
    rw none (spaces_lexed n 0 text ps le all (subst (λ (k : ℕ). Lexed k (drop n text) ps) (sym same) h))

pub first_refused : (text : List ℕ) (n : ℕ) (e : LexError) → n ≤ length text → Every is_space (take n text) → Refused (drop n text) e → Refused text e
first_refused text n e le all h = spaces_refused n text e le all h

pub all_lexed : (text : List ℕ) (at : ℕ) (ts : List Token) → length text ≤ at → ((ps : List Piece) → Lexed at (drop at text) ps → Lexed 0 text (map piece ts ++ ps)) → Lexed 0 text (map piece ts)
all_lexed text at ts le h =
    subst (λ (ps : List Piece). Lexed 0 text ps) (append-nil (map piece ts)) (h [] (subst (λ (t : List ℕ). Lexed at t []) (sym (drop_all at text le)) at_end))
