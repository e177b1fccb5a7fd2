-- Which tokens can stand at the front of a text, by its first byte.
use Rattle.std.proofs.Common.{◌≡◌, ◌≢◌, ◌==◌, ⊎_elim, ℕ, zero, suc, ◌+◌, ◌-◌, ◌<◌, ◌≤◌, Bool, true, false, cond, List, [], ◌∷◌, ◌++◌, length, take, drop, get_or, Option, Some, None, Result, Ok, refl, sym, ap, ◌∙◌, arith, subst, append_assoc}
use Rattle.std.proofs.lemmas.Bool.Decides.{nat_tests, eqb_tells}
use Rattle.std.proofs.lemmas.Option.{none-some}
use Rattle.std.proofs.lemmas.List.{take-append-drop, length-take-le, length-append, take_rest}
use Rattle.std.specs.Char.{is_ascii_digit}
use Rattle.wcps_text.specs.declared.token.Symbol.{Symbol}
use Rattle.wcps_text.specs.declared.error.LexError.{LexError}
use Rattle.wcps_text.specs.declared.error.LexError.TheVariants as errors
use Rattle.wcps_text.specs.Token.{Tok, number, quoted, sign}
use Rattle.wcps_text.specs.Lexing.{is_space, begins_name, continues_name, is_quotable, Every, decimal, single, double, IsWord, is_word, IsDigits, is_digits, Reads, numeral, large_numeral, plain, reserved, long_plain, marked, long_marked, text_between, one_byte, two_bytes, IsLongest, Refused, no_form}
use Rattle.wcps_text.specs.Number.{max_number}
use Rattle.wcps_text.specs.Runs.{Stops}
use Rattle.wcps_text.specs.Fronts.{IsOther}

pub ahead : {A : Type 0} {a b : A} {xs ys : List A} → a ∷ xs ≡ b ∷ ys → a ≡ b
ahead e = cc

pub behind : {A : Type 0} {a b : A} {xs ys : List A} → a ∷ xs ≡ b ∷ ys → xs ≡ ys
behind e = cc

pub true_false : {b : Bool} → b ≡ true → b ≡ false → ⊥
true_false p q = cc

pub digit_low : (b : ℕ) → is_ascii_digit b ≡ true → 48 ≤ b
digit_low b h = grind (arith, nat_tests)

pub digit_high : (b : ℕ) → is_ascii_digit b ≡ true → b ≤ 57
digit_high b h = grind (arith, nat_tests)

pub letter_low : (b : ℕ) → begins_name b ≡ true → 65 ≤ b
letter_low b h = grind (arith, nat_tests)

digit_alone : (b : ℕ) → 48 ≤ b → b ≤ 57 → double b ≡ None
digit_alone b low high = grind (arith, nat_tests)

letter_alone : (b : ℕ) → 65 ≤ b → double b ≡ None
letter_alone b low = grind (arith, nat_tests)

-- bytes of one kind at the front are no more than those before the first of another kind
run_bound : (p : ℕ → Bool) (v us : List ℕ) (n : ℕ) → Every p v → Stops p (drop n (v ++ us)) → length v ≤ n
run_bound p [] us n e s = omega arith
run_bound p (x ∷ v) us zero e s = absurd cc
run_bound p (x ∷ v) us (suc n) e s = omega (arith, run_bound p v us n e.1 s)

pub run_within : (p : ℕ → Bool) (text v us : List ℕ) (n : ℕ) → Stops p (drop n text) → Every p v → text ≡ v ++ us → length v ≤ n
run_within p text v us n s e same = run_bound p v us n e (subst (λ (t : List ℕ). Stops p (drop n t)) same s)

-- no token at the front of `b ∷ bs` has more than n bytes
pub record AtMost (b : ℕ) (bs : List ℕ) (n : ℕ) : Type 0 where
  pub digits : is_ascii_digit b ≡ true → (ds us : List ℕ) → Every is_ascii_digit ds → bs ≡ ds ++ us → suc (length ds) ≤ n
  pub letters : begins_name b ≡ true → (cs us : List ℕ) → Every continues_name cs → bs ≡ cs ++ us → suc (length cs) ≤ n
  pub dollars : b ≡ 36 → (c : ℕ) (cs us : List ℕ) → begins_name c ≡ true → Every continues_name cs → bs ≡ c ∷ (cs ++ us) → suc (suc (length cs)) ≤ n
  pub quotes : b ≡ 34 → (cs us : List ℕ) → Every is_quotable cs → bs ≡ cs ++ 34 ∷ us → suc (suc (length cs)) ≤ n
  pub ones : (s : Symbol) → single b ≡ Some s → 1 ≤ n
  pub twos : (s : Symbol) (us : List ℕ) → double b ≡ Some s → bs ≡ 61 ∷ us → 2 ≤ n

name_fits : {b n : ℕ} {bs : List ℕ} → AtMost b bs n → (v us : List ℕ) → IsWord v → b ∷ bs ≡ v ++ us → length v ≤ n
name_fits m v us (is_word {c} {cs} begin more) e = m.letters (rw (ahead e) begin) cs us more (behind e)

dollar_fits : {b n : ℕ} {bs : List ℕ} → AtMost b bs n → (v us : List ℕ) → IsWord v → b ∷ bs ≡ 36 ∷ (v ++ us) → suc (length v) ≤ n
dollar_fits m v us (is_word {c} {cs} begin more) e = m.dollars (ahead e) c cs us begin more (behind e)

digits_fit : {b n : ℕ} {bs : List ℕ} → AtMost b bs n → (v us : List ℕ) → IsDigits v → b ∷ bs ≡ v ++ us → length v ≤ n
digits_fit m v us (is_digits {d} {ds} begin more) e = m.digits (rw (ahead e) begin) ds us more (behind e)

text_fits : {b n : ℕ} {bs : List ℕ} → AtMost b bs n → (w us cs : List ℕ) → Every is_quotable cs → w ≡ 34 ∷ (cs ++ 34 ∷ []) → b ∷ bs ≡ w ++ us → length w ≤ n
text_fits {b} {n} {bs} m w us cs all same e =
    let whole : b ∷ bs ≡ 34 ∷ ((cs ++ 34 ∷ []) ++ us) = subst (λ (v : List ℕ). b ∷ bs ≡ v ++ us) same e in
    let rest : bs ≡ cs ++ 34 ∷ us = behind whole ∙ append_assoc cs (34 ∷ []) us in
    let bound = m.quotes (ahead whole) cs us all rest in
    rw same (omega (arith, bound, length-append cs (34 ∷ [])))

pub fits : {b n : ℕ} {bs : List ℕ} → AtMost b bs n → (v us : List ℕ) (q : Result Tok LexError) → Reads v q → b ∷ bs ≡ v ++ us → length v ≤ n
fits m v us q (numeral is small) e = digits_fit m v us is e
fits m v us q (large_numeral is large) e = digits_fit m v us is e
fits m v us q (plain is short free) e = name_fits m v us is e
fits m v us q (reserved is short same) e = name_fits m v us is e
fits m v us q (long_plain is long) e = name_fits m v us is e
fits m v us q (marked {w} is short) e = dollar_fits m w us is e
fits m v us q (long_marked {w} is long) e = dollar_fits m w us is e
fits m v us q (text_between cs all same) e = text_fits m v us cs all same e
fits m v us q (one_byte {b} {s} alone) e = m.ones s (rw (ahead e) alone)
fits m v us q (two_bytes {b} {s} both) e = m.twos s us (rw (ahead e) both) (behind e)

pub none_equal : {A : Type 0} {o : Option A} {x : A} → o ≡ None → o ≡ Some x → ⊥
none_equal p q = cc

pub digit_most : (b m : ℕ) (bs : List ℕ) → is_ascii_digit b ≡ true → Stops is_ascii_digit (drop m bs) → AtMost b bs (suc m)
digit_most b m bs h s =
    let low = digit_low b h in
    let high = digit_high b h in
    record {
      digits = λ _ ds us all e. omega (arith, run_within _ bs ds us m s all e);
      letters = λ other. absurd (omega (arith, letter_low b other));
      dollars = λ other. absurd (omega arith);
      quotes = λ other. absurd (omega arith);
      ones = λ _ _. omega arith;
      twos = λ _ _ both _. absurd (none_equal (digit_alone b low high) both);
    }

pub letter_most : (b m : ℕ) (bs : List ℕ) → begins_name b ≡ true → Stops continues_name (drop m bs) → AtMost b bs (suc m)
letter_most b m bs h s =
    let low = letter_low b h in
    record {
      digits = λ other. absurd (omega (arith, digit_high b other));
      letters = λ _ cs us all e. omega (arith, run_within _ bs cs us m s all e);
      dollars = λ other. absurd (omega arith);
      quotes = λ other. absurd (omega arith);
      ones = λ _ _. omega arith;
      twos = λ _ _ both _. absurd (none_equal (letter_alone b low) both);
    }

-- the first m bytes are of the kind, and the next one, if there is one, is not
pub record IsRun (p : ℕ → Bool) (text : List ℕ) (m : ℕ) : Type 0 where
  pub within : m ≤ length text
  pub front : Every p (take m text)
  pub stops : Stops p (drop m text)

-- the same of a slice that goes to the end
pub rest_at : (bytes : List ℕ) (k : ℕ) → get_or (take (length bytes - 1) (drop 1 bytes)) k 0 ≡ get_or (drop 1 bytes) k 0
rest_at bytes k = ap (λ (t : List ℕ). get_or t k 0) (take_rest bytes 1)

pub run_behind : (p : ℕ → Bool) (bytes : List ℕ) (i m : ℕ) → m ≤ length (take (length bytes - i) (drop i bytes)) → Every p (take m (take (length bytes - i) (drop i bytes))) → Stops p (drop m (take (length bytes - i) (drop i bytes))) → IsRun p (drop i bytes) m
run_behind p bytes i m within front stops =
    subst (λ (t : List ℕ). IsRun p t m) (take_rest bytes i) (record { within = within; front = front; stops = stops })

longest : (b n : ℕ) (bs : List ℕ) (r : Result Tok LexError) → n ≤ length (b ∷ bs) → Reads (take n (b ∷ bs)) r → AtMost b bs n → IsLongest (take n (b ∷ bs)) r (drop n (b ∷ bs)) (b ∷ bs)
longest b n bs r le reads most = record {
  cut = sym (take-append-drop n (b ∷ bs));
  reads = reads;
  longest = λ v us q form same. rw (length-take-le n (b ∷ bs) le) (fits most v us q form same);
}

pub number_front : (bytes : List ℕ) (m k : ℕ) (r : Result Tok LexError) → 0 < length bytes → is_ascii_digit (get_or bytes 0 0) ≡ true → IsRun is_ascii_digit (drop 1 bytes) m → k ≡ suc m
    → (IsDigits (take k bytes) → Reads (take k bytes) r) → IsLongest (take k bytes) r (drop k bytes) bytes
number_front [] m k r some h run same reads = absurd (omega arith)
number_front (b ∷ bs) m k r some h run same reads =
    subst (λ (n : ℕ). (IsDigits (take n (b ∷ bs)) → Reads (take n (b ∷ bs)) r) → IsLongest (take n (b ∷ bs)) r (drop n (b ∷ bs)) (b ∷ bs)) (sym same)
    (λ form. longest b (suc m) bs r (omega (arith, run.within)) (form (is_digits h run.front)) (digit_most b m bs h run.stops)) reads

pub numeral_at : (ds : List ℕ) (v : ℕ) → v ≡ decimal ds → v ≤ max_number → IsDigits ds → Reads ds (Ok (number v))
numeral_at ds v same small is = subst (λ (n : ℕ). Reads ds (Ok (number n))) (sym same) (numeral is (subst (λ (n : ℕ). n ≤ max_number) same small))

pub name_front : (bytes : List ℕ) (m k : ℕ) (r : Result Tok LexError) → 0 < length bytes → begins_name (get_or bytes 0 0) ≡ true → IsRun continues_name (drop 1 bytes) m → k ≡ suc m
    → (IsWord (take k bytes) → length (take k bytes) ≡ k → Reads (take k bytes) r) → IsLongest (take k bytes) r (drop k bytes) bytes
name_front [] m k r some h run same reads = absurd (omega arith)
name_front (b ∷ bs) m k r some h run same reads =
    subst (λ (n : ℕ). (IsWord (take n (b ∷ bs)) → length (take n (b ∷ bs)) ≡ n → Reads (take n (b ∷ bs)) r) → IsLongest (take n (b ∷ bs)) r (drop n (b ∷ bs)) (b ∷ bs)) (sym same)
    (λ form. longest b (suc m) bs r (omega (arith, run.within)) (form (is_word h run.front) (ap suc (length-take-le m bs run.within))) (letter_most b m bs h run.stops)) reads

continues_from_begins : (c : ℕ) → begins_name c ≡ true → continues_name c ≡ true
continues_from_begins c h = grind (arith, nat_tests)

pub dollar_most : (m : ℕ) (bs : List ℕ) → Stops continues_name (drop m bs) → AtMost 36 bs (suc m)
dollar_most m bs s = record {
  digits = λ other. absurd cc;
  letters = λ other. absurd cc;
  dollars = λ _ c cs us begin all e. omega (arith, run_within continues_name bs (c ∷ cs) us m s (continues_from_begins c begin, all) e);
  quotes = λ other. absurd (omega arith);
  ones = λ _ _. omega arith;
  twos = λ _ _ both _. absurd cc;
}

-- a run that begins with the first byte of a name is a name
run_name : (bs : List ℕ) (m : ℕ) → begins_name (get_or bs 0 0) ≡ true → IsRun continues_name bs m → IsWord (take m bs)
run_name [] m h run = absurd cc
run_name (c ∷ cs) zero h run = absurd (true_false (continues_from_begins c h) run.stops)
run_name (c ∷ cs) (suc m) h run = is_word h run.front.1

pub dollar_front : (bytes : List ℕ) (m k : ℕ) (r : Result Tok LexError) → get_or bytes 0 0 ≡ 36 → begins_name (get_or (drop 1 bytes) 0 0) ≡ true → IsRun continues_name (drop 1 bytes) m → k ≡ suc m
    → ((w : List ℕ) → take k bytes ≡ 36 ∷ w → IsWord w → suc (length w) ≡ k → Reads (36 ∷ w) r) → IsLongest (take k bytes) r (drop k bytes) bytes
dollar_front [] m k r first h run same reads = absurd cc
dollar_front (b ∷ bs) m k r first h run same reads =
    subst (λ (n : ℕ). ((w : List ℕ) → take n (b ∷ bs) ≡ 36 ∷ w → IsWord w → suc (length w) ≡ n → Reads (36 ∷ w) r) → IsLongest (take n (b ∷ bs)) r (drop n (b ∷ bs)) (b ∷ bs)) (sym same)
    (subst (λ (a : ℕ). ((w : List ℕ) → take (suc m) (a ∷ bs) ≡ 36 ∷ w → IsWord w → suc (length w) ≡ suc m → Reads (36 ∷ w) r) → IsLongest (take (suc m) (a ∷ bs)) r (drop (suc m) (a ∷ bs)) (a ∷ bs)) (sym first)
    (λ form. longest 36 (suc m) bs r (omega (arith, run.within)) (form (take m bs) refl (run_name bs m h run) (ap suc (length-take-le m bs run.within))) (dollar_most m bs run.stops))) reads

reads_some : (v : List ℕ) (q : Result Tok LexError) → Reads v q → 0 < length v
reads_some v q (numeral (is_digits begin more) small) = omega arith
reads_some v q (large_numeral (is_digits begin more) large) = omega arith
reads_some v q (plain (is_word begin more) short free) = omega arith
reads_some v q (reserved (is_word begin more) short same) = omega arith
reads_some v q (long_plain (is_word begin more) long) = omega arith
reads_some v q (marked is short) = omega arith
reads_some v q (long_marked is long) = omega arith
reads_some v q (text_between cs all same) = rw same (omega arith)
reads_some v q (one_byte alone) = omega arith
reads_some v q (two_bytes both) = omega arith

-- nothing at the front has the form of a token
pub refused : (b : ℕ) (bs : List ℕ) → is_space b ≡ false → AtMost b bs 0 → Refused (b ∷ bs) errors.BadToken
refused b bs dense most = no_form (λ blank. true_false blank dense) (λ v us q form same. absurd (omega (arith, fits most v us q form same, reads_some v q form)))

lone_dollar : (bs : List ℕ) → begins_name (get_or bs 0 0) ≡ false → AtMost 36 bs 0
lone_dollar bs none = record {
  digits = λ other. absurd cc;
  letters = λ other. absurd cc;
  dollars = λ _ c cs us begin all e. absurd (true_false begin (subst (λ (t : List ℕ). begins_name (get_or t 0 0) ≡ false) e none));
  quotes = λ other. absurd (omega arith);
  ones = λ _ alone. absurd cc;
  twos = λ _ _ both _. absurd cc;
}

pub dollar_refused : (bytes : List ℕ) → get_or bytes 0 0 ≡ 36 → 0 < length bytes → begins_name (get_or (drop 1 bytes) 0 0) ≡ false → Refused bytes errors.BadToken
dollar_refused [] first some none = absurd (omega arith)
dollar_refused (b ∷ bs) first some none = subst (λ (a : ℕ). Refused (a ∷ bs) errors.BadToken) (sym first) (refused 36 bs refl (lone_dollar bs none))

quote_most : (m : ℕ) (bs : List ℕ) → Stops is_quotable (drop m bs) → AtMost 34 bs (suc (suc m))
quote_most m bs s = record {
  digits = λ other. absurd cc;
  letters = λ other. absurd cc;
  dollars = λ other. absurd (omega arith);
  quotes = λ _ cs us all e. omega (arith, run_within is_quotable bs cs (34 ∷ us) m s all e);
  ones = λ _ _. omega arith;
  twos = λ _ _ both _. absurd cc;
}

-- there is a byte where one is found that is not 0
found_within : (bytes : List ℕ) (k : ℕ) → get_or bytes k 0 ≡ 34 → k < length bytes
found_within [] k e = absurd cc
found_within (b ∷ bs) zero e = omega arith
found_within (b ∷ bs) (suc k) e = omega (arith, found_within bs k e)

pub text_front : (bytes : List ℕ) (m k : ℕ) → get_or bytes 0 0 ≡ 34 → IsRun is_quotable (drop 1 bytes) m → get_or bytes (suc m) 0 ≡ 34 → k ≡ suc (suc m)
    → IsLongest (take k bytes) (Ok (quoted (take k bytes))) (drop k bytes) bytes
text_front [] m k first run last same = absurd cc
text_front (b ∷ bs) m k first run last same =
    let some = found_within (b ∷ bs) (suc m) last in
    let whole : take (suc (suc m)) (b ∷ bs) ≡ 34 ∷ (take m bs ++ 34 ∷ []) = rw first (ap (λ (w : List ℕ). 34 ∷ w) (take_suc m bs (omega arith) last)) in
    subst (λ (n : ℕ). IsLongest (take n (b ∷ bs)) (Ok (quoted (take n (b ∷ bs)))) (drop n (b ∷ bs)) (b ∷ bs)) (sym same)
    (longest b (suc (suc m)) bs _ (omega arith) (text_between (take m bs) run.front whole) (subst (λ (a : ℕ). AtMost a bs (suc (suc m))) (sym first) (quote_most m bs run.stops)))
  where
    take_suc : (m : ℕ) (bs : List ℕ) → m < length bs → get_or bs m 0 ≡ 34 → take (suc m) bs ≡ take m bs ++ 34 ∷ []
    take_suc m [] lt last = absurd (omega arith)
    take_suc zero (b ∷ bs) lt last = ap (λ (x : ℕ). x ∷ []) last
    take_suc (suc m) (b ∷ bs) lt last = ap (λ (w : List ℕ). b ∷ w) (take_suc m bs (omega arith) last)

-- where a run ends, another way to cut the same text
ends_alike : (p : ℕ → Bool) (cs us : List ℕ) (c m : ℕ) → Every p cs → p c ≡ false → Every p (take m (cs ++ c ∷ us)) → m ≤ length (cs ++ c ∷ us) → Stops p (drop m (cs ++ c ∷ us)) → get_or (cs ++ c ∷ us) m 0 ≡ c
ends_alike p [] us c zero all end front within stops = refl
ends_alike p [] us c (suc m) all end front within stops = absurd (true_false front.0 end)
ends_alike p (x ∷ cs) us c zero all end front within stops = absurd (true_false all.0 stops)
ends_alike p (x ∷ cs) us c (suc m) all end front within stops = ends_alike p cs us c m all.1 end front.1 (omega arith) stops

open_quote : (m : ℕ) (bs : List ℕ) → IsRun is_quotable bs m → get_or bs m 0 ≢ 34 → AtMost 34 bs 0
open_quote m bs run none = record {
  digits = λ other. absurd cc;
  letters = λ other. absurd cc;
  dollars = λ other. absurd (omega arith);
  quotes = λ _ cs us all e. absurd (none (closing cs us all e));
  ones = λ _ alone. absurd cc;
  twos = λ _ _ both _. absurd cc;
}
  where
    closing : (cs us : List ℕ) → Every is_quotable cs → bs ≡ cs ++ 34 ∷ us → get_or bs m 0 ≡ 34
    closing cs us all e =
        let run2 = subst (λ (t : List ℕ). IsRun is_quotable t m) e run in
        subst (λ (t : List ℕ). get_or t m 0 ≡ 34) (sym e) (ends_alike is_quotable cs us 34 m all refl run2.front run2.within run2.stops)

pub text_refused : (bytes : List ℕ) (m : ℕ) → get_or bytes 0 0 ≡ 34 → 0 < length bytes → IsRun is_quotable (drop 1 bytes) m → get_or bytes (suc m) 0 ≢ 34 → Refused bytes errors.BadToken
text_refused [] m first some run none = absurd (omega arith)
text_refused (b ∷ bs) m first some run none = subst (λ (a : ℕ). Refused (a ∷ bs) errors.BadToken) (sym first) (refused 34 bs refl (open_quote m bs run none))

pub other_most : (b n : ℕ) (bs : List ℕ) → IsOther b → ((s : Symbol) → single b ≡ Some s → 1 ≤ n) → ((s : Symbol) (us : List ℕ) → double b ≡ Some s → bs ≡ 61 ∷ us → 2 ≤ n) → AtMost b bs n
other_most b n bs other ones twos = record {
  digits = λ h. absurd (true_false h other.no_digit);
  letters = λ h. absurd (true_false h other.no_letter);
  dollars = λ h. absurd (other.no_dollar h);
  quotes = λ h. absurd (other.no_quote h);
  ones = ones;
  twos = twos;
}

pub wide_front : (bytes : List ℕ) (s : Symbol) → 0 < length bytes → IsOther (get_or bytes 0 0) → cond (get_or bytes 1 0 == 61) (double (get_or bytes 0 0)) None ≡ Some s
    → IsLongest (take 2 bytes) (Ok (sign s)) (drop 2 bytes) bytes
wide_front [] s some other e = absurd (omega arith)
wide_front (b ∷ []) s some other e = absurd cc
wide_front (b ∷ c ∷ bs) s some other e =
    let parts = both c (double b) s e in
    longest b 2 (c ∷ bs) _ (omega arith) (subst (λ (d : ℕ). Reads (b ∷ d ∷ []) (Ok (sign s))) (sym parts.0) (two_bytes parts.1)) (other_most b 2 (c ∷ bs) other (λ _ _. omega arith) (λ _ _ _ _. omega arith))
  where
    both : (c : ℕ) (o : Option Symbol) (s : Symbol) → cond (c == 61) o None ≡ Some s → (c ≡ 61) × (o ≡ Some s)
    both c o s e = ⊎_elim (λ same. (same.1, rw same.0 at e)) (λ other. absurd (none-some s (rw other.0 at e))) (eqb_tells c 61)

narrow_twos : (b c : ℕ) (bs : List ℕ) → cond (c == 61) (double b) None ≡ None → (s : Symbol) (us : List ℕ) → double b ≡ Some s → c ∷ bs ≡ 61 ∷ us → ⊥
narrow_twos b c bs e s us both same =
    let wide : double b ≡ None = subst (λ (d : ℕ). cond (d == 61) (double b) None ≡ None) (ahead same) e in
    none_equal wide both

pub narrow_front : (bytes : List ℕ) (s : Symbol) → 0 < length bytes → IsOther (get_or bytes 0 0) → cond (get_or bytes 1 0 == 61) (double (get_or bytes 0 0)) None ≡ None → single (get_or bytes 0 0) ≡ Some s
    → IsLongest (take 1 bytes) (Ok (sign s)) (drop 1 bytes) bytes
narrow_front [] s some other e alone = absurd (omega arith)
narrow_front (b ∷ []) s some other e alone = longest b 1 [] _ (omega arith) (one_byte alone) (other_most b 1 [] other (λ _ _. omega arith) (λ _ _ _ same. absurd cc))
narrow_front (b ∷ c ∷ bs) s some other e alone = longest b 1 (c ∷ bs) _ (omega arith) (one_byte alone) (other_most b 1 (c ∷ bs) other (λ _ _. omega arith) (λ t us both same. absurd (narrow_twos b c bs e t us both same)))

pub other_refused : (bytes : List ℕ) → 0 < length bytes → IsOther (get_or bytes 0 0) → Stops is_space bytes → cond (get_or bytes 1 0 == 61) (double (get_or bytes 0 0)) None ≡ None → single (get_or bytes 0 0) ≡ None → Refused bytes errors.BadToken
other_refused [] some other dense e alone = absurd (omega arith)
other_refused (b ∷ []) some other dense e alone = refused b [] dense (other_most b 0 [] other (λ s h. absurd (none_equal alone h)) (λ _ _ _ same. absurd cc))
other_refused (b ∷ c ∷ bs) some other dense e alone = refused b (c ∷ bs) dense (other_most b 0 (c ∷ bs) other (λ s h. absurd (none_equal alone h)) (λ t us both same. absurd (narrow_twos b c bs e t us both same)))

-- the last byte of a run behind the first byte
pub last_of : (bytes : List ℕ) (r : ℕ) → 0 < length bytes → get_or bytes 0 0 < 128 → (0 < r → get_or (take (length bytes - 1) (drop 1 bytes)) (r - 1) 0 < 128) → get_or bytes (1 + r - 1) 0 < 128
last_of [] r some first last = absurd (omega arith)
last_of (b ∷ bs) zero some first last = first
last_of (b ∷ bs) (suc r) some first last =
    let back : suc r - 1 ≡ r = omega arith in
    let rest = subst (λ (t : List ℕ). get_or t r 0 < 128) (take_rest (b ∷ bs) 1) (rw back at (last (omega arith))) in
    let same : suc r ≡ 1 + suc r - 1 = omega arith in
    subst (λ (k : ℕ). get_or (b ∷ bs) k 0 < 128) same rest

pub letter_high : (b : ℕ) → begins_name b ≡ true → b < 128
letter_high b h = grind (arith, nat_tests)
