-- Text that is written a token at a time.
use Rattle.std.proofs.Common.{◌≡◌, ◌==◌, ℕ, Bool, true, false, cond, List, [], ◌∷◌, ◌++◌, get_or, Result, Ok, Err, refl, ap, ◌∙◌, append_assoc, append-nil}
use Rattle.std.specs.Result.{OnOk}
use Rattle.wcps_text.specs.declared.token.Symbol.TheVariants as signs
use Rattle.wcps_text.specs.Token.{Tok, name, dollar}
use Rattle.wcps_print.specs.Printing.{bytes_of, text_of, name_token, Puts}

pub put_token : (t : Tok) (before after text : List ℕ) → text ≡ bytes_of t → after ≡ (before ++ text) ++ 32 ∷ [] → Puts before (λ rest. t ∷ rest) after
unfolding text_of
put_token t before after text same e rest =
    rw (e, same) (append_assoc (before ++ bytes_of t) (32 ∷ []) (text_of rest) ∙ append_assoc before (bytes_of t) (32 ∷ text_of rest))

-- a name is written with its `$`
pub bytes_of_name : (x : List ℕ) → x ≡ bytes_of (name_token x)
unfolding name_token
bytes_of_name x = chosen (get_or x 0 0 == 36)
  where
    chosen : (b : Bool) → x ≡ bytes_of (cond b (dollar x) (name x))
    chosen true = refl
    chosen false = refl

-- what follows where a call succeeds
pub on_ok : {A E P Q : Type 0} (r : Result A E) → (P → Q) → OnOk r P → OnOk r Q
on_ok (Ok x) f h = f h
on_ok (Err e) f h = tt

pub same_text : (before : List ℕ) {ts us : List Tok} → ts ≡ us → before ++ text_of ts ≡ before ++ text_of us
same_text before e = ap (λ (ts : List Tok). before ++ text_of ts) e

-- no tokens are no text
pub nothing_behind : (bs : List ℕ) → bs ++ text_of [] ≡ bs
unfolding text_of
nothing_behind bs = append-nil bs

-- the last of several calls, behind what the others have written
pub last_puts : {A E : Type 0} (r : Result A E) (before mid after : List ℕ) (g k : List Tok → List Tok) → OnOk r (Puts mid g after) → ((rest : List Tok) → mid ++ text_of (g rest) ≡ before ++ text_of (k rest)) → OnOk r (Puts before k after)
last_puts r before mid after g k h same = on_ok r (λ (last : Puts mid g after) rest. last rest ∙ same rest) h
