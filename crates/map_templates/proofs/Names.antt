-- Names are read as names.
use Rattle.std.proofs.Common.{◌≡◌, ℕ, ◌≤◌, ◌<◌, Bool, true, false, not, ◌&&◌, nat_le, List, [], ◌∷◌, ◌++◌, length, codes, decimal, ◌+◌, Ok, refl, sym, subst, arith}
use Rattle.std.proofs.lemmas.Bool.Decides.{nat_tests}
use Rattle.std.proofs.lemmas.Fmt.{decimal_by_steps}
use Rattle.std.specs.Char.{is_ascii_digit}
use Rattle.std.specs.List.{list_all}
use Rattle.arr_core.specs.Names as names
use Rattle.arr_core.specs.Keywords.{is_keyword}
use Rattle.arr_core.specs.Names.{goes_on_name, is_spelled}
use Rattle.arr_core.proofs.Keywords.{unwritten}
use Rattle.wcps_text.specs.Token.{name, dollar}
use Rattle.wcps_text.specs.Lexing.{continues_name, Every, IsWord, is_word, Reads, plain, marked}
use Rattle.wcps_text.proofs.Fronts.{true_false}
use Rattle.wcps_text.proofs.Lexemes.{digit}

goes_on : (b : ℕ) → goes_on_name b ≡ true → continues_name b ≡ true
goes_on b h = grind (arith, nat_tests)

digit_goes_on : (d : ℕ) → is_ascii_digit d ≡ true → continues_name d ≡ true
digit_goes_on d h = grind (arith, nat_tests)

both : (a b : Bool) → (a && b) ≡ true → (a ≡ true) × (b ≡ true)
both true b h = (refl, h)
both false b h = absurd (true_false h refl)

all_go_on : (bs : List ℕ) → list_all goes_on_name bs ≡ true → Every continues_name bs
all_go_on [] h = tt
all_go_on (b ∷ bs) h = let e = both (goes_on_name b) (list_all goes_on_name bs) h in (goes_on b e.0, all_go_on bs e.1)

spelled_name : (x : List ℕ) → is_spelled x ≡ true → IsWord x
spelled_name [] h = absurd (true_false h refl)
spelled_name (b ∷ bs) h = let e = both (names.begins_name b) (list_all goes_on_name bs) h in is_word e.0 (all_go_on bs e.1)

-- what a name is
record Name (x : List ℕ) : Type 0 where
  spelled : is_spelled x ≡ true
  short : nat_le (length x) 64 ≡ true
  free : not (is_keyword x) ≡ true

name_parts : (x : List ℕ) → names.IsName x → Name x
unfolding names.is_name
name_parts x h =
    let e = both (is_spelled x && nat_le (length x) 64) (not (is_keyword x)) h in
    let f = both (is_spelled x) (nat_le (length x) 64) e.0 in
    record { spelled = f.0; short = f.1; free = e.1 }

at_most : (n : ℕ) → nat_le n 64 ≡ true → n ≤ 64
at_most n h = grind (arith, nat_tests)

denied : (b : Bool) → not b ≡ true → b ≡ false
denied true h = absurd (true_false h refl)
denied false h = refl

pub name_reads : (x : List ℕ) → names.IsName x → Reads x (Ok (name x))
name_reads x h =
    let n = name_parts x h in
    plain (spelled_name x n.spelled) (at_most (length x) n.short) (unwritten x (denied (is_keyword x) n.free))

-- the names of variables in templates
short_a : names.IsName (codes "a")
unfolding names.is_name is_keyword
short_a = refl

pub a_reads : Reads (codes "a") (Ok (name (codes "a")))
a_reads = name_reads (codes "a") short_a

short_b : names.IsName (codes "b")
unfolding names.is_name is_keyword
short_b = refl

pub b_reads : Reads (codes "b") (Ok (name (codes "b")))
b_reads = name_reads (codes "b") short_b

short_z : names.IsName (codes "z")
unfolding names.is_name is_keyword
short_z = refl

pub z_reads : Reads (codes "z") (Ok (name (codes "z")))
z_reads = name_reads (codes "z") short_z

short_f : names.IsName (codes "f")
unfolding names.is_name is_keyword
short_f = refl

pub f_reads : Reads (codes "f") (Ok (name (codes "f")))
f_reads = name_reads (codes "f") short_f

pub p_reads : Reads (codes "$p") (Ok (dollar (codes "$p")))
p_reads = marked (is_word refl tt) (omega arith)

pub q_reads : Reads (codes "$q") (Ok (dollar (codes "$q")))
q_reads = marked (is_word refl tt) (omega arith)

pub u_reads : Reads (codes "$u") (Ok (dollar (codes "$u")))
u_reads = marked (is_word refl tt) (omega arith)

pub v_reads : Reads (codes "$v") (Ok (dollar (codes "$v")))
v_reads = marked (is_word refl tt) (omega arith)

-- the digit of a number
pub one_digit : (k : ℕ) → k < 10 → decimal k ≡ (48 + k) ∷ []
one_digit k lt = decimal_by_steps (λ (n : ℕ) (ds : List ℕ). n < 10 → ds ≡ (48 + n) ∷ []) (λ n small _. refl) (λ n ds large _ small. absurd (omega arith)) k (omega arith) lt

-- the variables with a digit
pub p_number : (k : ℕ) → k < 10 → Reads (codes "$p" ++ decimal k) (Ok (dollar (codes "$p" ++ decimal k)))
p_number k lt =
    subst (λ (ds : List ℕ). Reads (codes "$p" ++ ds) (Ok (dollar (codes "$p" ++ ds)))) (sym (one_digit k lt)) (marked (is_word refl (digit_goes_on (48 + k) (digit k lt), tt)) (omega arith))

pub u_number : (k : ℕ) → k < 10 → Reads (codes "$u" ++ decimal k) (Ok (dollar (codes "$u" ++ decimal k)))
u_number k lt =
    subst (λ (ds : List ℕ). Reads (codes "$u" ++ ds) (Ok (dollar (codes "$u" ++ ds)))) (sym (one_digit k lt)) (marked (is_word refl (digit_goes_on (48 + k) (digit k lt), tt)) (omega arith))
