-- The names of coverages, fields and axes are the texts that are one token without `$`, a name.
use Rattle.std.proofs.Common.{◌≡◌, ℕ, ◌≤◌, Bool, true, false, not, ◌&&◌, List, [], ◌∷◌, length, Ok, refl, ap, arith}
use Rattle.std.specs.Prelude.{nat_le}
use Rattle.std.specs.List.{list_all}
use Rattle.std.proofs.lemmas.Bool.Decides.{nat_tests}
use Rattle.arr_core.specs.Names as names
use Rattle.arr_core.specs.Keywords.{is_keyword}
use Rattle.arr_core.specs.Names.{is_spelled, goes_on_name}
use Rattle.arr_core.proofs.Keywords.{unwritten, no-keyword}
use Rattle.wcps_text.specs.Token.{name}
use Rattle.wcps_text.specs.Lexing.{begins_name, continues_name, Every, is_word, Reads, plain}

both : (a b : Bool) → a && b ≡ true → (a ≡ true) × (b ≡ true)
both true b h = (refl, h)
both false b h = absurd (cc)

together : (a b : Bool) → a ≡ true → b ≡ true → a && b ≡ true
together a b h k = rw (h, k) refl

denied : (b : Bool) → not b ≡ true → b ≡ false
denied true h = absurd (cc)
denied false h = refl

goes-on : (b : ℕ) → goes_on_name b ≡ true → continues_name b ≡ true
goes-on b h = grind (arith, nat_tests)

continues : (b : ℕ) → continues_name b ≡ true → goes_on_name b ≡ true
continues b h = grind (arith, nat_tests)

every : (cs : List ℕ) → list_all goes_on_name cs ≡ true → Every continues_name cs
every [] h = tt
every (c ∷ cs) h = let p = both (goes_on_name c) (list_all goes_on_name cs) h in (goes-on c p.0, every cs p.1)

all-of : (cs : List ℕ) → Every continues_name cs → list_all goes_on_name cs ≡ true
all-of [] h = refl
all-of (c ∷ cs) h = together (goes_on_name c) (list_all goes_on_name cs) (continues c h.0) (all-of cs h.1)

short-of : (n : ℕ) → nat_le n 64 ≡ true → n ≤ 64
short-of n h = grind (arith, nat_tests)

of-short : (n : ℕ) → n ≤ 64 → nat_le n 64 ≡ true
of-short n h = grind (arith, nat_tests)

pub token-of-name : (w : List ℕ) → names.IsName w → Reads w (Ok (name w))
unfolding names.is_name
token-of-name [] h = absurd (cc)
token-of-name (b ∷ rest) h =
    let p = both (is_spelled (b ∷ rest) && nat_le (length (b ∷ rest)) 64) (not (is_keyword (b ∷ rest))) h in
    let q = both (is_spelled (b ∷ rest)) (nat_le (length (b ∷ rest)) 64) p.0 in
    let s = both (begins_name b) (list_all goes_on_name rest) q.0 in
    plain (is_word s.0 (every rest s.1)) (short-of (length (b ∷ rest)) q.1) (unwritten (b ∷ rest) (denied (is_keyword (b ∷ rest)) p.1))

of-reads : (w x : List ℕ) → Reads w (Ok (name x)) → names.IsName w
unfolding names.is_name
of-reads w x (plain (is_word {c} {cs} begin more) short free) =
    together (is_spelled (c ∷ cs) && nat_le (length (c ∷ cs)) 64) (not (is_keyword (c ∷ cs)))
    (together (is_spelled (c ∷ cs)) (nat_le (length (c ∷ cs)) 64) (together (begins_name c) (list_all goes_on_name cs) begin (all-of cs more)) (of-short (length (c ∷ cs)) short))
    (ap not (no-keyword (c ∷ cs) free))

pub name-of-token : (w : List ℕ) → Reads w (Ok (name w)) → names.IsName w
name-of-token w h = of-reads w w h
