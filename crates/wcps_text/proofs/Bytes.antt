-- Runs of bytes, and where they end.
use Rattle.std.proofs.Common.{◌≡◌, ℕ, zero, suc, ◌+◌, ◌-◌, ◌*◌, ◌<◌, ◌≤◌, Bool, IsTrue, List, [], ◌∷◌, length, take, drop, get_or, ◌∙◌, arith, drop-cons, subst}
use Rattle.std.specs.Str.{IsUtf8, IsCharBoundary}
use Rattle.std.proofs.lemmas.Str.{IsCharBoundary-after_ascii}
use Rattle.std.proofs.lemmas.List.{get_or-take, get_or-drop}
use Rattle.wcps_text.specs.Lexing.{Every, decimal_from}
use Rattle.wcps_text.specs.Runs.{Stops}

every_suc : (p : ℕ → Bool) (bs : List ℕ) (i d : ℕ) → i < length bs → Every p (take i bs) → IsTrue (p (get_or bs i d)) → Every p (take (suc i) bs)
every_suc p [] i d lt e h = absurd (omega arith)
every_suc p (b ∷ bs) zero d lt e h = (h, tt)
every_suc p (b ∷ bs) (suc i) d lt e h = (e.0, every_suc p bs i d (omega arith) e.1 h)

pub every_more : (p : ℕ → Bool) (bs : List ℕ) (i j d : ℕ) → j ≡ suc i → i < length bs → Every p (take i bs) → IsTrue (p (get_or bs i d)) → Every p (take j bs)
every_more p bs i j d q lt e h = rw q (every_suc p bs i d lt e h)

pub stops_end : (p : ℕ → Bool) (bs : List ℕ) (i : ℕ) → length bs ≤ i → Stops p (drop i bs)
stops_end p [] zero le = tt
stops_end p [] (suc i) le = tt
stops_end p (b ∷ bs) zero le = absurd (omega arith)
stops_end p (b ∷ bs) (suc i) le = stops_end p bs i (omega arith)

pub decimal_grows : (n : ℕ) (ds : List ℕ) → n ≤ decimal_from n ds
decimal_grows n [] = omega arith
decimal_grows n (d ∷ ds) = let more = decimal_grows (n * 10 + (d - 48)) ds in omega (arith, more)

-- digits whose front is too large already
pub too_large : (ds : List ℕ) (i d n : ℕ) → i < length ds → 9223372036854775808 ≤ n * 10 + (get_or ds i d - 48) → 9223372036854775808 ≤ decimal_from n (drop i ds)
too_large ds i d n lt h =
    rw (drop-cons ds i d lt) (omega (arith, h, decimal_grows (n * 10 + (get_or ds i d - 48)) (drop (suc i) ds)))

-- a text may be cut behind an ASCII byte
pub cut_behind : (bs : List ℕ) (s n : ℕ) → IsUtf8 bs → s < length bs → 0 < n → n ≤ length bs - s → get_or (take (length bs - s) (drop s bs)) (n - 1) 0 < 128 → IsCharBoundary bs (s + n)
cut_behind bs s n u lt some within h =
    let back : get_or (take (length bs - s) (drop s bs)) (n - 1) 0 ≡ get_or bs (s + (n - 1)) 0 = get_or-take (length bs - s) (drop s bs) (n - 1) 0 (omega arith) ∙ get_or-drop s bs (n - 1) 0 in
    let same : s + (n - 1) + 1 ≡ s + n = omega arith in
    subst (λ (i : ℕ). IsCharBoundary bs i) same (IsCharBoundary-after_ascii bs (s + (n - 1)) u (omega arith) (omega (arith, h, back)))
