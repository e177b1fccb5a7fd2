-- What is kept of the values that count, one after the other.
use Rattle.std.proofs.Common.{◌≡◌, ℕ, zero, suc, ◌+◌, ◌*◌, ◌/◌, ◌%◌, ◌^◌, ◌<◌, ◌≤◌, arith, List, [], ◌∷◌, ◌++◌, length, refl, sym, ap, ◌∙◌, subst, ℤ, pos, negsuc, ◌+ℤ◌, SFits, w64, Bool, true, false, ◌&&◌, ◌||◌, cond, Some, inl, inr, nat_eq, nat_lt}
use Rattle.std.proofs.Common.{length-append, take, get_or}
use Rattle.std.proofs.lemmas.Int.{ints}
use Rattle.std.specs.Prelude.{replicate}
use Rattle.std.proofs.Math.Nat.{mul-le-mul_left}
use Rattle.std.proofs.lemmas.List.{append-nil, append_assoc, length-replicate, replicate_more, take_more, take_all}
use Rattle.std.proofs.lemmas.Bool.{cases_eq, eq-eqb, ne_eqb, lt-ltb}
use Rattle.wcps_text.specs.declared.operator.Aggregate.{Aggregate}
use Rattle.wcps_text.specs.declared.operator.Aggregate.TheVariants as aggregates
use Rattle.wcps_mean.specs.declared.running.Running.{Running}
use Rattle.wcps_mean.specs.Feeding.{Keeps}
use Rattle.arr_core.specs.Cells.{truth_of}
use Rattle.wcps_mean.specs.Condensers.{total, trues, every, any, larger, smaller, greatest, least}
use Rattle.wcps_mean.specs.Best.{greatest_of, least_of}
use Rattle.tile_kernel.specs.Selected.{selected, taken_in}

total-push : (zs : List ℤ) (x : ℤ) → total (zs ++ x ∷ []) ≡ total zs +ℤ x
total-push [] x = omega (arith, ints)
total-push (z ∷ zs) x = let e = total-push zs x in omega (arith, ints)

trues-push : (zs : List ℤ) (x : ℤ) → trues (zs ++ x ∷ []) ≡ trues zs + cond (truth_of x) 1 0
trues-push [] x = omega arith
trues-push (z ∷ zs) x = let e = trues-push zs x in omega arith

-- one more copy of a value
pub one_more : (zs : List ℤ) (n : ℕ) (x : ℤ) → zs ++ replicate (suc n) x ≡ (zs ++ replicate n x) ++ x ∷ []
one_more zs n x =
    let e : n + 1 ≡ suc n = omega arith in
    ap (λ k. zs ++ replicate k x) (sym e) ∙ ap (λ l. zs ++ l) (sym (replicate_more n x)) ∙ sym (append_assoc zs (replicate n x) (x ∷ []))

-- ---- one more place

pub selected_next : (t : ℕ → ℕ) (v : ℕ → ℤ) (k : ℕ) → selected t v (k + 1) ≡ selected t v k ++ replicate (t k) (v k)
selected_next t v k = let e : k + 1 ≡ suc k = omega arith in ap (selected t v) e

pub taken_in_next : (t : ℕ → ℕ) (k : ℕ) → taken_in t (k + 1) ≡ taken_in t k + t k
taken_in_next t k = let e : k + 1 ≡ suc k = omega arith in ap (taken_in t) e

taken_in_most : (t : ℕ → ℕ) (k m : ℕ) → k ≤ m → taken_in t k ≤ taken_in t m
taken_in_most t k zero le = let e : k ≡ 0 = omega arith in let s = ap (taken_in t) e in omega (arith, s)
taken_in_most t k (suc m) le = elim (cases_eq k (suc m)) [
  | inl e ↦ (let s = ap (taken_in t) e in omega (arith, s))
  | inr ne ↦ (let i = taken_in_most t k m (omega arith) in omega (arith, i))
]

pub taken_in_before : (t : ℕ → ℕ) (k len : ℕ) → k < len → taken_in t k + t k ≤ taken_in t len
taken_in_before t k len lt = taken_in_most t (suc k) len (omega arith)

pub length-selected : (t : ℕ → ℕ) (v : ℕ → ℤ) (n : ℕ) → length (selected t v n) ≡ taken_in t n
length-selected t v zero = refl
length-selected t v (suc n) =
    let e = length-selected t v n in
    let a = length-append (selected t v n) (replicate (t n) (v n)) in
    let b = length-replicate (t n) (v n) in
    omega (arith, e, a, b)

trues_step : (n : ℕ) (zs : List ℤ) (x : ℤ) → trues (zs ++ replicate n x) ≡ trues zs + n * cond (truth_of x) 1 0
trues_step zero zs x = ap trues (append-nil zs) ∙ omega arith
trues_step (suc n) zs x =
    let e = trues_step n zs x in
    let p = ap trues (one_more zs n x) in
    let q = trues-push (zs ++ replicate n x) x in
    omega (arith, e, p, q)

pub trues_next : (t : ℕ → ℕ) (v : ℕ → ℤ) (k : ℕ) → trues (selected t v (k + 1)) ≡ trues (selected t v k) + t k * cond (truth_of (v k)) 1 0
trues_next t v k = ap trues (selected_next t v k) ∙ trues_step (t k) (selected t v k) (v k)

-- the halves of a sum, with so many more copies of a value
halves : (n : ℕ) (zs : List ℤ) (x : ℤ) (bits low high c : ℕ) → pos bits ≡ x +ℤ pos (2 ^ 63) → pos (low + 4294967296 * high) ≡ total zs +ℤ pos (c * 2 ^ 63)
    → pos ((low + n * (bits % 4294967296)) + 4294967296 * (high + n * (bits / 4294967296))) ≡ total (zs ++ replicate n x) +ℤ pos ((c + n) * 2 ^ 63)
halves zero zs x bits low high c e h = let p = ap total (append-nil zs) in omega (arith, ints)
halves (suc n) zs x bits low high c e h =
    let i = halves n zs x bits low high c e h in
    let p = ap total (one_more zs n x) in
    let q = total-push (zs ++ replicate n x) x in
    omega (arith, ints)

-- a sum of raised values, with so many more copies of one
lifts : (n : ℕ) (zs : List ℤ) (x : ℤ) (bits sum c : ℕ) → pos bits ≡ x +ℤ pos (2 ^ 40) → pos sum ≡ total zs +ℤ pos (c * 2 ^ 40)
    → pos (sum + n * bits) ≡ total (zs ++ replicate n x) +ℤ pos ((c + n) * 2 ^ 40)
lifts zero zs x bits sum c e h = let p = ap total (append-nil zs) in omega (arith, ints)
lifts (suc n) zs x bits sum c e h =
    let i = lifts n zs x bits sum c e h in
    let p = ap total (one_more zs n x) in
    let q = total-push (zs ++ replicate n x) x in
    omega (arith, ints)

pub length_next : (t : ℕ → ℕ) (v : ℕ → ℤ) (k : ℕ) → length (selected t v (k + 1)) ≡ length (selected t v k) + t k
length_next t v k = length-selected t v (k + 1) ∙ taken_in_next t k ∙ ap (λ n. n + t k) (sym (length-selected t v k))

-- what has been counted is at most what is counted in the end
pub selected_before : (t : ℕ → ℕ) (v : ℕ → ℤ) (k len : ℕ) → k < len → length (selected t v k) + t k ≤ taken_in t len
selected_before t v k len lt = subst (λ n. n + t k ≤ taken_in t len) (sym (length-selected t v k)) (taken_in_before t k len lt)

pub sum_next : (t : ℕ → ℕ) (v : ℕ → ℤ) (k bits low high : ℕ) → pos bits ≡ v k +ℤ pos (2 ^ 63)
    → pos (low + 4294967296 * high) ≡ total (selected t v k) +ℤ pos (length (selected t v k) * 2 ^ 63)
    → pos ((low + t k * (bits % 4294967296)) + 4294967296 * (high + t k * (bits / 4294967296))) ≡ total (selected t v (k + 1)) +ℤ pos (length (selected t v (k + 1)) * 2 ^ 63)
sum_next t v k bits low high e h =
    halves (t k) (selected t v k) (v k) bits low high (length (selected t v k)) e h
    ∙ ap (λ zs. total zs +ℤ pos ((length (selected t v k) + t k) * 2 ^ 63)) (sym (selected_next t v k))
    ∙ ap (λ n. total (selected t v (k + 1)) +ℤ pos (n * 2 ^ 63)) (sym (length_next t v k))

pub lifted_next : (t : ℕ → ℕ) (v : ℕ → ℤ) (k bits sum : ℕ) → pos bits ≡ v k +ℤ pos (2 ^ 40)
    → pos sum ≡ total (selected t v k) +ℤ pos (length (selected t v k) * 2 ^ 40)
    → pos (sum + t k * bits) ≡ total (selected t v (k + 1)) +ℤ pos (length (selected t v (k + 1)) * 2 ^ 40)
lifted_next t v k bits sum e h =
    lifts (t k) (selected t v k) (v k) bits sum (length (selected t v k)) e h
    ∙ ap (λ zs. total zs +ℤ pos ((length (selected t v k) + t k) * 2 ^ 40)) (sym (selected_next t v k))
    ∙ ap (λ n. total (selected t v (k + 1)) +ℤ pos (n * 2 ^ 40)) (sym (length_next t v k))

pub lifted_most : (t : ℕ → ℕ) (v : ℕ → ℤ) (k sum bits : ℕ) → bits ≤ 2 ^ 41 → sum ≤ length (selected t v k) * 2 ^ 41 → sum + t k * bits ≤ length (selected t v (k + 1)) * 2 ^ 41
lifted_most t v k sum bits a l =
    let m = mul-le-mul_left (t k) a in
    let n = length_next t v k in
    omega (arith, m, n, l)

pub half_next : (t : ℕ → ℕ) (v : ℕ → ℤ) (k low h : ℕ) → h ≤ 4294967295 → low ≤ length (selected t v k) * 4294967295 → low + t k * h ≤ length (selected t v (k + 1)) * 4294967295
half_next t v k low h a l =
    let m = mul-le-mul_left (t k) a in
    let n = length_next t v k in
    omega (arith, m, n, l)

-- ---- the greatest and the least

-- the greatest of the values; m where there are none
abbrev pub IsTop : ℤ → List ℤ → ℤ → Type 0
IsTop m [] b = b ≡ m
IsTop m (z ∷ zs) b = b ≡ greatest z zs

-- the least of the values; m where there are none
abbrev pub IsBottom : ℤ → List ℤ → ℤ → Type 0
IsBottom m [] b = b ≡ m
IsBottom m (z ∷ zs) b = b ≡ least z zs

greatest-push : (m : ℤ) (zs : List ℤ) (x : ℤ) → greatest m (zs ++ x ∷ []) ≡ larger (greatest m zs) x
greatest-push m [] x = refl
greatest-push m (z ∷ zs) x = greatest-push (larger m z) zs x

least-push : (m : ℤ) (zs : List ℤ) (x : ℤ) → least m (zs ++ x ∷ []) ≡ smaller (least m zs) x
least-push m [] x = refl
least-push m (z ∷ zs) x = least-push (smaller m z) zs x

top_one : (m x t : ℤ) (zs : List ℤ) → larger m x ≡ x → IsTop m zs t → IsTop m (zs ++ x ∷ []) (larger t x)
top_one m x t [] h e = ap (λ t. larger t x) e ∙ h
top_one m x t (z ∷ zs) h e = ap (λ t. larger t x) e ∙ sym (greatest-push z zs x)

bottom_one : (m x t : ℤ) (zs : List ℤ) → smaller m x ≡ x → IsBottom m zs t → IsBottom m (zs ++ x ∷ []) (smaller t x)
bottom_one m x t [] h e = ap (λ t. smaller t x) e ∙ h
bottom_one m x t (z ∷ zs) h e = ap (λ t. smaller t x) e ∙ sym (least-push z zs x)

larger-again : (t x : ℤ) → larger (larger t x) x ≡ larger t x
larger-again t x = grind (arith, ints)

smaller-again : (t x : ℤ) → smaller (smaller t x) x ≡ smaller t x
smaller-again t x = grind (arith, ints)

top_copies : (n : ℕ) (m x t : ℤ) (zs : List ℤ) → larger m x ≡ x → IsTop m zs t → IsTop m (zs ++ replicate (suc n) x) (larger t x)
top_copies zero m x t zs h e = top_one m x t zs h e
top_copies (suc n) m x t zs h e =
    subst (λ l. IsTop m l (larger t x)) (sym (one_more zs (suc n) x))
    (subst (IsTop m ((zs ++ replicate (suc n) x) ++ x ∷ [])) (larger-again t x) (top_one m x (larger t x) (zs ++ replicate (suc n) x) h (top_copies n m x t zs h e)))

bottom_copies : (n : ℕ) (m x t : ℤ) (zs : List ℤ) → smaller m x ≡ x → IsBottom m zs t → IsBottom m (zs ++ replicate (suc n) x) (smaller t x)
bottom_copies zero m x t zs h e = bottom_one m x t zs h e
bottom_copies (suc n) m x t zs h e =
    subst (λ l. IsBottom m l (smaller t x)) (sym (one_more zs (suc n) x))
    (subst (IsBottom m ((zs ++ replicate (suc n) x) ++ x ∷ [])) (smaller-again t x) (bottom_one m x (smaller t x) (zs ++ replicate (suc n) x) h (bottom_copies n m x t zs h e)))

top_step : (n : ℕ) (m x t : ℤ) (zs : List ℤ) → larger m x ≡ x → IsTop m zs t → IsTop m (zs ++ replicate n x) (cond (nat_lt 0 n) (larger t x) t)
top_step zero m x t zs h e = subst (λ l. IsTop m l t) (sym (append-nil zs)) e
top_step (suc n) m x t zs h e = subst (λ b. IsTop m (zs ++ replicate (suc n) x) (cond b (larger t x) t)) (sym (lt-ltb 0 (suc n) (omega arith))) (top_copies n m x t zs h e)

bottom_step : (n : ℕ) (m x t : ℤ) (zs : List ℤ) → smaller m x ≡ x → IsBottom m zs t → IsBottom m (zs ++ replicate n x) (cond (nat_lt 0 n) (smaller t x) t)
bottom_step zero m x t zs h e = subst (λ l. IsBottom m l t) (sym (append-nil zs)) e
bottom_step (suc n) m x t zs h e = subst (λ b. IsBottom m (zs ++ replicate (suc n) x) (cond b (smaller t x) t)) (sym (lt-ltb 0 (suc n) (omega arith))) (bottom_copies n m x t zs h e)

above_least : (x : ℤ) → SFits w64 x → larger (negsuc 9223372036854775807) x ≡ x
above_least x f = grind (arith, ints)

below_greatest : (x : ℤ) → SFits w64 x → smaller (pos 9223372036854775807) x ≡ x
below_greatest x f = grind (arith, ints)

pub top_next : (n : ℕ → ℕ) (v : ℕ → ℤ) (k : ℕ) (t : ℤ) → SFits w64 (v k) → IsTop (negsuc 9223372036854775807) (selected n v k) t → IsTop (negsuc 9223372036854775807) (selected n v (k + 1)) (cond (nat_lt 0 (n k)) (larger t (v k)) t)
top_next n v k t f h = subst (λ l. IsTop (negsuc 9223372036854775807) l (cond (nat_lt 0 (n k)) (larger t (v k)) t)) (sym (selected_next n v k)) (top_step (n k) _ (v k) t (selected n v k) (above_least (v k) f) h)

pub bottom_next : (n : ℕ → ℕ) (v : ℕ → ℤ) (k : ℕ) (t : ℤ) → SFits w64 (v k) → IsBottom (pos 9223372036854775807) (selected n v k) t → IsBottom (pos 9223372036854775807) (selected n v (k + 1)) (cond (nat_lt 0 (n k)) (smaller t (v k)) t)
bottom_next n v k t f h = subst (λ l. IsBottom (pos 9223372036854775807) l (cond (nat_lt 0 (n k)) (smaller t (v k)) t)) (sym (selected_next n v k)) (bottom_step (n k) _ (v k) t (selected n v k) (below_greatest (v k) f) h)

more_trues : (z : ℤ) (zs : List ℤ) → trues zs ≤ length zs → trues (z ∷ zs) ≤ suc (length zs)
more_trues z zs h = grind arith

pub few_trues : (zs : List ℤ) → trues zs ≤ length zs
few_trues [] = omega arith
few_trues (z ∷ zs) = more_trues z zs (few_trues zs)

every_more : (b : Bool) (n m : ℕ) → n ≤ m → b && nat_eq n m ≡ nat_eq (cond b 1 0 + n) (suc m)
every_more true n m h = elim (cases_eq n m) [
  | inl e ↦ eq-eqb n m e ∙ sym (eq-eqb (1 + n) (suc m) (omega arith))
  | inr e ↦ ne_eqb n m e ∙ sym (ne_eqb (1 + n) (suc m) (λ q. e (omega arith)))
]
every_more false n m h = sym (ne_eqb (0 + n) (suc m) (λ q. absurd (omega arith)))

pub every_trues : (zs : List ℤ) → every zs ≡ nat_eq (trues zs) (length zs)
every_trues [] = refl
every_trues (z ∷ zs) = ap (λ b. truth_of z && b) (every_trues zs) ∙ every_more (truth_of z) (trues zs) (length zs) (few_trues zs)

any_more : (b : Bool) (n : ℕ) → b || nat_lt 0 n ≡ nat_lt 0 (cond b 1 0 + n)
any_more true n = sym (lt-ltb 0 (1 + n) (omega arith))
any_more false n = ap (nat_lt 0) (omega arith)

pub any_trues : (zs : List ℤ) → any zs ≡ nat_lt 0 (trues zs)
any_trues [] = refl
any_trues (z ∷ zs) = ap (λ b. truth_of z || b) (any_trues zs) ∙ any_more (truth_of z) (trues zs)

pub keeps_every : (op : Aggregate) (r : Running) (zs : List ℤ) → op ≡ aggregates.Every → r.all ≡ every zs → Keeps op r zs
keeps_every op r zs o e = subst (λ op. Keeps op r zs) (sym o) e

pub keeps_any : (op : Aggregate) (r : Running) (zs : List ℤ) → op ≡ aggregates.Any → r.some ≡ any zs → Keeps op r zs
keeps_any op r zs o e = subst (λ op. Keeps op r zs) (sym o) e

-- ---- one more value of a list

pub total_more : (zs : List ℤ) (k : ℕ) → k < length zs → total (take (k + 1) zs) ≡ total (take k zs) +ℤ get_or zs k (pos 0)
total_more zs k lt = ap total (take_more zs k (pos 0) lt) ∙ total-push (take k zs) (get_or zs k (pos 0))

pub trues_more : (zs : List ℤ) (k : ℕ) → k < length zs → trues (take (k + 1) zs) ≡ trues (take k zs) + cond (truth_of (get_or zs k (pos 0))) 1 0
trues_more zs k lt = ap trues (take_more zs k (pos 0) lt) ∙ trues-push (take k zs) (get_or zs k (pos 0))

greatest_of-push : (zs : List ℤ) (b x : ℤ) → greatest_of zs ≡ Some b → greatest_of (zs ++ x ∷ []) ≡ Some (larger b x)
greatest_of-push [] b x e = absurd (cc)
greatest_of-push (z ∷ zs) b x e = let same : greatest z zs ≡ b = cc in ap Some (greatest-push z zs x ∙ ap (λ m. larger m x) same)

least_of-push : (zs : List ℤ) (b x : ℤ) → least_of zs ≡ Some b → least_of (zs ++ x ∷ []) ≡ Some (smaller b x)
least_of-push [] b x e = absurd (cc)
least_of-push (z ∷ zs) b x e = let same : least z zs ≡ b = cc in ap Some (least-push z zs x ∙ ap (λ m. smaller m x) same)

pub greatest_more : (zs : List ℤ) (k : ℕ) (b : ℤ) → k < length zs → greatest_of (take k zs) ≡ Some b → greatest_of (take (k + 1) zs) ≡ Some (larger b (get_or zs k (pos 0)))
greatest_more zs k b lt e = ap greatest_of (take_more zs k (pos 0) lt) ∙ greatest_of-push (take k zs) b (get_or zs k (pos 0)) e

pub least_more : (zs : List ℤ) (k : ℕ) (b : ℤ) → k < length zs → least_of (take k zs) ≡ Some b → least_of (take (k + 1) zs) ≡ Some (smaller b (get_or zs k (pos 0)))
least_more zs k b lt e = ap least_of (take_more zs k (pos 0) lt) ∙ least_of-push (take k zs) b (get_or zs k (pos 0)) e

-- the values of a list, each once
selected_front : (zs : List ℤ) (n : ℕ) → n ≤ length zs → selected (λ k. 1) (λ k. get_or zs k (pos 0)) n ≡ take n zs
selected_front zs zero le = refl
selected_front zs (suc n) le =
    let e : n + 1 ≡ suc n = omega arith in
    ap (λ l. l ++ get_or zs n (pos 0) ∷ []) (selected_front zs n (omega arith)) ∙ sym (take_more zs n (pos 0) (omega arith)) ∙ ap (λ k. take k zs) e

pub selected_all : (zs : List ℤ) → selected (λ k. 1) (λ k. get_or zs k (pos 0)) (length zs) ≡ zs
selected_all zs = selected_front zs (length zs) (omega arith) ∙ take_all (length zs) zs (omega arith)
