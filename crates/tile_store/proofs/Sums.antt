-- Sums over the tiles of an index, before and after some of them are exchanged.
use Rattle.std.proofs.Common.{◌≡◌, ◌≢◌, ℕ, zero, suc, ◌+◌, ◌-◌, ◌<◌, ◌≤◌, true, false, List, [], ◌∷◌, All, arith, refl, ap, Option, Some, None, unwrap_or, inl, inr, ◌∙◌, sum_by, ◌==◌}
use Rattle.std.proofs.lemmas.Bool.{cases_eq}
use Rattle.std.proofs.lemmas.Bool.Decides.{nat_tests}
use Rattle.std.proofs.lemmas.List.Elements.{All-head, All-tail}
use Rattle.std.proofs.lemmas.List.Folds.{fold-map}
use Rattle.std.proofs.lemmas.List.Sums.{sum_by-cons}
use Rattle.tile_index.specs.declared.entry.Entry.{Entry}
use Rattle.tile_index.specs.Index.{found_at, changed_at, IsRising}
use Rattle.tile_index.specs.Moves.{IsBetween}
use Rattle.tile_index.proofs.Between.{between-from, few-between}
use Rattle.tile_index.proofs.Found.{found-none}
use Rattle.tile_store.specs.Listing.{tiles_of}

-- the sum over the numbers below n
total : ℕ → (ℕ → ℕ) → ℕ
total zero f = 0
total (suc n) f = total n f + f n

total_zero : (n : ℕ) → total n (λ t. 0) ≡ 0
unfolding total
total_zero zero = refl
total_zero (suc n) = omega (arith, total_zero n)

total_sums : (n : ℕ) (a b c d : ℕ → ℕ) → ((t : ℕ) → t < n → a t + b t ≡ c t + d t) → total n a + total n b ≡ total n c + total n d
unfolding total
total_sums zero a b c d h = refl
total_sums (suc n) a b c d h = omega (arith, h n (omega arith), total_sums n a b c d (λ t lt. h t (omega arith)))

-- one number weighs more
total_more : (n x v : ℕ) (f g : ℕ → ℕ) → x < n → f x ≡ g x + v → ((t : ℕ) → t ≢ x → f t ≡ g t) → total n f ≡ total n g + v
unfolding total
total_more zero x v f g lt here others = absurd (omega (arith, lt))
total_more (suc n) x v f g lt here others = elim (cases_eq n x) [
  | inl e ↦ omega (arith, total_sums n f g g g (λ t below. ap (λ m. m + g t) (others t (λ q. absurd (omega arith)))), ap f e, ap g e)
  | inr ne ↦ omega (arith, total_more n x v f g (omega arith) here others, others n ne)
]

-- the weight of what is there, or 0
abbrev weigh : {X : Type 0} → (X → ℕ) → Option X → ℕ
weigh f None = 0
weigh f (Some x) = f x

pub found_here : {X : Type 0} (t : ℕ) (x : ℕ × X) (xs : List (ℕ × X)) → t ≡ x.0 → found_at t (x ∷ xs) ≡ Some x.1
found_here t x xs e = let test : (t == x.0) ≡ true = grind (arith, nat_tests) in rw test refl

pub found_there : {X : Type 0} (t : ℕ) (x : ℕ × X) (xs : List (ℕ × X)) → t ≢ x.0 → found_at t (x ∷ xs) ≡ found_at t xs
found_there t x xs ne = let test : (t == x.0) ≡ false = grind (arith, nat_tests) in rw test refl

-- tiles that rise, below a bound
abbrev pub Ranked : {X : Type 0} → ℕ → List (ℕ × X) → Type 0
Ranked n xs = IsBetween 0 xs n

pub ranked_from : {X : Type 0} (n : ℕ) (xs : List (ℕ × X)) → IsRising xs → All (λ (x : ℕ × X). x.0 < n) xs → Ranked n xs
ranked_from n xs r b = between-from 0 n xs (omega arith) (λ k d l. omega arith) b r

-- a list of tiles below a number has nothing at it
pub none_past : {X : Type 0} (n : ℕ) (xs : List (ℕ × X)) → All (λ (x : ℕ × X). x.0 < n) xs → found_at n xs ≡ None
none_past n [] h = refl
none_past {X = X} n (x ∷ xs) h =
    let low = All-head (λ (y : ℕ × X). y.0 < n) x xs h in
    found_there n x xs (λ e. omega arith) ∙ none_past n xs (All-tail (λ (y : ℕ × X). y.0 < n) x xs h)

-- a sum over the pairs of a rising list is one over all tiles below a bound, if no tile without a pair weighs
spread : {X : Type 0} (h : ℕ → Option X → ℕ) (m n : ℕ) (xs : List (ℕ × X)) → ((t : ℕ) → h t None ≡ 0) → IsBetween m xs n
    → sum_by (λ (x : ℕ × X). h x.0 (Some x.1)) xs ≡ total n (λ t. h t (found_at t xs))
spread h m n [] none ranked = omega (arith, total_zero n, total_sums n (λ t. h t None) (λ t. 0) (λ t. 0) (λ t. 0) (λ t lt. omega (arith, none t)))
spread {X = X} h m n (x ∷ xs) none ranked =
    let absent : found_at x.0 xs ≡ None = found-none x.0 0 (suc x.0) n [] xs (omega arith) (omega arith) ranked.1 in
    let below : x.0 < n = omega (arith, few-between (suc x.0) n xs ranked.1) in
    let here : h x.0 (found_at x.0 (x ∷ xs)) ≡ h x.0 (found_at x.0 xs) + h x.0 (Some x.1) = rw (found_here x.0 x xs refl, absent, none x.0) (omega arith) in
    let more = total_more n x.0 (h x.0 (Some x.1)) (λ t. h t (found_at t (x ∷ xs))) (λ t. h t (found_at t xs)) below here (λ t ne. ap (h t) (found_there t x xs ne)) in
    omega (arith, sum_by-cons (λ (y : ℕ × X). h y.0 (Some y.1)) x xs, spread h (suc x.0) n xs none ranked.1, more)

-- one tile, before and after
point : (v : Option Entry → ℕ) (was is : Option Entry) (change : Option (Option Entry)) → is ≡ unwrap_or change was → v is + weigh (λ c. v was) change ≡ v was + weigh v change
point v was is None e = omega (arith, ap v e)
point v was is (Some c) e = omega (arith, ap v e)

-- What the tiles of an index weigh after changes, and what the tiles weighed that were changed, is what the index
-- weighed before and what the changes weigh.
pub exchanged_sums : (v : Option Entry → ℕ) (n : ℕ) (old new : List (ℕ × Entry)) (changes : List (ℕ × Option Entry)) → v None ≡ 0
    → Ranked n old → Ranked n new → Ranked n changes → ((t : ℕ) → found_at t new ≡ changed_at t changes old)
    → sum_by (λ (x : ℕ × Entry). v (Some x.1)) new + sum_by (λ t. v (found_at t old)) (tiles_of changes) ≡ sum_by (λ (x : ℕ × Entry). v (Some x.1)) old + sum_by (λ (x : ℕ × Option Entry). v x.1) changes
exchanged_sums v n old new changes none a b c gives =
    let was = spread (λ t o. v o) 0 n old (λ t. none) a in
    let is = spread (λ t o. v o) 0 n new (λ t. none) b in
    let replaced = spread (λ t o. weigh (λ c. v (found_at t old)) o) 0 n changes (λ t. refl) c in
    let given = spread (λ t o. weigh v o) 0 n changes (λ t. refl) c in
    let sums = total_sums n (λ t. v (found_at t new)) (λ t. weigh (λ c. v (found_at t old)) (found_at t changes)) (λ t. v (found_at t old)) (λ t. weigh v (found_at t changes)) (λ t lt. point v (found_at t old) (found_at t new) (found_at t changes) (gives t)) in
    omega (arith, was, is, replaced, given, sums, fold-map (λ a t. a + v (found_at t old)) (λ (x : ℕ × Option Entry). x.0) 0 changes)

-- what changes replace weighs no more than the index
pub replaced_sums : (v : Option Entry → ℕ) (n : ℕ) (old : List (ℕ × Entry)) (changes : List (ℕ × Option Entry)) → v None ≡ 0 → Ranked n old → Ranked n changes
    → sum_by (λ t. v (found_at t old)) (tiles_of changes) ≤ sum_by (λ (x : ℕ × Entry). v (Some x.1)) old
replaced_sums v n old changes none a c =
    let was = spread (λ t o. v o) 0 n old (λ t. none) a in
    let replaced = spread (λ t o. weigh (λ c. v (found_at t old)) o) 0 n changes (λ t. refl) c in
    let less = total_sums n (λ t. weigh (λ c. v (found_at t old)) (found_at t changes)) (λ t. v (found_at t old) - weigh (λ c. v (found_at t old)) (found_at t changes)) (λ t. v (found_at t old)) (λ t. 0) (λ t lt. part (v (found_at t old)) (found_at t changes)) in
    omega (arith, was, replaced, less, total_zero n, fold-map (λ a t. a + v (found_at t old)) (λ (x : ℕ × Option Entry). x.0) 0 changes)
  where
    part : (n : ℕ) (change : Option (Option Entry)) → weigh (λ c. n) change + (n - weigh (λ c. n) change) ≡ n + 0
    part n None = omega arith
    part n (Some c) = omega arith
