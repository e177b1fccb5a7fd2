-- Lists of pairs whose tiles rise between two numbers.
use Rattle.std.proofs.Common.{ℕ, zero, suc, ◌+◌, ◌<◌, ◌≤◌, List, [], ◌∷◌, ◌++◌, length, get_or, arith, All}
use Rattle.tile_index.specs.Index.{IsRising}
use Rattle.tile_index.specs.Moves.{IsBetween}

pub between-from : {X : Type 0} (n m : ℕ) (xs : List (ℕ × X)) → n ≤ m → All (λ (x : ℕ × X). n ≤ x.0) xs → All (λ (x : ℕ × X). x.0 < m) xs → IsRising xs → IsBetween n xs m
between-from n m [] h low high r = h
between-from n m (x ∷ xs) h low high r =
    (low 0 x (omega arith), between-from (suc x.0) m xs (high 0 x (omega arith)) (λ k d l. r 0 (suc k) d (omega arith) (omega arith)) (λ k d l. high (suc k) d (omega arith)) (λ i j d l k. r (suc i) (suc j) d (omega arith) (omega arith)))

-- each of the tiles
pub each-between : {X : Type 0} (n m : ℕ) (xs : List (ℕ × X)) (k : ℕ) (d : ℕ × X) → IsBetween n xs m → k < length xs → n ≤ (get_or xs k d).0
each-between n m [] k d b h = absurd (omega arith)
each-between n m (x ∷ xs) zero d b h = b.0
each-between n m (x ∷ xs) (suc k) d b h = let first = b.0 in omega (arith, each-between (suc x.0) m xs k d b.1 (omega arith))

pub rising-between : {X : Type 0} (n m : ℕ) (xs : List (ℕ × X)) → IsBetween n xs m → IsRising xs
rising-between n m [] b i j d l h = absurd (omega arith)
rising-between n m (x ∷ xs) b i zero d l h = absurd (omega arith)
rising-between n m (x ∷ xs) b zero (suc j) d l h = each-between (suc x.0) m xs j d b.1 (omega arith)
rising-between n m (x ∷ xs) b (suc i) (suc j) d l h = rising-between (suc x.0) m xs b.1 i j d (omega arith) (omega arith)

-- wider bounds
pub between-wider : {X : Type 0} (k n m j : ℕ) (xs : List (ℕ × X)) → k ≤ n → m ≤ j → IsBetween n xs m → IsBetween k xs j
between-wider k n m j [] h l b = omega arith
between-wider k n m j (x ∷ xs) h l b = (let low = b.0 in omega arith, between-wider (suc x.0) (suc x.0) m j xs (omega arith) l b.1)

pub between-append : {X : Type 0} (n k m : ℕ) (xs ys : List (ℕ × X)) → IsBetween n xs k → IsBetween k ys m → IsBetween n (xs ++ ys) m
between-append n k m [] ys b c = between-wider n k m m ys b (omega arith) c
between-append n k m (x ∷ xs) ys b c = (b.0, between-append (suc x.0) k m xs ys b.1 c)

-- what comes before the last pair
pub between-last : {X : Type 0} (n m : ℕ) (xs : List (ℕ × X)) (x : ℕ × X) → IsBetween n (xs ++ x ∷ []) m → IsBetween n xs x.0 × (x.0 < m)
between-last n m [] x b = b
between-last n m (y ∷ ys) x b = let rest = between-last (suc y.0) m ys x b.1 in ((b.0, rest.0), rest.1)

-- no more tiles than numbers between, and fewer where one of these is no tile
pub few-between : {X : Type 0} (n m : ℕ) (xs : List (ℕ × X)) → IsBetween n xs m → length xs + n ≤ m
few-between n m [] b = omega arith
few-between n m (x ∷ xs) b = let low = b.0 in omega (arith, few-between (suc x.0) m xs b.1)
