-- What lists of tiles have at a tile.
use Rattle.std.proofs.Common.{◌≡◌, ◌≢◌, ℕ, suc, ◌+◌, ◌<◌, ◌≤◌, Bool, true, false, cond, List, [], ◌∷◌, ◌++◌, length, get_or, refl, sym, ap, ap₂, subst, arith, All, Some, None, Result, Ok, Err, MatchResult, ◌==◌, ⊎_elim, ◌∙◌}
use Rattle.std.specs.List.Sorted.{IsSearchInRange, IsBinarySearchResult}
use Rattle.std.specs.Ordering.{nat_cmp}
use Rattle.std.proofs.lemmas.Bool.{cases_lt}
use Rattle.std.proofs.lemmas.Bool.Decides.{nat_tests}
use Rattle.std.proofs.lemmas.List.Elements.{All-head, All-tail}
use Rattle.std.proofs.lemmas.List.Recursion.{found_at as found_of, found_nowhere}
use Rattle.tile_index.specs.Index.{found_at, IsRising}
use Rattle.tile_index.specs.Moves.{IsBetween}
use Rattle.tile_index.proofs.Between.{few-between}

-- a pair of another tile does not matter
pub found-other : {X : Type 0} (t : ℕ) (x : ℕ × X) (xs ys : List (ℕ × X)) → t ≢ x.0 → found_at t (xs ++ x ∷ ys) ≡ found_at t (xs ++ ys)
found-other t x [] ys n = let other : (t == x.0) ≡ false = grind (arith, nat_tests) in rw other refl
found-other t x (y ∷ xs) ys n = ap (cond (t == y.0) (Some y.1)) (found-other t x xs ys n)

-- the pair of the tile stands after those of smaller tiles
pub found-here : {X : Type 0} (t n : ℕ) (v : X) (xs ys : List (ℕ × X)) → IsBetween n xs t → found_at t (xs ++ (t, v) ∷ ys) ≡ Some v
found-here t n v [] ys b = let same : (t == t) ≡ true = grind (arith, nat_tests) in rw same refl
found-here t n v (x ∷ xs) ys b =
    let below = few-between (suc x.0) t xs b.1 in
    let other : (t == x.0) ≡ false = grind (arith, nat_tests) in
    rw other (found-here t (suc x.0) v xs ys b.1)

-- and where none does there is nothing
pub found-none : {X : Type 0} (t n k m : ℕ) (xs ys : List (ℕ × X)) → IsBetween n xs t → t < k → IsBetween k ys m → found_at t (xs ++ ys) ≡ None
found-none t n k m [] [] b h c = refl
found-none t n k m [] (y ∷ ys) b h c =
    let low = c.0 in
    let other : (t == y.0) ≡ false = grind (arith, nat_tests) in
    rw other (found-none t n (suc y.0) m [] ys b (omega arith) c.1)
found-none t n k m (x ∷ xs) ys b h c =
    let below = few-between (suc x.0) t xs b.1 in
    let other : (t == x.0) ≡ false = grind (arith, nat_tests) in
    rw other (found-none t (suc x.0) k m xs ys b.1 h c)

-- the pair at a place of a rising list is found
pub found_of_place : {X : Type 0} (xs : List (ℕ × X)) (k : ℕ) (d : ℕ × X) → IsRising xs → k < length xs → found_at (get_or xs k d).0 xs ≡ Some (get_or xs k d).1
found_of_place xs k d r l =
    let t = (get_or xs k d).0 in
    found_of (found_at t) (λ x. t == x.0) (λ x. Some x.1) None refl (λ _ _. refl) xs k d l (λ j h. let below = r j k d h l in grind (arith, nat_tests)) (grind (arith, nat_tests))

-- what is found is one of the pairs
pub found_is : {X : Type 0} (P : ℕ × X → Type 0) (t : ℕ) (xs : List (ℕ × X)) (v : X) → All P xs → found_at t xs ≡ Some v → P (t, v)
found_is P t [] v a h = absurd (cc)
found_is {X = X} P t (x ∷ xs) v a h = at (t == x.0) refl h (found_is P t xs v (All-tail P x xs a))
  where
    at : (b : Bool) → (t == x.0) ≡ b → cond b (Some x.1) (found_at t xs) ≡ Some v → (found_at t xs ≡ Some v → P (t, v)) → P (t, v)
    at true e q rest =
        let tile : x.0 ≡ t = grind (arith, nat_tests) in
        let value : x.1 ≡ v = cc in
        subst P (ap₂ (λ (s : ℕ) (w : X). (s, w)) tile value) (All-head P x xs a)
    at false e q rest = rest q

-- fewer tiles than numbers where one of these is no tile
pub few_with_room : {X : Type 0} (n m free : ℕ) (xs : List (ℕ × X)) → IsBetween n xs m → n ≤ free → free < m → found_at free xs ≡ None → length xs + n < m
few_with_room n m free [] b l h e = omega arith
few_with_room n m free (x ∷ xs) b l h e = at (free == x.0) refl e (λ k. few_with_room (suc x.0) m free xs b.1 k h)
  where
    at : (c : Bool) → (free == x.0) ≡ c → cond c (Some x.1) (found_at free xs) ≡ None → (suc x.0 ≤ free → found_at free xs ≡ None → length xs + suc x.0 < m) → length (x ∷ xs) + n < m
    at true q f rest = absurd (cc)
    at false q f rest =
        let low = b.0 in
        let most = few-between (suc x.0) m xs b.1 in
        let other : free ≢ x.0 = grind (arith, nat_tests) in
        ⊎_elim (λ (k : x.0 < free). let more = rest k f in omega arith) (λ (k : free ≤ x.0). omega arith) (cases_lt x.0 free)

-- what a search by tile answers
pub searched : {X : Type 0} (t : ℕ) (xs ys : List (ℕ × X)) (d : ℕ × X) (r : Result ℕ ℕ) → xs ≡ ys → IsRising ys → IsSearchInRange r (length xs) → IsBinarySearchResult (λ x. nat_cmp x.0 t) xs r → MatchResult r (λ i. Some (get_or xs i d).1 ≡ found_at t ys) (λ _. None ≡ found_at t ys)
searched t xs ys d r e up l s = at r (rw (← e) at up) l s
  where
    at : (r : Result ℕ ℕ) → IsRising xs → IsSearchInRange r (length xs) → IsBinarySearchResult (λ x. nat_cmp x.0 t) xs r → MatchResult r (λ i. Some (get_or xs i d).1 ≡ found_at t ys) (λ _. None ≡ found_at t ys)
    at (Ok i) up l s =
        let same : (get_or xs i d).0 ≡ t = grind (arith, nat_tests, s d) in
        sym (found_of_place xs i d up l) ∙ ap (λ u. found_at u xs) same ∙ ap (found_at t) e
    at (Err i) up l s =
        let parts = s (λ j k f h m. let below = up j k f in grind (arith, nat_tests, below, λ (q : j ≡ k). ap (λ n. (get_or xs n f).0) q)) in
        sym (found_nowhere (found_at t) (λ x. t == x.0) (λ x. Some x.1) None refl (λ _ _. refl) xs d (λ k h. grind (arith, nat_tests, parts.0 k d, parts.1 k d))) ∙ ap (found_at t) e
