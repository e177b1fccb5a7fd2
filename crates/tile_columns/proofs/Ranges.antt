-- Lists made from a function of the place.
use Rattle.std.proofs.Common.{◌≡◌, ◌≢◌, ℕ, zero, suc, ◌+◌, ◌<◌, ◌≤◌, List, [], ◌∷◌, ◌++◌, length, get_or, set, take, map, refl, sym, ap, ◌∙◌, arith, below_more, get_or-set_same, get_or-set_other}
use Rattle.std.specs.List.{range_with_len}
use Rattle.std.proofs.lemmas.Option.{slice_get-get_or}
use Rattle.std.specs.Prelude.{replicate}
use Rattle.std.proofs.lemmas.List.{same_lists, length-map, get_or-map, map_more, length-replicate, get_or-replicate}
use Rattle.std.proofs.lemmas.List.FromFn.{get_or-map-range_with_len, length-map-range_with_len, fill_by_all, map-range_with_len_more}

pub map_map : {X Y Z : Type 0} (f : Y → Z) (g : X → Y) (xs : List X) → map f (map g xs) ≡ map (λ x. f (g x)) xs
map_map f g [] = refl
map_map f g (x ∷ xs) = ap (λ l. f (g x) ∷ l) (map_map f g xs)

-- two functions that agree below n
pub same_over : {X : Type 0} (f g : ℕ → X) (n : ℕ) → ((k : ℕ) → k < n → f k ≡ g k) → map f (range_with_len 0 n) ≡ map g (range_with_len 0 n)
same_over f g n h =
    let a = length-map-range_with_len f 0 n in
    let b = length-map-range_with_len g 0 n in
    same_lists (map f (range_with_len 0 n)) (map g (range_with_len 0 n)) (a ∙ sym b)
    (λ k d lt. let l : k < n = omega arith in get_or-map-range_with_len f 0 n k k d l (omega arith) ∙ h k l ∙ sym (get_or-map-range_with_len g 0 n k k d l (omega arith)))

-- a list, place by place
pub by_places : {X Y : Type 0} (f : X → Y) (xs : List X) (d : X) → map f xs ≡ map (λ k. f (get_or xs k d)) (range_with_len 0 (length xs))
by_places f xs d = fill_by_all (λ k. f (get_or xs k d)) (map f xs) (length xs) (f d) (length-map xs f) (λ k lt. get_or-map f xs k d (f d) lt)

-- one more place
pub one_more : {X : Type 0} (f : ℕ → X) (xs new : List X) (n : ℕ) (x : X) → new ≡ xs ++ x ∷ [] → x ≡ f n → xs ≡ map f (range_with_len 0 n) → new ≡ map f (range_with_len 0 (n + 1))
one_more f xs new n x e h i = e ∙ ap (λ l. l ++ x ∷ []) i ∙ ap (λ y. map f (range_with_len 0 n) ++ y ∷ []) h ∙ sym (map-range_with_len_more f 0 n n (omega arith))

-- all places
pub whole : {X Y : Type 0} (f : X → Y) (xs : List X) (d : X) (ys : List Y) (n : ℕ) → n ≡ length xs → ys ≡ map (λ k. f (get_or xs k d)) (range_with_len 0 n) → ys ≡ map f xs
whole f xs d ys n e h = h ∙ ap (λ m. map (λ k. f (get_or xs k d)) (range_with_len 0 m)) e ∙ sym (by_places f xs d)

pub at_same : {X : Type 0} (xs : List X) (i : ℕ) (d e : X) → i < length xs → get_or xs i d ≡ get_or xs i e
at_same xs i d e lt = let p = slice_get-get_or xs i d lt in let q = slice_get-get_or xs i e lt in cc

pub at_beyond : {X : Type 0} (xs : List X) (i : ℕ) (d : X) → length xs ≤ i → get_or xs i d ≡ d
at_beyond [] i d h = refl
at_beyond (x ∷ xs) zero d h = absurd (omega arith)
at_beyond (x ∷ xs) (suc i) d h = at_beyond xs i d (omega arith)

-- one more element
pub map_pushed : {X Y : Type 0} (f : X → Y) (xs : List X) (i : ℕ) (d : X) (o : Y) (column new : List Y) → i < length xs → o ≡ f (get_or xs i d) → new ≡ column ++ o ∷ [] → column ≡ map f (take i xs) → new ≡ map f (take (i + 1) xs)
map_pushed f xs i d o column new lt e n h = n ∙ ap (λ l. l ++ o ∷ []) h ∙ ap (λ z. map f (take i xs) ++ z ∷ []) e ∙ sym (map_more f xs i d lt)

-- one more element, which was written as a number of its own
pub value_pushed : {X Y : Type 0} (f : X → Y) (xs : List X) (i : ℕ) (d : X) (o z : Y) (column new : List Y) → i < length xs → new ≡ column ++ o ∷ [] → o ≡ z → z ≡ f (get_or xs i d) → column ≡ map f (take i xs) → new ≡ map f (take (i + 1) xs)
value_pushed f xs i d o z column new lt n e v h = map_pushed f xs i d o column new lt (e ∙ v) n h

-- one more number written
pub written_more : {X : Type 0} (f : ℕ → X) (all : List X) (place : ℕ) (x d : X) → place < length all → x ≡ f place → ((k : ℕ) → k < place → get_or all k d ≡ f k) → (k : ℕ) → k < place + 1 → get_or (set all place x) k d ≡ f k
written_more f all place x d lt e h = below_more (λ k. get_or (set all place x) k d ≡ f k) place
    (λ k l. let ne : k ≢ place = omega arith in get_or-set_other all place k x d ne ∙ h k l)
    (get_or-set_same all place x d lt ∙ e)

-- the same number at each place
pub map_same : {X Y : Type 0} (f : X → Y) (n : ℕ) (x : X) → map f (replicate n x) ≡ replicate n (f x)
map_same f n x =
    let l = length-replicate n x in
    fill_by_all (λ k. f x) (map f (replicate n x)) n (f x) (length-map (replicate n x) f ∙ l) (λ k lt. get_or-map f (replicate n x) k x (f x) (omega (arith, lt, l)) ∙ ap f (get_or-replicate n k x x lt))
    ∙ sym (fill_by_all (λ k. f x) (replicate n (f x)) n (f x) (length-replicate n (f x)) (λ k lt. get_or-replicate n k (f x) (f x) lt))
