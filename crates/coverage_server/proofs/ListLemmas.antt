-- Lists that grow by one, and places that were found.
use Rattle.std.proofs.Common.{◌≡◌, ℕ, ◌+◌, ◌<◌, Bool, true, false, List, [], ◌∷◌, ◌++◌, length, map, get_or, Some, None, refl, sym, ap, ◌∙◌, subst, arith, nat_lt}
use Rattle.std.specs.Prelude.{slice_get, position, take, All}
use Rattle.std.specs.List.{position_or_len}
use Rattle.std.proofs.lemmas.List.{take_more, map-append}
use Rattle.std.proofs.lemmas.List.Elements.{All-push}
use Rattle.std.proofs.lemmas.Option.{get_or_from_slice_get}
use borrow.Author.Tests.{ltb-true}

-- one point more
pub map_more : {X Y : Type 0} (f : X → Y) (xs : List X) (i : ℕ) (x : X) (ys : List Y) → ys ≡ map f (take i xs) → slice_get xs i ≡ Some x → i < length xs
    → ys ++ f x ∷ [] ≡ map f (take (i + 1) xs)
map_more f xs i x ys e at within =
    let last : get_or xs i x ≡ x = get_or_from_slice_get xs i x x at in
    ap (λ l. l ++ f x ∷ []) e ∙ sym (ap (map f) (take_more xs i x within) ∙ map-append f (take i xs) (get_or xs i x ∷ [])
    ∙ ap (λ y. map f (take i xs) ++ f y ∷ []) last)

-- one more of those that all have it
pub all_more : {X : Type 0} (P : X → Type 0) (xs : List X) (i : ℕ) (x : X) → i < length xs → slice_get xs i ≡ Some x → All P (take i xs) → P x
    → All P (take (i + 1) xs)
all_more P xs i x within at before here =
    let last : get_or xs i x ≡ x = get_or_from_slice_get xs i x x at in
    let whole : take i xs ++ x ∷ [] ≡ take (i + 1) xs = sym (take_more xs i x within ∙ ap (λ y. take i xs ++ y ∷ []) last) in
    subst (All P) whole (All-push P (take i xs) x before here)

-- a place that was found is one of the list
pub position_within : {X : Type 0} (p : X → Bool) (xs : List X) (i : ℕ) → position p xs ≡ Some i → i < length xs
position_within p xs i e = by_test (nat_lt (position_or_len p xs) (length xs)) refl
  where
    by_test : (b : Bool) → nat_lt (position_or_len p xs) (length xs) ≡ b → i < length xs
    by_test true t =
        let is : position p xs ≡ Some (position_or_len p xs) = rw t refl in
        let same : position_or_len p xs ≡ i = cc in
        let below : position_or_len p xs < length xs = ltb-true (position_or_len p xs) (length xs) t in omega arith
    by_test false t = let is : position p xs ≡ None = rw t refl in absurd cc
