-- Loops that rewrite each element of a list in its place.
use Rattle.std.proofs.Common.{◌≡◌, ◌∙◌, ℕ, ◌+◌, ◌<◌, ap, ap₂, sym, subst, List, ◌++◌, arith, length, length-append, map, take, drop, set, get_or}
use Rattle.std.proofs.Math.ListN.{get_or-map}
use Rattle.std.proofs.lemmas.List.{length-map, map-set, get_or_default, take-map, drop-map, take-append-drop}
use Rattle.std.proofs.lemmas.List.Edits.{map_over_more}

keeps-length : {X : Type 0} (g : X → X) (xs : List X) (i : ℕ) → length (map g (take i xs) ++ drop i xs) ≡ length xs
keeps-length g xs i =
    length-append (map g (take i xs)) (drop i xs) ∙ ap (λ n. n + length (drop i xs)) (length-map (take i xs) g)
    ∙ sym (length-append (take i xs) (drop i xs)) ∙ ap length (take-append-drop i xs)

-- one more element is rewritten
pub mapped_more : {X : Type 0} (g : X → X) (xs ys : List X) (i : ℕ) (y d : X) → i < length xs
    → ys ≡ map g (take i xs) ++ drop i xs → y ≡ g (get_or ys i d) → set ys i y ≡ map g (take (i + 1) xs) ++ drop (i + 1) xs
mapped_more g xs ys i y d lt h is =
    let long : length ys ≡ length xs = ap length h ∙ keeps-length g xs i in
    ap (set ys i) is ∙ map_over_more g xs ys i (get_or ys i d) lt h (get_or_default ys i d _ (omega (arith, long)))

in-view : {X V : Type 0} (view : X → V) (g : V → V) (xs : List X) (i : ℕ)
    → map g (take i (map view xs)) ++ drop i (map view xs) ≡ map g (map view (take i xs)) ++ map view (drop i xs)
in-view view g xs i = ap₂ (λ p q. map g p ++ q) (take-map view i xs) (drop-map view i xs)

-- the same of what is seen of each element
pub viewed_more : {X V : Type 0} (view : X → V) (g : V → V) (xs ys : List X) (i : ℕ) (y d : X) → i < length xs
    → map view ys ≡ map g (map view (take i xs)) ++ map view (drop i xs) → view y ≡ g (view (get_or ys i d))
    → map view (set ys i y) ≡ map g (map view (take (i + 1) xs)) ++ map view (drop (i + 1) xs)
viewed_more view g xs ys i y d lt h is =
    map-set view ys i y
    ∙ mapped_more g (map view xs) (map view ys) i (view y) (view d) (subst (λ n. i < n) (sym (length-map xs view)) lt)
    (h ∙ sym (in-view view g xs i)) (is ∙ ap g (sym (get_or-map view ys i d)))
    ∙ in-view view g xs (i + 1)
