-- Spans of a halo.
use Rattle.std.proofs.Common.{◌≡◌, ◌≤ℤ◌, ◌<ℤ◌, ◌+ℤ◌, ℕ, ◌+◌, ◌≤◌, arith, ℤ, pos, subst, refl, sym, ap, ◌∙◌, zero, suc, List, [], ◌∷◌, ◌++◌, map}
use Rattle.std.specs.Int.{int_max, int_min}
use Rattle.std.specs.List.{range_with_len, All}
use Rattle.std.proofs.lemmas.Int.{ints, clamps}
use Rattle.std.proofs.lemmas.List.FromFn.{map-range_with_len_more}
use Rattle.std.proofs.lemmas.List.Elements.{All-append}
use Rattle.tile_columns.specs.declared.reach.Reach.{Reach}
use Rattle.tile_kernel.specs.declared.windows.Span.{Span}
use Rattle.tile_columns.specs.Reaching.{IsReach, between, reached_by, along, extent, EndsBy}
use Rattle.tile_columns.proofs.Lying.{spanned, spanned_none}

-- what the window of a place has of the bounds lies in the halo
pub from_halo : (r : Reach) (p first : ℤ) → IsReach r → r.places.lo ≤ℤ p → first ≡ int_max (p +ℤ r.offsets.lo) r.bounds.lo → r.halo.lo ≤ℤ first
from_halo r p first h l e = let a = h.low in omega (arith, ints, clamps)

pub to_halo : (r : Reach) (p last : ℤ) → IsReach r → p ≤ℤ r.places.hi → last ≡ int_min (p +ℤ r.offsets.hi) r.bounds.hi → last ≤ℤ r.halo.hi
to_halo r p last h l e = let a = h.high in omega (arith, ints, clamps)

pub no_span : (r : Reach) (p first last : ℤ) → IsReach r → first ≡ int_max (p +ℤ r.offsets.lo) r.bounds.lo → last ≡ int_min (p +ℤ r.offsets.hi) r.bounds.hi → last <ℤ first → [] ≡ reached_by r p
no_span r p first last h f l lt =
    let a = h.low in
    let b = h.high in
    let s = h.some in
    let bounds : r.bounds.lo ≤ℤ r.bounds.hi = omega (arith, ints, clamps, a, b, s) in
    let none : int_min (p +ℤ r.offsets.hi) r.bounds.hi <ℤ int_max (p +ℤ r.offsets.lo) r.bounds.lo = subst (λ x. x <ℤ int_max (p +ℤ r.offsets.lo) r.bounds.lo) l (subst (λ y. last <ℤ y) f lt) in
    sym (spanned_none r.offsets.lo r.offsets.hi r.bounds.lo r.bounds.hi p h.offsets bounds none)

pub some_span : (r : Reach) (p first last : ℤ) (from to : ℕ) → IsReach r → first ≡ int_max (p +ℤ r.offsets.lo) r.bounds.lo → last ≡ int_min (p +ℤ r.offsets.hi) r.bounds.hi → first ≤ℤ last
    → r.halo.lo +ℤ pos from ≡ first → r.halo.lo +ℤ pos to ≡ last → along r.halo.lo (record { from = from; to = to + 1 }) ≡ reached_by r p
some_span r p first last from to h f l le a b =
    let order : from ≤ to + 1 = omega (arith, ints, a, b, le) in
    let next : r.halo.lo +ℤ pos (to + 1) ≡ int_min (p +ℤ r.offsets.hi) r.bounds.hi +ℤ pos 1 = omega (arith, ints, b, l) in
    sym (spanned r.offsets.lo r.offsets.hi r.bounds.lo r.bounds.hi p r.halo.lo from (to + 1) h.offsets order (a ∙ f) next)

pub span_within : (r : Reach) (first last : ℤ) (from to : ℕ) → first ≤ℤ last → last ≤ℤ r.halo.hi → r.halo.lo +ℤ pos from ≡ first → r.halo.lo +ℤ pos to ≡ last → EndsBy (extent r.halo) (record { from = from; to = to + 1 })
span_within r first last from to le h a b = (omega (arith, ints, le, a, b), omega (arith, ints, h, b))

map_then : {X Y : Type 0} (f : X → Y) (xs : List X) (x : X) → map f (xs ++ x ∷ []) ≡ map f xs ++ f x ∷ []
map_then f [] x = refl
map_then f (y ∷ xs) x = ap (λ l. f y ∷ l) (map_then f xs x)

-- one more span
pub span_more : (r : Reach) (spans new : List Span) (s : Span) (p : ℤ) (step : ℕ) → new ≡ spans ++ s ∷ [] → p ≡ r.places.lo +ℤ pos step → along r.halo.lo s ≡ reached_by r p
    → map (along r.halo.lo) spans ≡ map (λ k. reached_by r (r.places.lo +ℤ pos k)) (range_with_len 0 step)
    → map (along r.halo.lo) new ≡ map (λ k. reached_by r (r.places.lo +ℤ pos k)) (range_with_len 0 (step + 1))
span_more r spans new s p step n e a h =
    ap (map (along r.halo.lo)) n ∙ map_then (along r.halo.lo) spans s
    ∙ ap (λ l. l ++ along r.halo.lo s ∷ []) h
    ∙ ap (λ x. map (λ k. reached_by r (r.places.lo +ℤ pos k)) (range_with_len 0 step) ++ x ∷ []) (a ∙ ap (reached_by r) e)
    ∙ sym (map-range_with_len_more (λ k. reached_by r (r.places.lo +ℤ pos k)) 0 step step (omega arith))

map_map : {X Y Z : Type 0} (f : Y → Z) (g : X → Y) (xs : List X) → map f (map g xs) ≡ map (λ x. f (g x)) xs
map_map f g [] = refl
map_map f g (x ∷ xs) = ap (λ l. f (g x) ∷ l) (map_map f g xs)

pub all_spans : (r : Reach) (spans : List Span) (step : ℕ) → step ≡ extent r.places → map (along r.halo.lo) spans ≡ map (λ k. reached_by r (r.places.lo +ℤ pos k)) (range_with_len 0 step)
    → map (along r.halo.lo) spans ≡ map (reached_by r) (between r.places.lo r.places.hi)
all_spans r spans step e h =
    h ∙ ap (λ n. map (λ k. reached_by r (r.places.lo +ℤ pos k)) (range_with_len 0 n)) e
    ∙ sym (map_map (reached_by r) (λ k. r.places.lo +ℤ pos k) (range_with_len 0 (extent r.places)))

pub ends_more : (n : ℕ) (spans new : List Span) (s : Span) → new ≡ spans ++ s ∷ [] → EndsBy n s → All (EndsBy n) spans → All (EndsBy n) new
ends_more n spans new s e w h = subst (All (EndsBy n)) (sym e) (All-append (EndsBy n) spans (s ∷ []) h (one s w))
  where
    one : (s : Span) → EndsBy n s → All (EndsBy n) (s ∷ [])
    one s w zero d lt = w
    one s w (suc k) d lt = absurd (omega (arith, lt))
