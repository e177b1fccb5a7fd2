-- Cells that are written at their places.
use Rattle.std.proofs.Common.{◌≡◌, ◌≢◌, ℕ, zero, suc, ◌+◌, ◌<◌, List, [], ◌∷◌, ◌++◌, length, get_or, set, map, refl, sym, ap, ◌∙◌, subst, arith, Some, ◌⊎◌, inl, inr, append_assoc, append-nil, length-append}
use Rattle.std.specs.Prelude.{slice_get}
use Rattle.std.proofs.lemmas.List.{map-append, get_or-append-add, get_or_append_left}
use Rattle.std.proofs.lemmas.Bool.{cases_lt}
use Rattle.std.proofs.lemmas.List.Elements.{All-append, All-cons, All-nil}
use Rattle.arr_core.specs.declared.cell.Cell.{Cell}
use Rattle.tile_exec.specs.Items.{AreWritten, AreWrittenTo, ArePlaced, places_written}

same_or : (m n : ℕ) → (m ≡ n) ⊎ (m ≢ n)
same_or m n = elim (cases_lt m n) [ inl h ↦ inr (λ e. absurd (omega (arith, e, h))) | inr h ↦ elim (cases_lt n m) [ inl k ↦ inr (λ e. absurd (omega (arith, e, k))) | inr k ↦ inl (omega arith) ] ]

slice_set_other : {X : Type 0} (xs : List X) (p k : ℕ) (x : X) → k ≢ p → slice_get (set xs p x) k ≡ slice_get xs k
slice_set_other [] zero zero x h = refl
slice_set_other [] zero (suc k) x h = refl
slice_set_other [] (suc p) zero x h = refl
slice_set_other [] (suc p) (suc k) x h = refl
slice_set_other (y ∷ xs) zero zero x h = absurd (h refl)
slice_set_other (y ∷ xs) zero (suc k) x h = refl
slice_set_other (y ∷ xs) (suc p) zero x h = refl
slice_set_other (y ∷ xs) (suc p) (suc k) x h = slice_set_other xs p k x (λ e. h (ap suc e))

slice_set_same : {X : Type 0} (xs : List X) (p : ℕ) (x : X) → p < length xs → slice_get (set xs p x) p ≡ Some x
slice_set_same [] p x h = absurd (omega arith)
slice_set_same (y ∷ xs) zero x h = refl
slice_set_same (y ∷ xs) (suc p) x h = slice_set_same xs p x (omega arith)

-- a cell as it shall be, written at its place, leaves those that are as they shall be
written_one : (all cells : List Cell) (p k : ℕ) (x : Cell) → p < length cells → slice_get all p ≡ Some x → (slice_get cells k ≡ slice_get all k) ⊎ (k ≡ p) → slice_get (set cells p x) k ≡ slice_get all k
written_one all cells p k x lt at h =
    let same : k ≡ p → slice_get (set cells p x) k ≡ slice_get all k = λ e.
    subst (λ k. slice_get (set cells p x) k ≡ slice_get all k) (sym e) (slice_set_same cells p x lt ∙ sym at) in
    elim (same_or k p) [ inl e ↦ same e | inr ne ↦ elim h [ inr e ↦ same e | inl before ↦ slice_set_other cells p k x ne ∙ before ] ]

pub written_more : (all cells : List Cell) (places : List ℕ) (p : ℕ) (x : Cell) → p < length cells → slice_get all p ≡ Some x → AreWritten all cells places → AreWritten all (set cells p x) (places ++ p ∷ [])
written_more all cells places p x lt at h =
    let P = λ (k : ℕ). slice_get (set cells p x) k ≡ slice_get all k in
    All-append P places (p ∷ []) (λ j d l. written_one all cells p (get_or places j d) x lt at (inl (h j d l)))
    (All-cons P p [] (written_one all cells p p x lt at (inr refl)) (All-nil P))

-- nothing is written
pub written_none : (cells : List Cell) → AreWrittenTo cells cells []
written_none cells all places placed was = subst (AreWritten all cells) (sym (append-nil places)) was

-- one cell is written
pub written_cell : (cells : List Cell) (p : ℕ) (x : Cell) → p < length cells → AreWrittenTo cells (set cells p x) ((p, x) ∷ [])
written_cell cells p x lt all places placed was = written_more all cells places p x lt (placed 0 (p, x) (omega arith)) was

placed_left : (all : List Cell) (xs ys : List (ℕ × Cell)) → ArePlaced all (xs ++ ys) → ArePlaced all xs
placed_left all xs ys h k d lt =
    let P : ℕ × Cell → Type 0 = λ w. slice_get all w.0 ≡ Some w.1 in
    subst P (get_or_append_left xs ys d k lt) (h k d (omega (arith, length-append xs ys)))

placed_right : (all : List Cell) (xs ys : List (ℕ × Cell)) → ArePlaced all (xs ++ ys) → ArePlaced all ys
placed_right all xs ys h k d lt =
    let P : ℕ × Cell → Type 0 = λ w. slice_get all w.0 ≡ Some w.1 in
    subst P (get_or-append-add xs ys k d) (h (length xs + k) d (omega (arith, length-append xs ys)))

-- cells are written, and then others
pub written_then : (before between after : List Cell) (xs ys : List (ℕ × Cell)) → AreWrittenTo before between xs → AreWrittenTo between after ys
    → AreWrittenTo before after (xs ++ ys)
written_then before between after xs ys first then all places placed was =
    let w = λ (w : ℕ × Cell). w.0 in
    let one = first all places (placed_left all xs ys placed) was in
    let both = then all (places ++ places_written xs) (placed_right all xs ys placed) one in
    subst (AreWritten all after) (append_assoc places (map w xs) (map w ys) ∙ ap (λ l. places ++ l) (sym (map-append w xs ys))) both

some_same : {X : Type 0} (x y : X) → Some x ≡ Some y → x ≡ y
some_same x y e = cc

-- where all places are written, the cells are as they shall be
pub all_written : (all cells : List Cell) → length cells ≡ length all → ((k : ℕ) → k < length all → slice_get cells k ≡ slice_get all k) → cells ≡ all
all_written [] [] n h = refl
all_written [] (c ∷ cells) n h = absurd (omega (arith, n))
all_written (a ∷ all) [] n h = absurd (omega (arith, n))
all_written (a ∷ all) (c ∷ cells) n h =
    let first : c ≡ a = some_same c a (h 0 (omega arith)) in
    ap (λ x. x ∷ cells) first ∙ ap (λ l. a ∷ l) (all_written all cells (omega (arith, n)) (λ k lt. h (suc k) (omega arith)))
