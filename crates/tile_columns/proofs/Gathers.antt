-- Cells that are gathered tile by tile.
use Rattle.std.proofs.Common.{◌≡◌, ◌≢◌, ℕ, zero, suc, ◌+◌, ◌<◌, ◌≤◌, inl, inr, List, [], ◌∷◌, ◌++◌, length, length-append, get_or, take, map, refl, sym, ap, ◌∙◌, subst, arith, ℤ, pos, cond, Bool, true, false}
use Rattle.std.specs.Prelude.{nat_eq, ◌||◌}
use Rattle.std.specs.List.{list_any}
use Rattle.std.proofs.lemmas.Bool.{false≢true}
use Rattle.std.proofs.lemmas.Bool.Decides.{eqb_tells}
use Rattle.std.proofs.lemmas.List.{take_more, length-map, same_lists, get_or-map}
use Rattle.std.proofs.lemmas.List.Folds.{list_any-append}
use Rattle.arr_core.specs.declared.domain.Axis.{Axis}
use Rattle.arr_core.specs.Domains.{points, count}
use Rattle.arr_core.proofs.Points.{length-points}
use Rattle.wcps_mean.specs.declared.cell.Outcome.TheVariants.{Value}
use Rattle.plan_ir.specs.declared.body.Index.{Index}
use Rattle.plan_ir.specs.Run.{numbers_at}
use Rattle.plan_ir.specs.Units.{added, distinct_after, distinct}
use Rattle.tile_columns.specs.Gathering.{IsSeen}
use Rattle.tile_columns.proofs.Ranges.{at_same, map_map}

-- the wanted cells stand at the places whose tile has been seen
abbrev pub Gathered : List ℕ → List ℕ → (ℕ → ℤ) → List ℤ → Type 0
Gathered seen numbers want cells = (j : ℕ) → j < length numbers → IsSeen seen (get_or numbers j 0) → get_or cells j (pos 0) ≡ want j

-- the wanted cells stand at those of the first n places whose tile is this one
abbrev pub IsCopied : ℕ → ℕ → List ℕ → (ℕ → ℤ) → List ℤ → Type 0
IsCopied tile n numbers want cells = (j : ℕ) → j < n → get_or numbers j 0 ≡ tile → get_or cells j (pos 0) ≡ want j

-- at those whose tile is another one the cells are as before
abbrev pub LeavesOthers : ℕ → ℕ → List ℕ → List ℤ → List ℤ → Type 0
LeavesOthers tile n numbers before cells = (j : ℕ) → j < n → get_or numbers j 0 ≢ tile → get_or cells j (pos 0) ≡ get_or before j (pos 0)

equal_self : (n : ℕ) → nat_eq n n ≡ true
equal_self n = elim (eqb_tells n n) [ inl h ↦ h.0 | inr h ↦ absurd (h.1 refl) ]

or_left : (a b : Bool) → a ≡ true → (a || b) ≡ true
or_left a b e = ap (λ x. x || b) e

or_right : (a b : Bool) → b ≡ true → (a || b) ≡ true
or_right true b e = refl
or_right false b e = e

or_cancel : (a b : Bool) → b ≡ false → (a || (b || false)) ≡ true → a ≡ true
or_cancel true b e h = refl
or_cancel false b e h = absurd (false≢true (sym (ap (λ x. x || false) e) ∙ h))

seen_before : (seen : List ℕ) (m n : ℕ) → IsSeen seen n → IsSeen (seen ++ m ∷ []) n
seen_before seen m n h = list_any-append (λ k. nat_eq k n) seen (m ∷ []) ∙ or_left (list_any (λ k. nat_eq k n) seen) (list_any (λ k. nat_eq k n) (m ∷ [])) h

seen_now : (seen : List ℕ) (n : ℕ) → IsSeen (seen ++ n ∷ []) n
seen_now seen n = list_any-append (λ k. nat_eq k n) seen (n ∷ []) ∙ or_right (list_any (λ k. nat_eq k n) seen) (list_any (λ k. nat_eq k n) (n ∷ [])) (or_left (nat_eq n n) false (equal_self n))

added_keeps : (seen : List ℕ) (m n : ℕ) (b : Bool) → IsSeen seen n → IsSeen (cond b seen (seen ++ m ∷ [])) n
added_keeps seen m n true h = h
added_keeps seen m n false h = seen_before seen m n h

added_has : (seen : List ℕ) (m : ℕ) (b : Bool) → list_any (λ k. nat_eq k m) seen ≡ b → IsSeen (cond b seen (seen ++ m ∷ [])) m
added_has seen m true h = h
added_has seen m false h = seen_now seen m

stays_seen : (seen ns : List ℕ) (n : ℕ) → IsSeen seen n → IsSeen (distinct_after seen ns) n
stays_seen seen [] n h = h
stays_seen seen (m ∷ ns) n h = stays_seen (added seen m) ns n (added_keeps seen m n (list_any (λ k. nat_eq k m) seen) h)

all_seen_after : (seen ns : List ℕ) (j : ℕ) → j < length ns → IsSeen (distinct_after seen ns) (get_or ns j 0)
all_seen_after seen [] j lt = absurd (omega arith)
all_seen_after seen (m ∷ ns) zero lt = stays_seen (added seen m) ns m (added_has seen m (list_any (λ k. nat_eq k m) seen) refl)
all_seen_after seen (m ∷ ns) (suc j) lt = all_seen_after (added seen m) ns j (omega arith)

-- each number is among the different ones
pub all_seen : (ns : List ℕ) (j : ℕ) → j < length ns → IsSeen (distinct ns) (get_or ns j 0)
all_seen ns j lt = all_seen_after [] ns j lt

distinct_more : (seen ns : List ℕ) (n : ℕ) → distinct_after seen (ns ++ n ∷ []) ≡ added (distinct_after seen ns) n
distinct_more seen [] n = refl
distinct_more seen (m ∷ ns) n = distinct_more (added seen m) ns n

-- one more number
pub distinct_step : (ns seen new : List ℕ) (i : ℕ) → i < length ns → new ≡ added seen (get_or ns i 0) → seen ≡ distinct (take i ns) → new ≡ distinct (take (i + 1) ns)
distinct_step ns seen new i lt e h = e ∙ ap (λ l. added l (get_or ns i 0)) h ∙ sym (distinct_more [] (take i ns) (get_or ns i 0)) ∙ ap distinct (sym (take_more ns i 0 lt))

pub added_new : (seen : List ℕ) (n : ℕ) → list_any (λ m. nat_eq m n) seen ≡ false → seen ++ n ∷ [] ≡ added seen n
added_new seen n h = ap (λ b. cond b seen (seen ++ n ∷ [])) (sym h)

-- of a list with one more number that is not this one
seen_less : (seen : List ℕ) (m n : ℕ) → nat_eq m n ≡ false → IsSeen (seen ++ m ∷ []) n → IsSeen seen n
seen_less seen m n e h = or_cancel (list_any (λ k. nat_eq k n) seen) (nat_eq m n) e (sym (list_any-append (λ k. nat_eq k n) seen (m ∷ [])) ∙ h)

-- the cells of one more tile
pub gathered_more : (seen new numbers : List ℕ) (m tile : ℕ) (want : ℕ → ℤ) (before cells : List ℤ) → length numbers ≡ m → new ≡ seen ++ tile ∷ [] → IsCopied tile m numbers want cells → LeavesOthers tile m numbers before cells → Gathered seen numbers want before → Gathered new numbers want cells
gathered_more seen new numbers m tile want before cells n e copied others h = λ j lt s.
    elim (eqb_tells tile (get_or numbers j 0)) [
      | inl t ↦ copied j (omega arith) (sym t.1)
      | inr t ↦ others j (omega arith) (λ q. t.1 (sym q)) ∙ h j lt (seen_less seen tile (get_or numbers j 0) t.0 (subst (λ l. IsSeen l (get_or numbers j 0)) e s))
    ]

-- all cells, once all tiles have been seen
pub all_gathered : {X : Type 0} (seen numbers : List ℕ) (xs : List X) (d : X) (f : X → ℤ) (cells : List ℤ) → seen ≡ distinct numbers → length numbers ≡ length xs → length cells ≡ length xs → Gathered seen numbers (λ j. f (get_or xs j d)) cells → cells ≡ map f xs
all_gathered seen numbers xs d f cells e n m h =
    same_lists cells (map f xs) (m ∙ sym (length-map xs f)) (λ k z lt.
    let l : k < length xs = omega arith in
    at_same cells k z (pos 0) lt
    ∙ h k (omega arith) (subst (λ s. IsSeen s (get_or numbers k 0)) (sym e) (all_seen numbers k (omega arith)))
    ∙ sym (get_or-map f xs k d z l))

-- the number of a place
pub number_of_place : {X : Type 0} (f : X → ℕ) (xs : List X) (d : X) (numbers : List ℕ) (n place : ℕ) → numbers ≡ map f xs → n ≡ get_or numbers place n → place < length xs → n ≡ f (get_or xs place d)
number_of_place f xs d numbers n place e h lt = h ∙ ap (λ l. get_or l place n) e ∙ get_or-map f xs place d n lt

-- ---- a column that is one tile

added_grows : (seen : List ℕ) (n : ℕ) (b : Bool) → length seen ≤ length (cond b seen (seen ++ n ∷ []))
added_grows seen n true = omega arith
added_grows seen n false = omega (arith, length-append seen (n ∷ []))

pub grows : (seen ns : List ℕ) → length seen ≤ length (distinct_after seen ns)
grows seen [] = omega arith
grows seen (n ∷ ns) = omega (arith, grows (added seen n) ns, added_grows seen n (list_any (λ m. nat_eq m n) seen))

-- a list that is not empty has a number
pub distinct_some : (ns : List ℕ) → 0 < length ns → 1 ≤ length (distinct ns)
distinct_some [] h = absurd (omega arith)
distinct_some (n ∷ ns) h = grows (n ∷ []) ns

-- the cells of a tile are those that the indexes give
pub whole_column : (envs : List (List ℤ)) (is : List Index) (box : List Axis) (s : List ℤ → ℤ) → map (λ e. numbers_at e is) envs ≡ points box → map (λ q. Value (s q)) (points box) ≡ map (λ e. Value (s (numbers_at e is))) envs
whole_column envs is box s w = ap (map (λ q. Value (s q))) (sym w) ∙ map_map (λ q. Value (s q)) (λ e. numbers_at e is) envs

pub whole_places : (envs : List (List ℤ)) (is : List Index) (box : List Axis) (n : ℕ) → map (λ e. numbers_at e is) envs ≡ points box → n ≡ count box → n ≡ length envs
whole_places envs is box n w e = e ∙ sym (length-points box) ∙ ap length (sym w) ∙ length-map envs (λ e. numbers_at e is)
