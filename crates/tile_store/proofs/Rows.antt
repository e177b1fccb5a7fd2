-- Rows of cells written one after another: a box with axes `a ∷ rest` has a row of cells for each coordinate of `a`.
use Rattle.std.proofs.Common.{◌≡◌, ◌≢◌, ℕ, ◌+◌, ◌-◌, ◌*◌, ◌<◌, ◌≤◌, ◌^◌, suc, Bool, true, false, List, [], ◌∷◌, length, get_or, drop, arith, rules, refl, ◌∙◌, ap, ◌⊎◌, inl, inr, ℤ, pos, ◌≤ℤ◌, ◌<ℤ◌, int_le, ◌==◌, if◌then◌else◌, suc-mul, mul-le-mul_right}
use Rattle.std.proofs.lemmas.Bool.Decides.{nat_tests}
use Rattle.std.proofs.lemmas.Int.{ints, by_lt_z}
use Rattle.std.proofs.lemmas.Bool.{cases_lt}
use Rattle.std.proofs.lemmas.List.{places, get_or-take, get_or-drop, length-take-le, length-drop}
use borrow.Rule.Slice.PartMut.{put_mid, mid_of}
use Rattle.arr_core.specs.declared.domain.Axis.{Axis}
use Rattle.arr_core.specs.Domains.{gap, size_of, count, IsInside, is_inside, rank_of}
use Rattle.tile_store.specs.declared.overlay.Common.{Common}
use Rattle.tile_store.specs.Overlays.{IsCommon, Overlaid, FirstIs, HasRun, KeepsBelow, KeepsFrom}
use Rattle.arr_core.proofs.Points.{place_below, count-rest, rank_of-lt-count}

le_yes : (x y : ℤ) → x ≤ℤ y → int_le x y ≡ true
le_yes x y h = grind (arith, ints)

le_no : (x y : ℤ) → y <ℤ x → int_le x y ≡ false
le_no x y h = grind (arith, ints)

-- whether a point is inside, by its first coordinate
abbrev pub Tells : Axis → List Axis → ℤ → List ℤ → Type 0
Tells b area x q =
    ((b.lo ≤ℤ x) × (x ≤ℤ b.hi) × (is_inside (b ∷ area) (x ∷ q) ≡ is_inside area q)) ⊎ (((x <ℤ b.lo) ⊎ (b.hi <ℤ x)) × (is_inside (b ∷ area) (x ∷ q) ≡ false))

pub inside_tells : (b : Axis) (area : List Axis) (x : ℤ) (q : List ℤ) → Tells b area x q
inside_tells b area x q =
    by_lt_z x b.lo (λ under. inr (inl under, rw (le_no b.lo x under) refl)) (λ low.
    by_lt_z b.hi x (λ over. inr (inr over, rw (le_yes b.lo x low, le_no x b.hi over) refl)) (λ high.
    inl (low, high, rw (le_yes b.lo x low, le_yes x b.hi high) refl)))

-- whether a point is inside
pub inside_cases : (area : List Axis) (q : List ℤ) → ((is_inside area q ≡ true) × IsInside area q) ⊎ ((is_inside area q ≡ false) × (IsInside area q → ⊥))
inside_cases [] [] = inl (refl, tt)
inside_cases [] (x ∷ q) = inr (refl, λ h. h)
inside_cases (b ∷ area) [] = inr (refl, λ h. h)
inside_cases (b ∷ area) (x ∷ q) = elim (inside_tells b area x q) [
  | inl t ↦ elim (inside_cases area q) [
    | inl h ↦ inl (t.2 ∙ h.0, (t.0, t.1, h.1))
    | inr e ↦ inr (t.2 ∙ e.0, λ h. e.1 h.2)
  ]
  | inr t ↦ inr (t.1, λ h. elim t.0 [ inl under ↦ (let low = h.0 in omega (arith, ints)) | inr over ↦ (let high = h.1 in omega (arith, ints)) ])
]

-- So many rows, from the row `first` on, have been written at the points that they have in common with another box;
-- the others are as before.
pub record RowsWritten (rest area : List Axis) (row first step : ℕ) (number : ℕ → List ℤ → ℤ) (old now : List ℤ) : Type 0 where
  pub written : (s : ℕ) (q : List ℤ) → IsInside rest q → s < step → get_or now ((first + s) * row + rank_of rest q) (pos 0) ≡ (if is_inside area q then number s q else get_or old ((first + s) * row + rank_of rest q) (pos 0))
  pub others : (r : ℕ) (q : List ℤ) → IsInside rest q → (first ≤ r → r < first + step → ⊥) → get_or now (r * row + rank_of rest q) (pos 0) ≡ get_or old (r * row + rank_of rest q) (pos 0)

-- another row keeps its cells while a row is replaced
other_row : (r s row j : ℕ) (xs piece : List ℤ) → j < row → length piece ≡ row → s * row + row ≤ length xs → r ≢ s → get_or (put_mid (s * row) row xs piece) (r * row + j) (pos 0) ≡ get_or xs (r * row + j) (pos 0)
other_row r s row j xs piece h size within ne = elim (cases_lt r s) [
  | inl lt ↦ (let before : r * row + j < s * row = place_below r s row j lt h in search (rules, places))
  | inr ge ↦ (let behind : s * row + row ≤ r * row + j = omega (arith, mul-le-mul_right row (let more : suc s ≤ r = omega arith in more), suc-mul s row) in search (rules, places))
]

this_row : (at row j : ℕ) (xs piece : List ℤ) → j < row → length piece ≡ row → at + row ≤ length xs → get_or (put_mid at row xs piece) (at + j) (pos 0) ≡ get_or piece j (pos 0)
this_row at row j xs piece h size within = search (rules, places)

-- one more row, where a part of the cells was lent and came back
pub rows_step : (rest area : List Axis) (row first step len : ℕ) (number : ℕ → List ℤ → ℤ) (old now piece : List ℤ) → row ≡ count rest → RowsWritten rest area row first step number old now
    → (first + step) * row + row ≤ length now → len ≡ row → length piece ≡ row → Overlaid rest area (number step) (mid_of ((first + step) * row) len now) piece
    → RowsWritten rest area row first (step + 1) number old (put_mid ((first + step) * row) len now piece)
rows_step rest area row first step len number old now piece is rows within len_is size overlaid =
    let below : (q : List ℤ) → IsInside rest q → rank_of rest q < row = λ q h. omega (arith, is, rank_of-lt-count rest q h) in
    rw len_is (record {
      written = λ s q h lt. elim (cases_lt s step) [
        | inl before ↦ other_row (first + s) (first + step) row (rank_of rest q) now piece (below q h) size within (λ e. absurd (omega arith)) ∙ rows.written s q h before
        | inr ge ↦
            let here : s ≡ step = omega arith in
            let j = rank_of rest q in
            let was : get_or (mid_of ((first + step) * row) len now) j (pos 0) ≡ get_or old ((first + step) * row + j) (pos 0) = get_or-take len (drop ((first + step) * row) now) j (pos 0) (omega (arith, below q h, len_is)) ∙ get_or-drop ((first + step) * row) now j (pos 0) ∙ rows.others (first + step) q h (λ a b. absurd (omega arith)) in
            rw here (this_row ((first + step) * row) row j now piece (below q h) size within ∙ overlaid q h ∙ ap (λ (z : ℤ). if is_inside area q then number step q else z) was)
      ];
      others = λ r q h out.
          other_row r (first + step) row (rank_of rest q) now piece (below q h) size within (λ e. out (omega arith) (omega arith)) ∙ rows.others r q h (λ a b. out a (omega arith));
    })

-- a box whose rows have all been written
rows_all : (a b : Axis) (rest area : List Axis) (c : Common) (at : ℕ) (number : ℕ → ℤ) (old new : List ℤ) → IsCommon a b c
    → RowsWritten rest area (count rest) c.to c.count (λ s q. number (at + (c.from + s) * count area + rank_of area q)) old new
    → Overlaid (a ∷ rest) (b ∷ area) (λ p. number (at + rank_of (b ∷ area) p)) old new
rows_all a b rest area c at number old new common rows [] h = absurd h
rows_all a b rest area c at number old new common rows (x ∷ q) h = elim (inside_tells b area x q) [
  | inl t ↦
      let within = common.all x h.0 h.1 t.0 t.1 in
      let only = common.only x h.0 h.1 within.0 within.1 in
      let s : ℕ = gap a.lo x - c.to in
      let place : c.to + s ≡ gap a.lo x = omega arith in
      let from : c.from + s ≡ gap b.lo x = omega arith in
      let sum : at + gap b.lo x * count area + rank_of area q ≡ at + (gap b.lo x * count area + rank_of area q) = omega arith in
      rw (t.2, ← sum) (rw (place, from) at (rows.written s q h.2 (omega arith)))
  | inr t ↦
      let out = λ (ge : c.to ≤ gap a.lo x) (lt : gap a.lo x < c.to + c.count).
      (let only = common.only x h.0 h.1 ge lt in let low = only.0 in let high = only.1 in absurd (elim t.0 [ inl under ↦ omega (arith, ints) | inr over ↦ omega (arith, ints) ])) in
      rows.others (gap a.lo x) q h.2 out ∙ rw t.1 refl
]

-- the same where the axes are taken apart
pub written_all : (to_axes axes rest area : List Axis) (a b : Axis) (c : Common) (to_row row at : ℕ) (number : ℕ → ℤ) (old new : List ℤ) → to_axes ≡ a ∷ rest → axes ≡ b ∷ area → to_row ≡ count rest → row ≡ count area → IsCommon a b c
    → RowsWritten rest area to_row c.to c.count (λ s q. number (at + (c.from + s) * row + rank_of area q)) old new → Overlaid to_axes axes (λ p. number (at + rank_of axes p)) old new
written_all to_axes axes rest area a b c to_row row at number old new to_is is to_row_is row_is common rows =
    rw (to_is, is) (rows_all a b rest area c at number old new common (rw (← to_row_is, ← row_is) rows))

empty_point : (q : List ℤ) → IsInside [] q → q ≡ []
empty_point [] h = refl
empty_point (x ∷ q) h = absurd h

line_cell : (i i' j j' : ℕ) (number : ℕ → ℤ) (new : List ℤ) → i ≡ i' → j ≡ j' → get_or new i (pos 0) ≡ number j → get_or new i' (pos 0) ≡ number j'
line_cell i i' j j' number new place from is = rw (← place, ← from) is

-- a single axis: a row has one cell
pub rows_of_line : (rest area : List Axis) (c : Common) (at : ℕ) (number : ℕ → ℤ) (old new : List ℤ) → rest ≡ [] → area ≡ [] → HasRun c (λ i. number (at + i)) new → KeepsBelow c.to old new → KeepsFrom (c.to + c.count) old new
    → RowsWritten rest area (count rest) c.to c.count (λ s q. number (at + (c.from + s) * count area + rank_of area q)) old new
rows_of_line rest area c at number old new none none' inside below above = rw (none, none') (record {
  written = λ s q h lt. rw (empty_point q h) (line_cell (c.to + s) ((c.to + s) * 1 + 0) (at + (c.to + s - c.to + c.from)) (at + (c.from + s) * 1 + 0) number new (omega arith) (omega arith) (inside (c.to + s) (omega arith) (omega arith)));
  others = λ r q h out. (let place : r ≡ r * 1 + 0 = omega arith in rw (← place) (elim (cases_lt r c.to) [
    | inl lt ↦ below r lt
    | inr ge ↦ above r (elim (cases_lt r (c.to + c.count)) [ inl lt ↦ absurd (out ge lt) | inr past ↦ past ])
  ]));
})

-- the first coordinates of an axis that are in common make whole rows of the cells
pub row_within : (a : Axis) (rest axes : List Axis) (row first many step size : ℕ) → axes ≡ a ∷ rest → row ≡ count rest → first + many ≤ size_of a → step < many → size ≡ count axes → (first + step) * row + row ≤ size
row_within a rest axes row first many step size is row_is within lt size_is =
    rw (size_is, is, ← row_is) (omega (arith, mul-le-mul_right row (let h : suc (first + step) ≤ size_of a = omega arith in h), suc-mul (first + step) row))

-- a part that was lent came back as long as it was
pub length_lent : (at len row : ℕ) (xs piece : List ℤ) → length piece ≡ length (mid_of at len xs) → len ≡ row → at + row ≤ length xs → length piece ≡ row
length_lent at len row xs piece same is within = same ∙ length-take-le len (drop at xs) (omega (arith, is, within, length-drop at xs)) ∙ is

-- the single cell of a box without axes
pub point_overlaid : (axes area : List Axis) (number : ℕ → ℤ) (at : ℕ) (wanted : Bool) (old new : List ℤ) → axes ≡ [] → wanted ≡ (length area == 0) → FirstIs wanted (number at) old new → Overlaid axes area (λ p. number (at + rank_of area p)) old new
point_overlaid axes [] number at wanted old new none is first = (let place : at + 0 ≡ at = omega arith in rw none (λ p h. rw (empty_point p h, place) (first ∙ rw is refl)))
point_overlaid axes (b ∷ area) number at wanted old new none is first = (let unwanted : wanted ≡ false = is ∙ grind (arith, nat_tests) in rw none (λ p h. rw (empty_point p h) (first ∙ rw unwanted refl)))

-- the cells of a line
pub line_count : (a : Axis) (rest axes : List Axis) → axes ≡ a ∷ rest → rest ≡ [] → count axes ≡ size_of a
line_count a rest axes is none = rw (is, none) (omega arith)

-- the rest of the axes have few points
pub rest_few : (a : Axis) (rest axes : List Axis) → axes ≡ a ∷ rest → count axes ≤ 2 ^ 24 → count rest ≤ 2 ^ 24
rest_few a rest axes is few = (let h : size_of a * count rest ≤ 2 ^ 24 = rw is at few in omega (arith, count-rest a rest, h))
