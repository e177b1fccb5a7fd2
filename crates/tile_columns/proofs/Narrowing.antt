-- Domains of two axes with other coordinates of both.
use Rattle.std.proofs.Common.{◌≡◌, ℤ, ◌≤ℤ◌, List, [], ◌∷◌, ap, sym, ◌∙◌, subst, arith}
use Rattle.std.specs.Prelude.{slice_get, IsSomeAnd}
use Rattle.std.proofs.lemmas.Int.{ints}
use Rattle.arr_core.specs.declared.domain.Axis.{Axis}
use Rattle.arr_core.specs.Domains.{narrowed}
use Rattle.tile_columns.specs.declared.reach.Extents.{Extents}
use Rattle.tile_columns.specs.Reaching.{HasExtents, Encloses}

pub columns_there : (e : Extents) (axes : List Axis) (lo hi : ℤ) → Encloses axes e → lo ≡ e.columns.lo → hi ≡ e.columns.hi → IsSomeAnd (slice_get axes 1) (λ (a : Axis). (a.lo ≤ℤ lo) × (lo ≤ℤ hi) × (hi ≤ℤ a.hi))
columns_there e axes lo hi h l m =
    let low = h.are.column_lo in
    let high = h.are.column_hi in
    let part = h.column_part in
    let some = h.columns in
    subst (λ x. IsSomeAnd (slice_get x 1) (λ (a : Axis). (a.lo ≤ℤ lo) × (lo ≤ℤ hi) × (hi ≤ℤ a.hi))) (sym h.are.are)
    (omega (arith, ints, low, part.0, l), omega (arith, ints, some, l, m), omega (arith, ints, high, part.1, m))

across_are : (e : Extents) (axes across : List Axis) (lo hi : ℤ) (h : Encloses axes e) → across ≡ narrowed axes 1 lo hi → across ≡ h.are.first ∷ record h.are.second { lo = lo; hi = hi } ∷ []
across_are e axes across lo hi h is = is ∙ ap (λ x. narrowed x 1 lo hi) h.are.are

pub rows_there : (e : Extents) (axes across : List Axis) (lo hi clo chi : ℤ) → Encloses axes e → across ≡ narrowed axes 1 clo chi → lo ≡ e.rows.lo → hi ≡ e.rows.hi → IsSomeAnd (slice_get across 0) (λ (a : Axis). (a.lo ≤ℤ lo) × (lo ≤ℤ hi) × (hi ≤ℤ a.hi))
rows_there e axes across lo hi clo chi h is l m =
    let low = h.are.row_lo in
    let high = h.are.row_hi in
    let part = h.row_part in
    let some = h.rows in
    subst (λ x. IsSomeAnd (slice_get x 0) (λ (a : Axis). (a.lo ≤ℤ lo) × (lo ≤ℤ hi) × (hi ≤ℤ a.hi))) (sym (across_are e axes across clo chi h is))
    (omega (arith, ints, low, part.0, l), omega (arith, ints, some, l, m), omega (arith, ints, high, part.1, m))

pub narrowed_both : (e : Extents) (axes across area : List Axis) (lo hi clo chi : ℤ) → Encloses axes e → across ≡ narrowed axes 1 clo chi → area ≡ narrowed across 0 lo hi → lo ≡ e.rows.lo → hi ≡ e.rows.hi → clo ≡ e.columns.lo → chi ≡ e.columns.hi → HasExtents e area
narrowed_both e axes across area lo hi clo chi h is it l m cl cm = record {
  first = record h.are.first { lo = lo; hi = hi };
  second = record h.are.second { lo = clo; hi = chi };
  are = it ∙ ap (λ x. narrowed x 0 lo hi) (across_are e axes across clo chi h is);
  row_lo = l;
  row_hi = m;
  column_lo = cl;
  column_hi = cm;
  rows = h.rows;
  columns = h.columns;
}
