-- How far windows reach along an axis.
use Rattle.std.specs.Prelude.{◌≡◌, ℕ, ◌+◌, ◌≤◌, ◌^◌, ℤ, pos, negsuc, ◌+ℤ◌, ◌≤ℤ◌, int_le, Bool, ◌&&◌, List, [], ◌∷◌, map}
use Rattle.std.specs.Int.{int_max, int_min}
use Rattle.std.specs.List.{range_with_len, filter, flat_map}
use Rattle.arr_core.specs.declared.domain.Axis.{Axis}
use Rattle.tile_kernel.specs.Windows.{in_span}
use Rattle.arr_core.specs.Domains.{gap}
use Rattle.plan_ir.specs.declared.body.Interval.{Interval}
use Rattle.plan_ir.specs.Placed.{LiesWithin}
use Rattle.tile_columns.specs.declared.reach.Extents.{Extents}
use Rattle.tile_columns.specs.declared.reach.Reach.{Reach}
use Rattle.tile_kernel.specs.declared.windows.Span.{Span}

-- whether a number lies from lo to hi
abbrev pub lies : ℤ → ℤ → ℤ → Bool
lies lo hi z = int_le lo z && int_le z hi

-- the numbers from lo to hi, rising
abbrev pub between : ℤ → ℤ → List ℤ
between lo hi = map (λ i. lo +ℤ pos i) (range_with_len 0 (gap lo hi + 1))

-- how many coordinates an interval has
abbrev pub extent : Interval → ℕ
extent i = gap i.lo i.hi + 1

-- the points of rows and columns, row by row
abbrev pub cross : List ℤ → List ℤ → List (List ℤ)
cross rows columns = flat_map (λ y. map (λ x. y ∷ x ∷ []) columns) rows

-- the numbers that lie from `from` to `to` away from z, those of them that lie from lo to hi
abbrev pub reached : ℤ → ℤ → ℤ → ℤ → ℤ → List ℤ
reached from to lo hi z = filter (lies lo hi) (map (λ u. z +ℤ u) (between from to))

-- the coordinates that the window of a place reads
abbrev pub reached_by : Reach → ℤ → List ℤ
reached_by r z = reached r.offsets.lo r.offsets.hi r.bounds.lo r.bounds.hi z

-- the coordinates at a span of places, where the first place is that of `base`
abbrev pub along : ℤ → Span → List ℤ
along base s = map (λ k. base +ℤ pos k) (in_span s)

-- spans are those of the places, one after the other
abbrev pub AreSpansOf : Reach → List Span → Type 0
AreSpansOf r spans = map (along r.halo.lo) spans ≡ map (reached_by r) (between r.places.lo r.places.hi)

-- a span of n places at most
abbrev pub EndsBy : ℕ → Span → Type 0
EndsBy n s = (s.from ≤ s.to) × (s.to ≤ n)

-- The halo has what the windows of all places read together, which is something; and no sum of a place and an offset is
-- large.
pub record IsReach (r : Reach) : Type 0 where
  pub places : r.places.lo ≤ℤ r.places.hi
  pub offsets : r.offsets.lo ≤ℤ r.offsets.hi
  pub low : r.halo.lo ≡ int_max (r.places.lo +ℤ r.offsets.lo) r.bounds.lo
  pub high : r.halo.hi ≡ int_min (r.places.hi +ℤ r.offsets.hi) r.bounds.hi
  pub some : r.halo.lo ≤ℤ r.halo.hi
  pub least : negsuc (2 ^ 32) ≤ℤ (r.places.lo +ℤ r.offsets.lo)
  pub most : (r.places.hi +ℤ r.offsets.hi) ≤ℤ pos (2 ^ 32)

-- axes are two, with these coordinates
pub record HasExtents (e : Extents) (axes : List Axis) : Type 0 where
  pub first : Axis
  pub second : Axis
  pub are : axes ≡ first ∷ second ∷ []
  pub row_lo : first.lo ≡ e.rows.lo
  pub row_hi : first.hi ≡ e.rows.hi
  pub column_lo : second.lo ≡ e.columns.lo
  pub column_hi : second.hi ≡ e.columns.hi
  pub rows : e.rows.lo ≤ℤ e.rows.hi
  pub columns : e.columns.lo ≤ℤ e.columns.hi

-- two axes have these coordinates, and others besides
pub record Encloses (axes : List Axis) (e : Extents) : Type 0 where
  pub whole : Extents
  pub are : HasExtents whole axes
  pub row_part : LiesWithin e.rows whole.rows
  pub column_part : LiesWithin e.columns whole.columns
  pub rows : e.rows.lo ≤ℤ e.rows.hi
  pub columns : e.columns.lo ≤ℤ e.columns.hi
