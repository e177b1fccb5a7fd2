-- Where the points of indexes stand at the places of a frame: the numbers of their tiles, and their ranks in these.
use Rattle.std.specs.Prelude.{◌≡◌, ℕ, ◌+◌, ◌-◌, ◌*◌, ◌/◌, ◌<◌, ◌≤◌, ◌≤ℤ◌, ℤ, pos, List, [], ◌∷◌, length, slice_index_or}
use Rattle.std.specs.List.{All}
use Rattle.arr_core.specs.declared.domain.Axis.{Axis}
use Rattle.arr_core.specs.Domains.{gap, rank_of, IsInside}
use Rattle.arr_core.specs.Limits.{max_points}
use Rattle.arr_core.specs.Tiles.{edge_of, first_step, last_step, box_at}
use Rattle.arr_core.specs.Meeting.{tile_at}
use Rattle.plan_ir.specs.declared.body.Index.{Index}
use Rattle.plan_ir.specs.Run.{numbers_at}
use Rattle.tile_columns.specs.declared.locate.Along.{Along}
use Rattle.tile_columns.specs.declared.scratch.Scratch.{Scratch}

-- the points lie in the domain
abbrev pub AreInside : List Axis → List Index → List (List ℤ) → Type 0
AreInside domain is envs = All (λ e. IsInside domain (numbers_at e is)) envs

-- the rank of a point in the box of its tile
abbrev pub rank_in_tile : List Axis → List ℤ → ℕ
rank_in_tile axes p = rank_of (box_at (edge_of (length axes)) axes (tile_at (edge_of (length axes)) axes p)) p

-- The number of a tile and the rank in it, with one more axis, whose last coordinate is so far above its first one; the
-- point's coordinate is `above` it.
abbrev pub tile_on : ℕ → ℕ → ℕ → ℕ → ℕ
tile_on edge last t above = t * (last / edge + 1) + above / edge

abbrev pub rank_on : ℕ → ℕ → ℕ → ℕ → ℕ
rank_on edge last r above = r * (last_step last edge (above / edge) - first_step edge (above / edge) + 1) +
    (above - first_step edge (above / edge))

-- with the axes one after the other
abbrev pub tile_from : ℕ → List Axis → ℕ → List ℤ → ℕ
tile_from edge [] t p = t
tile_from edge (a ∷ axes) t [] = t
tile_from edge (a ∷ axes) t (x ∷ p) = tile_from edge axes (tile_on edge (gap a.lo a.hi) t (gap a.lo x)) p

abbrev pub rank_from : ℕ → List Axis → ℕ → List ℤ → ℕ
rank_from edge [] r p = r
rank_from edge (a ∷ axes) r [] = r
rank_from edge (a ∷ axes) r (x ∷ p) = rank_from edge axes (rank_on edge (gap a.lo a.hi) r (gap a.lo x)) p

-- with one more axis, at a coordinate
abbrev pub tile_along : Along → ℤ → ℕ → ℕ
tile_along a x t = tile_on a.edge a.last t (gap a.lo x)

abbrev pub rank_along : Along → ℤ → ℕ → ℕ
rank_along a x r = rank_on a.edge a.last r (gap a.lo x)

-- each coordinate lies on the axis
abbrev pub LieAlong : Along → List ℤ → Type 0
LieAlong a xs = (k : ℕ) → k < length xs → (a.lo ≤ℤ slice_index_or xs k (pos 0))
    × (gap a.lo (slice_index_or xs k (pos 0)) ≤ a.last)

-- At each place of `xs` the count was taken on by `next`, by what stands there in `xs`; `d` stands beyond its end.
abbrev pub CountedOn : {X : Type 0} → List X → X → (X → ℕ → ℕ) → List ℕ → List ℕ → Type 0
CountedOn xs d next old new = (k : ℕ) → k < length xs
    → slice_index_or new k 0 ≡ next (slice_index_or xs k d) (slice_index_or old k 0)

-- no count taken on in this way is large
abbrev pub CountsFew : {X : Type 0} → List X → X → (X → ℕ → ℕ) → List ℕ → Type 0
CountsFew xs d next old = (k : ℕ) → k < length xs → next (slice_index_or xs k d) (slice_index_or old k 0) < max_points

-- there are n numbers of tiles, and n ranks
abbrev pub HaveLength : ℕ → List ℕ → List ℕ → Type 0
HaveLength n tiles ranks = (length tiles ≡ n) × (length ranks ≡ n)

-- tiles and ranks were counted on along axes, an index for each, at the places of a frame
abbrev pub CountedFrom : ℕ → List Axis → List Index → List (List ℤ) → Scratch → Scratch → Type 0
CountedFrom edge axes is envs old new =
    CountedOn envs [] (λ e t. tile_from edge axes t (numbers_at e is)) old.numbers.items new.numbers.items
    × CountedOn envs [] (λ e r. rank_from edge axes r (numbers_at e is)) old.ranks.items new.ranks.items

-- none of these counts is large
abbrev pub CountsFewFrom : ℕ → List Axis → List Index → List (List ℤ) → Scratch → Type 0
CountsFewFrom edge axes is envs s =
    CountsFew envs [] (λ e t. tile_from edge axes t (numbers_at e is)) s.numbers.items
    × CountsFew envs [] (λ e r. rank_from edge axes r (numbers_at e is)) s.ranks.items
