-- Cells that are read at places in the order of their tiles.
use Rattle.std.proofs.Common.{◌≡◌, ℕ, ◌+◌, ◌-◌, ◌<◌, ◌≤◌, inl, inr, List, [], ◌∷◌, length, get_or, take, drop, map, refl, sym, ap, ◌∙◌, subst, arith, ℤ, pos}
use Rattle.std.specs.List.{All}
use Rattle.std.proofs.lemmas.Bool.{cases_lt}
use Rattle.std.proofs.lemmas.List.{length-map, length-take, length-drop, get_or-map, get_or-take, get_or-drop, same_lists}
use Rattle.std.proofs.lemmas.List.Elements.{All-head, All-tail, All-map, All-weaker}
use Rattle.arr_core.specs.declared.domain.Axis.{Axis}
use Rattle.arr_core.specs.Domains.{points, count, IsInside}
use Rattle.arr_core.specs.Tiles.{tile_boxes}
use Rattle.arr_core.specs.Meeting.{tile_number}
use Rattle.plan_ir.specs.declared.body.Index.{Index}
use Rattle.plan_ir.specs.Run.{numbers_at}
use Rattle.plan_ir.specs.Units.{distinct}
use Rattle.tile_columns.specs.declared.spots.Spot.{Spot}
use Rattle.tile_columns.specs.Locating.{rank_in_tile}
use Rattle.tile_columns.specs.Spots.{spot_at, tiles_in, AreInOrder, IsStretch, WritesWanted}
use Rattle.tile_columns.proofs.Ranges.{map_map, at_same}
use Rattle.tile_columns.proofs.Locating.{point_of, point_there, rank_there, tile_within}
use Rattle.tile_columns.proofs.Distinct.{all_listed}
use Rattle.tile_columns.proofs.InOrder.{tile_of}

map_agree : {X Y : Type 0} (f g : X → Y) (xs : List X) → All (λ x. f x ≡ g x) xs → map f xs ≡ map g xs
map_agree f g [] h = refl
map_agree f g (x ∷ xs) h = ap (λ y. y ∷ map f xs) (All-head (λ x. f x ≡ g x) x xs h) ∙ ap (λ l. g x ∷ l) (map_agree f g xs (All-tail (λ x. f x ≡ g x) x xs h))

-- the tiles and the ranks of all places
abbrev pub tiles_at : List Axis → List Index → List (List ℤ) → List ℕ
tiles_at axes is envs = map (λ e. tile_number axes (numbers_at e is)) envs

abbrev pub ranks_at : List Axis → List Index → List (List ℤ) → List ℕ
ranks_at axes is envs = map (λ e. rank_in_tile axes (numbers_at e is)) envs

-- a tile that is listed is one of the domain
pub listed_within : (axes : List Axis) (is : List Index) (envs : List (List ℤ)) (seen : List ℕ) (k n : ℕ) → All (λ e. IsInside axes (numbers_at e is)) envs → seen ≡ distinct (tiles_at axes is envs) → k < length seen → n ≡ get_or seen k n → n < length (tile_boxes axes)
listed_within axes is envs seen k n inside =
    all_listed (λ m. m < length (tile_boxes axes)) (λ (e : List ℤ). tile_number axes (numbers_at e is)) envs seen k n
    (λ j d lt. tile_within axes (tile_number axes (numbers_at (get_or envs j d) is)) (numbers_at (get_or envs j d) is) (inside j d lt) refl)

-- a spot has the tile and the rank of a point inside
pub record IsSpotOf (axes : List Axis) (is : List Index) (envs : List (List ℤ)) (s : Spot) : Type 0 where
  pub place : s.place < length envs
  pub inside : IsInside axes (point_of is envs s.place)
  pub tile : s.tile ≡ tile_number axes (point_of is envs s.place)
  pub rank : s.rank ≡ rank_in_tile axes (point_of is envs s.place)

spot_of : (axes : List Axis) (is : List Index) (envs : List (List ℤ)) (s : Spot) → All (λ e. IsInside axes (numbers_at e is)) envs → (s.place < length (tiles_at axes is envs)) × (s ≡ spot_at (tiles_at axes is envs) (ranks_at axes is envs) s.place) → IsSpotOf axes is envs s
spot_of axes is envs s inside h =
    let lt : s.place < length envs = omega (arith, h.0, length-map envs (λ e. tile_number axes (numbers_at e is))) in
    record {
      place = lt;
      inside = inside s.place [] lt;
      tile = ap (λ (t : Spot). t.tile) h.1 ∙ get_or-map (λ e. tile_number axes (numbers_at e is)) envs s.place [] 0 lt;
      rank = ap (λ (t : Spot). t.rank) h.1 ∙ get_or-map (λ e. rank_in_tile axes (numbers_at e is)) envs s.place [] 0 lt;
    }

-- a spot of a tile
pub record IsSpotIn (axes : List Axis) (is : List Index) (envs : List (List ℤ)) (tile : ℕ) (s : Spot) : Type 0 where
  pub spot : IsSpotOf axes is envs s
  pub same : tile ≡ tile_number axes (point_of is envs s.place)

-- a part of a list
in_part : {X : Type 0} (xs : List X) (from to k : ℕ) (d : X) → k < to - from → get_or (take (to - from) (drop from xs)) k d ≡ get_or xs (from + k) d
in_part xs from to k d lt = get_or-take (to - from) (drop from xs) k d lt ∙ get_or-drop from xs k d

length_part : {X : Type 0} (xs : List X) (from to : ℕ) → to ≤ length xs → length (take (to - from) (drop from xs)) ≡ to - from
length_part xs from to le = let a = length-take (to - from) (drop from xs) in let b = length-drop from xs in omega arith

-- the spots of a stretch are those of its tile
pub in_stretch : (axes : List Axis) (is : List Index) (envs : List (List ℤ)) (spots : List Spot) (from to tile : ℕ) → All (λ e. IsInside axes (numbers_at e is)) envs → AreInOrder (tiles_at axes is envs) (ranks_at axes is envs) spots → IsStretch spots from to → tile ≡ get_or (tiles_in spots) from 0
    → All (IsSpotIn axes is envs tile) (take (to - from) (drop from spots))
in_stretch axes is envs spots from to tile inside ordered h e k d lt =
    let l = length_part spots from to h.within in
    let b : k < to - from = omega (arith, lt, l) in
    let w : from + k < length spots = omega (arith, b, h.within) in
    let s = spot_of axes is envs (get_or spots (from + k) d) inside (ordered.each (from + k) d w) in
    let t : tile ≡ (get_or spots (from + k) d).tile = e ∙ sym (h.same (from + k) (omega arith) (omega (arith, b))) ∙ tile_of spots (from + k) d w in
    subst (IsSpotIn axes is envs tile) (sym (in_part spots from to k d b)) (record { spot = s; same = t ∙ s.tile })

-- the tile of a stretch is one of the domain
pub tile_of_spot : (axes : List Axis) (is : List Index) (envs : List (List ℤ)) (spots : List Spot) (from tile : ℕ) (d : Spot) → All (λ e. IsInside axes (numbers_at e is)) envs → AreInOrder (tiles_at axes is envs) (ranks_at axes is envs) spots → from < length spots → tile ≡ (get_or spots from d).tile → tile < length (tile_boxes axes)
tile_of_spot axes is envs spots from tile d inside ordered lt e =
    let s = spot_of axes is envs (get_or spots from d) inside (ordered.each from d lt) in
    tile_within axes tile (point_of is envs (get_or spots from d).place) s.inside (e ∙ s.tile)

pub ranks_within : (axes : List Axis) (is : List Index) (envs : List (List ℤ)) (tile : ℕ) (spots : List Spot) → All (IsSpotIn axes is envs tile) spots → All (λ (n : ℕ). n < count (get_or (tile_boxes axes) tile [])) (map (λ (s : Spot). s.rank) spots)
ranks_within axes is envs tile spots h =
    All-map (λ (n : ℕ). n < count (get_or (tile_boxes axes) tile [])) (λ (s : Spot). s.rank) spots
    (All-weaker (IsSpotIn axes is envs tile) (λ (s : Spot). s.rank < count (get_or (tile_boxes axes) tile [])) (λ s g. omega (arith, g.spot.rank, rank_there axes tile (point_of is envs s.place) g.spot.inside g.same)) spots h)

-- the cells at the ranks are those that are read at the places
pub cells_wanted : (axes : List Axis) (is : List Index) (envs : List (List ℤ)) (tile : ℕ) (spots : List Spot) (cell : List ℤ → ℤ) → All (IsSpotIn axes is envs tile) spots
    → map (λ r. cell (get_or (points (get_or (tile_boxes axes) tile [])) r [])) (map (λ (s : Spot). s.rank) spots) ≡ map (λ (s : Spot). cell (point_of is envs s.place)) spots
cells_wanted axes is envs tile spots cell h =
    map_map (λ r. cell (get_or (points (get_or (tile_boxes axes) tile [])) r [])) (λ (s : Spot). s.rank) spots
    ∙ map_agree (λ (s : Spot). cell (get_or (points (get_or (tile_boxes axes) tile [])) s.rank [])) (λ (s : Spot). cell (point_of is envs s.place)) spots
    (All-weaker (IsSpotIn axes is envs tile) (λ (s : Spot). cell (get_or (points (get_or (tile_boxes axes) tile [])) s.rank []) ≡ cell (point_of is envs s.place))
    (λ s g. ap cell (ap (λ r. get_or (points (get_or (tile_boxes axes) tile [])) r []) g.spot.rank ∙ point_there axes tile (point_of is envs s.place) g.spot.inside g.same)) spots h)

-- what was picked at the ranks of spots
pub picked_there : (axes : List Axis) (is : List Index) (envs : List (List ℤ)) (tile : ℕ) (spots : List Spot) (cell : List ℤ → ℤ) (box : List Axis) (ranks : List ℕ) (picked : List ℤ) → All (IsSpotIn axes is envs tile) spots → ranks ≡ map (λ (s : Spot). s.rank) spots → box ≡ get_or (tile_boxes axes) tile []
    → picked ≡ map (λ r. cell (get_or (points box) r [])) ranks → picked ≡ map (λ (s : Spot). cell (point_of is envs s.place)) spots
picked_there axes is envs tile spots cell box ranks picked h r b e =
    e ∙ ap (map (λ (n : ℕ). cell (get_or (points box) n []))) r
    ∙ ap (λ (x : List Axis). map (λ (n : ℕ). cell (get_or (points x) n [])) (map (λ (s : Spot). s.rank) spots)) b
    ∙ cells_wanted axes is envs tile spots cell h

-- cells out of those of all points
pub picked_of : (cell : List ℤ → ℤ) (ps : List (List ℤ)) (n : ℕ) (tile : List ℤ) (ranks : List ℕ) → tile ≡ map cell ps → length ps ≡ n → All (λ (r : ℕ). r < n) ranks → map (λ r. get_or tile r (pos 0)) ranks ≡ map (λ r. cell (get_or ps r [])) ranks
picked_of cell ps n tile ranks e l h =
    map_agree (λ (r : ℕ). get_or tile r (pos 0)) (λ (r : ℕ). cell (get_or ps r [])) ranks
    (All-weaker (λ (r : ℕ). r < n) (λ (r : ℕ). get_or tile r (pos 0) ≡ cell (get_or ps r [])) (λ r lt. ap (λ xs. get_or xs r (pos 0)) e ∙ get_or-map cell ps r [] (pos 0) (omega (arith, lt, l))) ranks h)

-- the wanted cells stand at the places of the first n spots
abbrev pub StandAt : List Spot → (ℕ → ℤ) → List ℤ → ℕ → Type 0
StandAt spots want cells n = (k : ℕ) (d : Spot) → k < n → k < length spots → get_or cells (get_or spots k d).place (pos 0) ≡ want (get_or spots k d).place

-- and then at those of a stretch too
pub read_on : (spots : List Spot) (from to : ℕ) (want : ℕ → ℤ) (picked before cells : List ℤ) → IsStretch spots from to → WritesWanted (take (to - from) (drop from spots)) picked before cells → picked ≡ map (λ (s : Spot). want s.place) (take (to - from) (drop from spots)) → StandAt spots want before from → StandAt spots want cells to
read_on spots from to want picked before cells h writes e stand k d lt within =
    elim (cases_lt k from) [
      | inl l ↦ writes.kept want e (get_or spots k d).place (stand k d l within)
      | inr l ↦
          let b : k - from < to - from = omega (arith, h.some) in
          let s : get_or (take (to - from) (drop from spots)) (k - from) d ≡ get_or spots k d = in_part spots from to (k - from) d b ∙ ap (λ i. get_or spots i d) (omega arith) in
          subst (λ (t : Spot). get_or cells t.place (pos 0) ≡ want t.place) s (writes.written want e (k - from) d (omega (arith, b, length_part spots from to h.within)))
    ]

-- all cells, once they stand at all places
pub all_read : {X : Type 0} (tiles ranks : List ℕ) (spots : List Spot) (xs : List X) (d : X) (f : X → ℤ) (cells : List ℤ) (n : ℕ) → AreInOrder tiles ranks spots → length tiles ≡ length xs → length cells ≡ length xs → length spots ≤ n → StandAt spots (λ p. f (get_or xs p d)) cells n → cells ≡ map f xs
all_read tiles ranks spots xs d f cells n ordered m l le stand =
    same_lists cells (map f xs) (l ∙ sym (length-map xs f)) (λ k z lt.
    let b : k < length xs = omega arith in
    let s = ordered.all k (omega arith) in
    let p : (get_or spots s.0 (spot_at tiles ranks k)).place ≡ k = ap (λ (t : Spot). t.place) s.2 in
    let at = stand s.0 (spot_at tiles ranks k) (omega (arith, s.1)) s.1 in
    at_same cells k z (pos 0) lt
    ∙ (subst (λ (q : ℕ). get_or cells q (pos 0) ≡ f (get_or xs q d)) p at)
    ∙ sym (get_or-map f xs k d z b))
