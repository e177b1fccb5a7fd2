-- Want of room by what the store has: the cells that a tile's bytes spell are the values of its points.
use Rattle.std.proofs.Common.{◌≡◌, ℕ, zero, suc, ◌<◌, List, [], ◌∷◌, length, get_or, map, refl, sym, ap, ◌∙◌, subst, arith, Option, Some, inl, inr, ℤ, pos}
use Rattle.std.specs.Prelude.{slice_get, IsSomeAnd, All, sum_by, Contains}
use Rattle.std.specs.Str.{bytes_eq}
use Rattle.std.proofs.lemmas.Bool.{cases_Bool}
use Rattle.std.proofs.lemmas.Int.{ints}
use Rattle.std.proofs.lemmas.List.{get_or-map}
use Rattle.std.proofs.lemmas.List.Sums.{sum_by-cons}
use Rattle.std.proofs.lemmas.List.Elements.{All-head, All-tail, All-weaker, All-contains_itself}
use Rattle.arr_core.specs.declared.domain.Axis.{Axis}
use Rattle.arr_core.specs.declared.field.Field.{Field}
use Rattle.arr_core.specs.Domains.{points, count, point_at, rank_of, IsInside, IsBoxOf, IsDomain, AreOrdered}
use Rattle.arr_core.specs.Stores.{Coverage, Store, found, value_at}
use Rattle.arr_core.specs.Tiles.{grid, edge_of, tile_box, TileMeets}
use Rattle.arr_core.proofs.Points.{at_rank, at_place, length-points, point-inside, rank_of-lt-count}
use Rattle.arr_core.proofs.Boxes.{IsBoxOf-box}
use Rattle.arr_core.proofs.Grids.{ordered-grid, edge-some, length-tile_boxes, get_or-tile_boxes}
use Rattle.tile_store.specs.Room.{AreMeeting, listed_bytes, new_blocks, patched_at, tile_blocks, room_for}
use Rattle.tile_store.specs.Stored.{field_values, number_at}
use Rattle.raster_store.specs.Views.{Index, values_in, coverage_in, coverages_in}
use Rattle.raster_store.specs.Calls.{signature_of, index_of, blocks_with}
use Rattle.raster_store.proofs.Contents.{values-at}
use Rattle.raster_store.proofs.Readings.{box_inside, same_map, tile_is_box}
use Rattle.coverage_server.specs.Room.{blocks_put}

-- ---- the coverage with a name

-- a coverage whose fields have these indexes, of which one is that of a field
pub record IsListedAs (content : List ℕ) (c : Coverage) (field : ℕ) (i : Index) : Type 0 where
  pub indexes : List Index
  pub is : c ≡ coverage_in content (signature_of c) indexes
  pub at : slice_get indexes field ≡ Some i

pub listed_as : (content : List ℕ) (name : List ℕ) (field : ℕ) (store : Store) (indexes : List (List Index))
    (c : Coverage) (i : Index)
    → store ≡ coverages_in content (map signature_of store) indexes → found name store ≡ Some c
    → index_of name field store indexes ≡ Some i → IsListedAs content c field i
listed_as content name field [] indexes c i is at of = absurd cc
listed_as content name field (x ∷ store) [] c i is at of = absurd cc
listed_as content name field (x ∷ store) (j ∷ indexes) c i is at of =
    let head : x ≡ coverage_in content (signature_of x) j = cc in
    let tail : store ≡ coverages_in content (map signature_of store) indexes = cc in
    elim (cases_Bool (bytes_eq x.name name)) [
      | inl this ↦
          let same : x ≡ c = (let e : Some x ≡ Some c = rw this at at in cc) in
          let there : slice_get j field ≡ Some i = rw this at of in
          subst (λ (y : Coverage). IsListedAs content y field i) same (record { indexes = j; is = head; at = there })
      | inr other ↦ listed_as content name field store indexes c i tail (rw other at at) (rw other at of)
    ]

-- what is there at a place
there_at : {X : Type 0} (xs : List X) (n : ℕ) (x d : X) → slice_get xs n ≡ Some x
    → (n < length xs) × (get_or xs n d ≡ x)
there_at [] n x d e = absurd cc
there_at (y ∷ xs) zero x d e = (omega arith, cc)
there_at (y ∷ xs) (suc n) x d e = let rest = there_at xs n x d e in (omega (arith, rest.0), rest.1)

some_is : {X : Type 0} (o : Option X) (x : X) (P : X → Type 0) → o ≡ Some x → P x → IsSomeAnd o P
some_is o x P e p = rw e p

-- a value is the number that its tile has
pub value_is : (content : List ℕ) (c : Coverage) (field : ℕ) (f : Field) (i : Index) (p : List ℤ)
    → IsListedAs content c field i → slice_get c.fields field ≡ Some f → IsInside c.domain p
    → value_at c field p ≡ number_at f.kind c.domain i content p
unfolding field_values
value_is content c field f i p l at inside =
    let number = number_at f.kind c.domain i content in
    let there = there_at l.indexes field i [] l.at in
    let below : rank_of c.domain p < length (points c.domain) = omega
    (arith, length-points c.domain, rank_of-lt-count c.domain p inside) in
    let values : c.values ≡ values_in content c.domain c.fields l.indexes = ap (λ (d : Coverage). d.values) l.is in
    let own : get_or c.values field [] ≡ field_values f.kind c.domain i content =
    ap (λ (v : List (List ℤ)). get_or v field []) values
    ∙ (values-at content c.domain c.fields l.indexes field f.kind
    (some_is (slice_get c.fields field) f (λ (g : Field). g.kind ≡ f.kind) at refl) there.0).0
    ∙ ap (λ (x : Index). field_values f.kind c.domain x content) there.1 in
    ap (λ (v : List ℤ). get_or v (rank_of c.domain p) (pos 0)) own
    ∙ get_or-map number (points c.domain) (rank_of c.domain p) [] (pos 0) below ∙ ap number
    (at_rank c.domain p [] inside)

-- ---- the tiles that a box meets

-- axes with a point are ordered
ordered_by : (axes : List Axis) (p : List ℤ) → IsInside axes p → AreOrdered axes
ordered_by [] p h = tt
ordered_by (a ∷ axes) [] h = absurd h
ordered_by (a ∷ axes) (x ∷ p) h = (omega (arith, ints, h.0, h.1), ordered_by axes p h.2)

-- a tile that a box meets is a box of the domain
met_within : (domain area : List Axis) (tile : ℕ) → IsBoxOf domain area → TileMeets domain tile area
    → AreOrdered (tile_box domain tile) × IsBoxOf domain (tile_box domain tile)
met_within domain area tile box (low, (p, here, there)) =
    let ordered = ordered_by domain p (box_inside domain area p box there) in
    let e = edge_of (length domain) in
    let below : tile < count (grid e domain) = omega (arith, low, length-tile_boxes domain) in
    let at = point_at (grid e domain) tile in
    let inside : IsInside (grid e domain) at = point-inside (grid e domain) tile below (ordered-grid e domain) in
    let within : IsBoxOf domain (tile_box domain tile) = rw (get_or-tile_boxes domain tile [] below)
    (IsBoxOf-box e domain at (edge-some (length domain)) ordered inside) in
    (ordered_by (tile_box domain tile) p here, within)

-- they take as many blocks by the store as by the bytes below
blocks_alike : (content : List ℕ) (c : Coverage) (field : ℕ) (f : Field) (i : Index) (area : List Axis)
    (numbers : List ℤ) (tile : ℕ) → IsListedAs content c field i
    → slice_get c.fields field ≡ Some f → AreOrdered (tile_box c.domain tile) × IsBoxOf c.domain (tile_box c.domain tile)
    → blocks_with c f i content area numbers tile ≡ blocks_put c field f.kind area numbers tile
blocks_alike content c field f i area numbers tile l at of =
    let part = tile_box c.domain tile in
    ap (tile_blocks f.kind) (same_map (patched_at area numbers (number_at f.kind c.domain i content))
    (patched_at area numbers (value_at c field)) (points part) (λ k d less.
    let below : k < count part = omega (arith, less, length-points part) in
    let p = point_at part k in
    let inside : IsInside c.domain p = box_inside c.domain part p of.1 (point-inside part k below of.0) in
    rw (at_place part k d below) (same_put p (sym (value_is content c field f i p l at inside)))))
  where
    same_put : (p : List ℤ) → number_at f.kind c.domain i content p ≡ value_at c field p
        → patched_at area numbers (number_at f.kind c.domain i content) p ≡ patched_at area numbers (value_at c field) p
    same_put p e = rw e refl

sum_alike : (g h : ℕ → ℕ) (tiles : List ℕ) → All (λ t. g t ≡ h t) tiles → sum_by g tiles ≡ sum_by h tiles
sum_alike g h [] all = refl
sum_alike g h (t ∷ tiles) all =
    let first = All-head (λ (n : ℕ). g n ≡ h n) t tiles all in
    let rest = sum_alike g h tiles (All-tail (λ (n : ℕ). g n ≡ h n) t tiles all) in
    omega (arith, first, rest, sum_by-cons g t tiles, sum_by-cons h t tiles)

bytes_alike : (F : ℕ → ℕ) (g h : ℕ → ℕ) (tiles : List ℕ) → All (λ t. g t ≡ h t) tiles
    → sum_by (λ t. F (g t)) tiles ≡ sum_by (λ t. F (h t)) tiles
bytes_alike F g h tiles all = sum_alike (λ t. F (g t)) (λ t. F (h t)) tiles
    (All-weaker (λ (t : ℕ). g t ≡ h t) (λ (t : ℕ). F (g t) ≡ F (h t)) (λ t e. ap F e) tiles all)

pub room_alike : (content : List ℕ) (c : Coverage) (field : ℕ) (f : Field) (i : Index) (area : List Axis)
    (numbers : List ℤ) (tiles : List ℕ) (rest : ℕ) → IsListedAs content c field i
    → slice_get c.fields field ≡ Some f → IsBoxOf c.domain area → AreMeeting c.domain area tiles
    → room_for (blocks_with c f i content area numbers) i tiles rest ≡ room_for (blocks_put c field f.kind area numbers)
    i tiles rest
room_alike content c field f i area numbers tiles rest l at box meeting =
    let g = blocks_with c f i content area numbers in
    let h = blocks_put c field f.kind area numbers in
    let each : All (λ t. g t ≡ h t) tiles =
    All-weaker (Contains tiles) (λ (t : ℕ). g t ≡ h t)
    (λ t in_tiles. blocks_alike content c field f i area numbers t l at
    (met_within c.domain area t box ((meeting.exact t).0 in_tiles))) tiles
    (All-contains_itself tiles) in
    rw (sum_alike g h tiles each, bytes_alike listed_bytes g h tiles each) refl

-- the new tiles of a box take as many
pub new_alike : (content : List ℕ) (c : Coverage) (field : ℕ) (f : Field) (i : Index) (area : List Axis)
    (numbers : List ℤ) (tiles : List ℕ) → IsListedAs content c field i
    → slice_get c.fields field ≡ Some f → IsDomain c.domain → AreMeeting c.domain area tiles
    → new_blocks (blocks_with c f i content area numbers) tiles ≡ new_blocks (blocks_put c field f.kind area numbers) tiles
new_alike content c field f i area numbers tiles l at domain meeting =
    let g = blocks_with c f i content area numbers in
    let h = blocks_put c field f.kind area numbers in
    sum_alike g h tiles (All-weaker (Contains tiles) (λ (t : ℕ). g t ≡ h t)
    (λ t in_tiles. blocks_alike content c field f i area numbers t l at
    (tile_is_box c.domain t domain ((meeting.exact t).0 in_tiles).0)) tiles (All-contains_itself tiles))
