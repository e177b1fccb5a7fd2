-- The numbers of a tile are the cells that are read there, and the coverages that are read are those at their places.
use Rattle.std.proofs.Common.{◌≡◌, ℕ, zero, suc, ◌<◌, ◌≤◌, nat_eq, cond, ◌++◌, Bool, true, false, ◌&&◌, nat_lt, ℤ, ◌≤ℤ◌, T, List, [], ◌∷◌, length, map, get_or, Option, None, Some, Err, refl, sym, ap, ◌∙◌, subst, arith}
use Rattle.std.specs.Prelude.{All, IfSome, IfNone, IsErrOf, IsSomeAnd, IsTrue, int_le, slice_get, slice_index_or, option_and_then}
use Rattle.std.proofs.lemmas.Bool.{lt-ltb}
use Rattle.std.proofs.lemmas.List.{map-append}
use Rattle.std.proofs.lemmas.List.Elements.{All-head, All-tail, All-cons, All-nil}
use mathlib.Core.Path.{fun_ext}
use Rattle.arr_core.specs.declared.domain.Axis.{Axis}
use Rattle.arr_core.specs.declared.field.Field.{Field}
use Rattle.arr_core.specs.declared.signature.Signature.{Signature}
use Rattle.arr_core.specs.Domains.{points, is_inside, IsInside, IsDomain, count, point_at}
use Rattle.arr_core.specs.Stores.{Coverage, Store, found, value_at}
use Rattle.arr_core.specs.Tiles.{tile_boxes, tile_box}
use Rattle.arr_core.proofs.Points.{at_place, length-points, point-inside}
use Rattle.block_file.specs.View.{BlockFileView, state_of}
use Rattle.tile_columns.specs.Sources.{HasTile as AskedTile, box_of, OnlyReads}
use Rattle.tile_store.specs.Stored.{IsTileSpelled, IsSpelled}
use Rattle.raster_store.proofs.Readings.{box_inside, tile_is_box}
use Rattle.raster_store.specs.declared.reading.TileAt.{TileAt}
use Rattle.raster_store.specs.Calls.{signature_of}
use Rattle.raster_store.specs.Fetches.{HasTile, HasRanks, AreTileCells, AreRankedCells, HasTileCount, IsSpelledAt, IsPlaceOf, IsFetched, ArePicked, IsDamagedAt}
use Rattle.raster_store.specs.Snapshots.{held_for, held_view, as_held}
use Rattle.raster_store.specs.Views.{Index, RasterView, SnapshotView, AreIntact, FieldsIntact}
use Rattle.coverage_server.specs.Asking.{number_in, listed_in}
use Rattle.tile_store.specs.declared.fault.Fault.{Fault}
use Rattle.tile_store.specs.declared.fault.Fault.TheVariants as device
use Rattle.tile_store.specs.Faults.{Refuses}
use Rattle.disk_face.specs.Disk.{Tells}
use Rattle.wcps_mean.specs.Reports.{Tells as Reports}
use Rattle.wcps_mean.specs.declared.cells.CellError.{CellError}
use Rattle.coverage_server.specs.Tiles.{ArePlaces, AreRead, ArePlacesSpelled, asked_state, HaveDomains, IsSpelledFor, ReadsSpelled, TellsCells, cells_at, held_or, indexes_or, signature_or_none, signatures_at, store_for, indexes_for}
use Rattle.coverage_server.specs.Damage.{AreSpelled, IsSpelledNamed, IsSpelledPlace, SpoilsHeld}
use Rattle.coverage_server.specs.Views.{IsHeld, ServerView, IsSound, still_of}
use Rattle.coverage_server.proofs.FaultLemmas.{never_fewer}
use Rattle.coverage_server.proofs.FreeLemmas.{shown}
use Rattle.coverage_server.proofs.StandingLemmas.{all_at}

both : (a b : Bool) → a ≡ true → b ≡ true → (a && b) ≡ true
both a b h k = rw (h, k) refl

-- the test of a point that is inside
is_inside_true : (domain : List Axis) (p : List ℤ) → IsInside domain p → is_inside domain p ≡ true
is_inside_true [] [] h = refl
is_inside_true [] (x ∷ p) h = absurd h
is_inside_true (a ∷ domain) [] h = absurd h
is_inside_true (a ∷ domain) (x ∷ p) h =
    both (int_le a.lo x && int_le x a.hi) (is_inside domain p) (both (int_le a.lo x) (int_le x a.hi) (le_true a.lo x h.0) (le_true x a.hi h.1)) (is_inside_true domain p h.2)
  where
    le_true : (x y : ℤ) → x ≤ℤ y → int_le x y ≡ true
    le_true x y h = by_test (int_le x y) h.le
      where
        by_test : (b : Bool) → T b → b ≡ true
        by_test true t = refl
        by_test false t = absurd t

-- the number of a field of a coverage at a point of its domain
number_inside : (c : Coverage) (field : ℕ) (p : List ℤ) → field < length c.fields → IsInside c.domain p → number_in (Some c) field p ≡ value_at c field p
number_inside c field p held inside =
    let test : (nat_lt field (length c.fields) && is_inside c.domain p) ≡ true =
    both (nat_lt field (length c.fields)) (is_inside c.domain p) (lt-ltb field (length c.fields) held) (is_inside_true c.domain p inside) in
    rw test refl

same_map : (f g : List ℤ → ℤ) (xs : List (List ℤ)) → All (λ x. f x ≡ g x) xs → map f xs ≡ map g xs
same_map f g [] h = refl
same_map f g (x ∷ xs) h = rw (h 0 x (omega arith), same_map f g xs (λ k d l. h (suc k) d (omega (arith, l)))) refl

-- ---- places

-- the coverage that is there, where one of them has a field
there : (store : Store) (places : List ℕ) (n field tile : ℕ) → AskedTile (slice_get (signatures_at store places) n) field tile
    → (place : ℕ) × (c : Coverage) × (slice_get places n ≡ Some place) × (slice_get store place ≡ Some c)
there store [] n field tile h = absurd h
there store (place ∷ places) zero field tile h = by_coverage (slice_get store place) refl h
  where
    by_coverage : (o : Option Coverage) → slice_get store place ≡ o → AskedTile (Some (signature_or_none o)) field tile
        → (q : ℕ) × (c : Coverage) × (Some place ≡ Some q) × (slice_get store q ≡ Some c)
    by_coverage None e h = absurd (let none = h.0 in omega (arith, none))
    by_coverage (Some c) e h = (place, c, refl, e)
there store (place ∷ places) (suc n) field tile h = there store places n field tile h

-- what is told of it
told_at : (store : Store) (places : List ℕ) (n place : ℕ) (c : Coverage) → slice_get places n ≡ Some place → slice_get store place ≡ Some c
    → slice_get (signatures_at store places) n ≡ Some (signature_of c)
told_at store [] n place c at is = absurd cc
told_at store (q ∷ places) zero place c at is =
    let same : q ≡ place = cc in rw (same, is) refl
told_at store (q ∷ places) (suc n) place c at is = told_at store places n place c at is

-- what is read at a place
pub record Found (store : Store) (places : List ℕ) (n field tile place : ℕ) : Type 0 where
  pub coverage : Coverage
  pub at : slice_get places n ≡ Some place
  pub is : slice_get store place ≡ Some coverage
  pub told : slice_get (signatures_at store places) n ≡ Some (signature_of coverage)
  pub has_field : field < length coverage.fields
  pub has_tile : tile < length (tile_boxes coverage.domain)

pub found_at : (store : Store) (places : List ℕ) (n field tile place : ℕ) → AskedTile (slice_get (signatures_at store places) n) field tile
    → place ≡ get_or places n place → Found store places n field tile place
found_at store places n field tile place h is =
    let t = there store places n field tile h in
    let same : t.0 ≡ place = sym (read_get places n t.0 place t.2) ∙ sym is in
    let told = told_at store places n t.0 t.1 t.2 t.3 in
    let has : AskedTile (Some (signature_of t.1)) field tile = subst (λ (o : Option Signature). AskedTile o field tile) told h in
    record {
      coverage = t.1;
      at = t.2 ∙ ap Some same;
      is = ap (slice_get store) (sym same) ∙ t.3;
      told = told;
      has_field = has.0;
      has_tile = has.1;
    }
  where
    read_get : (xs : List ℕ) (i x d : ℕ) → slice_get xs i ≡ Some x → get_or xs i d ≡ x
    read_get [] i x d e = absurd cc
    read_get (y ∷ xs) zero x d e = cc
    read_get (y ∷ xs) (suc i) x d e = read_get xs i x d e

-- it has that tile
pub has_tile : (store : Store) (places : List ℕ) (n field tile place : ℕ) → Found store places n field tile place
    → HasTile (record { coverage = place; field = field; tile = tile }) store
has_tile store places n field tile place f =
    subst (λ (o : Option Coverage). IsSomeAnd o (λ c. (field < length c.fields) × (tile < length (tile_boxes c.domain)))) (sym f.is) (f.has_field, f.has_tile)

domain_at : (cs : List Signature) (n : ℕ) (s : Signature) → slice_get cs n ≡ Some s → HaveDomains cs → IsDomain s.domain
domain_at [] n s e h = absurd cc
domain_at (c ∷ cs) zero s e h = let same : c ≡ s = cc in subst (λ (d : Signature). IsDomain d.domain) same (h 0 c (omega arith))
domain_at (c ∷ cs) (suc n) s e h = domain_at cs n s e (λ k d l. h (suc k) d (omega (arith, l)))

-- the numbers of a coverage in a tile are its cells there
pub tile_cells : (store : Store) (places : List ℕ) (n field tile place : ℕ) (numbers : List ℤ) → Found store places n field tile place
    → HaveDomains (signatures_at store places) → AreTileCells (record { coverage = place; field = field; tile = tile }) store numbers
    → numbers ≡ map (cells_at store places n field) (points (box_of (slice_get (signatures_at store places) n) tile))
tile_cells store places n field tile place numbers f domains x =
    let c = f.coverage in
    let box = tile_box c.domain tile in
    let is_box = tile_is_box c.domain tile (domain_at (signatures_at store places) n (signature_of c) f.told domains) f.has_tile in
    let read : numbers ≡ map (value_at c field) (points box) =
    subst (λ (o : Option Coverage). IsSomeAnd o (λ d. numbers ≡ map (value_at d field) (points (tile_box d.domain tile)))) f.is x in
    let alike : map (value_at c field) (points box) ≡ map (cells_at store places n field) (points box) =
    same_map (value_at c field) (cells_at store places n field) (points box)
    (λ k d l.
    let below : k < count box = omega (arith, l, length-points box) in
    let here : get_or (points box) k d ≡ point_at box k = at_place box k d below in
    let inside : IsInside c.domain (get_or (points box) k d) =
    subst (λ (p : List ℤ). IsInside c.domain p) (sym here) (box_inside c.domain box (point_at box k) is_box.1 (point-inside box k below is_box.0)) in
    sym (rw (f.at, f.is) (number_inside c field (get_or (points box) k d) f.has_field inside))) in
    rw f.told (read ∙ alike)

pub tile_places : (store : Store) (places : List ℕ) (n field tile place : ℕ) (numbers : List ℤ) → Found store places n field tile place
    → HasTileCount (record { coverage = place; field = field; tile = tile }) store numbers
    → length numbers ≡ count (box_of (slice_get (signatures_at store places) n) tile)
tile_places store places n field tile place numbers f x =
    let c = f.coverage in
    let counted : length numbers ≡ length (points (tile_box c.domain tile)) =
    subst (λ (o : Option Coverage). IsSomeAnd o (λ d. length numbers ≡ length (points (tile_box d.domain tile)))) f.is x in
    rw f.told (counted ∙ length-points (tile_box c.domain tile))

-- as many values as a tile of 4,096 points has points
pub tile_room : (store : Store) (places : List ℕ) (n field tile place : ℕ) (values : List ℤ) → Found store places n field tile place
    → count (box_of (slice_get (signatures_at store places) n) tile) ≡ 4096 → length values ≡ 4096
    → HasTileCount (record { coverage = place; field = field; tile = tile }) store values
tile_room store places n field tile place values f whole room =
    let c = f.coverage in
    let all : count (tile_box c.domain tile) ≡ 4096 =
    subst (λ (o : Option Signature). count (box_of o tile) ≡ 4096) f.told whole in
    subst (λ (o : Option Coverage). IsSomeAnd o (λ d. length values ≡ length (points (tile_box d.domain tile)))) (sym f.is)
    (room ∙ sym all ∙ sym (length-points (tile_box c.domain tile)))

-- ranks in the box of a tile are ranks of its points
pub tile_ranks : (store : Store) (places : List ℕ) (n field tile place : ℕ) (ranks : List ℕ) → Found store places n field tile place
    → All (λ (r : ℕ). r < count (box_of (slice_get (signatures_at store places) n) tile)) ranks → HasRanks (record { coverage = place; field = field; tile = tile }) ranks store
tile_ranks store places n field tile place ranks f within =
    let all : All (λ (r : ℕ). r < count (tile_box f.coverage.domain tile)) ranks = subst (λ (o : Option Signature). All (λ (r : ℕ). r < count (box_of o tile)) ranks) f.told within in
    subst (λ (o : Option Coverage). IsSomeAnd o (λ c. All (λ (r : ℕ). r < count (tile_box c.domain tile)) ranks)) (sym f.is) all

-- the numbers of a coverage at ranks of a tile's points are its cells there
pub picked_cells : (store : Store) (places : List ℕ) (n field tile place : ℕ) (ranks : List ℕ) (numbers : List ℤ) → Found store places n field tile place
    → HaveDomains (signatures_at store places) → All (λ (r : ℕ). r < count (box_of (slice_get (signatures_at store places) n) tile)) ranks → AreRankedCells (record { coverage = place; field = field; tile = tile }) ranks store numbers
    → numbers ≡ map (λ (r : ℕ). cells_at store places n field (slice_index_or (points (box_of (slice_get (signatures_at store places) n) tile)) r [])) ranks
picked_cells store places n field tile place ranks numbers f domains within x =
    let c = f.coverage in
    let box = tile_box c.domain tile in
    let is_box = tile_is_box c.domain tile (domain_at (signatures_at store places) n (signature_of c) f.told domains) f.has_tile in
    let all : All (λ (r : ℕ). r < count box) ranks = subst (λ (o : Option Signature). All (λ (r : ℕ). r < count (box_of o tile)) ranks) f.told within in
    let read : numbers ≡ map (λ (r : ℕ). value_at c field (get_or (points box) r [])) ranks =
    subst (λ (o : Option Coverage). IsSomeAnd o (λ d. numbers ≡ map (λ (r : ℕ). value_at d field (get_or (points (tile_box d.domain tile)) r [])) ranks)) f.is x in
    let alike : map (λ (r : ℕ). value_at c field (get_or (points box) r [])) ranks ≡ map (λ (r : ℕ). cells_at store places n field (get_or (points box) r [])) ranks =
    alike_at (λ (r : ℕ). value_at c field (get_or (points box) r [])) (λ (r : ℕ). cells_at store places n field (get_or (points box) r [])) ranks
    (λ k d l.
    let r = get_or ranks k d in
    let below : r < count box = all k d l in
    let here : get_or (points box) r [] ≡ point_at box r = at_place box r [] below in
    let inside : IsInside c.domain (get_or (points box) r []) =
    subst (λ (p : List ℤ). IsInside c.domain p) (sym here) (box_inside c.domain box (point_at box r) is_box.1 (point-inside box r below is_box.0)) in
    sym (rw (f.at, f.is) (number_inside c field (get_or (points box) r []) f.has_field inside))) in
    subst (λ (o : Option Signature). numbers ≡ map (λ (r : ℕ). cells_at store places n field (get_or (points (box_of o tile)) r [])) ranks) (sym f.told) (read ∙ alike)
  where
    alike_at : (g h : ℕ → ℤ) (xs : List ℕ) → All (λ x. g x ≡ h x) xs → map g xs ≡ map h xs
    alike_at g h [] same = refl
    alike_at g h (y ∷ ys) same = rw (same 0 y (omega arith), alike_at g h ys (λ k d l. same (suc k) d (omega (arith, l)))) refl

-- where nothing but counts has changed, tiles were only read
pub asked_reads : (job : ℕ) (places : List ℕ) (v w : ServerView) → still_of w ≡ still_of v → v.fetched ≤ w.fetched → OnlyReads (asked_state job places v) (asked_state job places w)
asked_reads job places v w still rises = record {
  coverages = ap (λ (u : ServerView). signatures_at (store_for job u) places) still;
  cells = ap (λ (u : ServerView). cells_at (store_for job u) places) still;
  kept = ap (λ (u : ServerView). (u, job, places)) still;
  rises = rises;
  intact = λ h. record {
    honest = subst (λ (u : ServerView). IsTrue u.honest) (sym still) h.honest;
    domains = subst (λ (u : ServerView). HaveDomains (signatures_at (store_for job u) places)) (sym still) h.domains;
  };
}

-- ---- coverages that were looked up

-- one more
pub place_more : (store : Store) (asked : List Signature) (places : List ℕ) (s : Signature) (place : ℕ) → ArePlaces store asked places → IsPlaceOf s.name store place
    → map (λ (q : ℕ). slice_get store q) (places ++ place ∷ []) ≡ map (λ (t : Signature). found t.name store) (asked ++ s ∷ [])
place_more store asked places s place so_far is =
    map-append (λ (q : ℕ). slice_get store q) places (place ∷ []) ∙ ap (λ (l : List (Option Coverage)). l ++ slice_get store place ∷ []) so_far
    ∙ ap (λ (o : Option Coverage). map (λ (t : Signature). found t.name store) asked ++ o ∷ []) (sym is.1)
    ∙ sym (map-append (λ (t : Signature). found t.name store) asked (s ∷ []))

some_told : (o : Option Coverage) (s : Signature) → IsSomeAnd o (λ c. signature_of c ≡ s) → signature_or_none o ≡ s
some_told None s h = absurd h
some_told (Some c) s h = h

signatures_read : (store : Store) (asked : List Signature) (places : List ℕ) → ArePlaces store asked places → All (IsHeld store) asked → signatures_at store places ≡ asked
signatures_read store [] [] same held = refl
signatures_read store [] (q ∷ places) same held = absurd cc
signatures_read store (s ∷ asked) [] same held = absurd cc
signatures_read store (s ∷ asked) (q ∷ places) same held =
    let one : slice_get store q ≡ found s.name store = cc in
    let rest : ArePlaces store asked places = cc in
    let here : signature_or_none (slice_get store q) ≡ s = rw one (some_told (found s.name store) s (held 0 s (omega arith))) in
    rw (here, signatures_read store asked places rest (λ k d l. held (suc k) d (omega (arith, l)))) refl

place_read : (store : Store) (asked : List Signature) (places : List ℕ) (n : ℕ) → ArePlaces store asked places
    → option_and_then (λ (q : ℕ). slice_get store q) (slice_get places n) ≡ listed_in store asked n
place_read store [] [] n same = refl
place_read store [] (q ∷ places) n same = absurd cc
place_read store (s ∷ asked) [] n same = absurd cc
place_read store (s ∷ asked) (q ∷ places) zero same = cc
place_read store (s ∷ asked) (q ∷ places) (suc n) same = let rest : ArePlaces store asked places = cc in place_read store asked places n rest

pub are_read : (store : Store) (asked : List Signature) (places : List ℕ) → ArePlaces store asked places → All (IsHeld store) asked → HaveDomains asked
    → AreRead store asked places
are_read store asked places same held domains = record {
  coverages = signatures_read store asked places same held;
  cells = fun_ext (λ n. fun_ext (λ field. fun_ext (λ point. ap (λ (o : Option Coverage). number_in o field point) (place_read store asked places n same))));
  domains = domains;
}

-- ---- tiles that are spelled

field_spelled : (content : List ℕ) (domain : List Axis) (fields : List Field) (indexes : List Index) (j tile : ℕ) → FieldsIntact content domain fields indexes → j < length fields
    → IsSomeAnd (slice_get fields j) (λ (f : Field). IsTileSpelled f.kind domain (slice_index_or indexes j []) content tile)
unfolding IsSpelled
field_spelled content domain [] indexes j tile all within = absurd (omega (arith, within))
field_spelled content domain (f ∷ fields) [] zero tile all within = λ e at. absurd cc
field_spelled content domain (f ∷ fields) [] (suc j) tile all within = field_spelled content domain fields [] j tile (no_index fields) (omega (arith, within))
  where
    no_index : (fields : List Field) → FieldsIntact content domain fields []
    no_index [] = tt
    no_index (f ∷ fields) = tt
field_spelled content domain (f ∷ fields) (i ∷ indexes) zero tile all within = all.0 tile
field_spelled content domain (f ∷ fields) (i ∷ indexes) (suc j) tile all within = field_spelled content domain fields indexes j tile all.1 (omega (arith, within))

-- in an intact store each tile is spelled
tile_spelled : (content : List ℕ) (store : Store) (indexes : List (List Index)) (place field tile : ℕ) → IsSomeAnd (slice_get store place) (λ c. field < length c.fields) → AreIntact content store indexes
    → IsSomeAnd (slice_get store place) (λ c. IsSomeAnd (slice_get c.fields field) (λ (f : Field). IsTileSpelled f.kind c.domain (slice_index_or (slice_index_or indexes place []) field []) content tile))
tile_spelled content [] indexes place field tile h all = absurd h
tile_spelled content (c ∷ store) [] zero field tile h all = field_spelled content c.domain c.fields [] field tile (no_index c.fields) h
  where
    no_index : (fields : List Field) → FieldsIntact content c.domain fields []
    no_index [] = tt
    no_index (f ∷ fields) = tt
tile_spelled content (c ∷ store) [] (suc place) field tile h all = tile_spelled content store [] place field tile h (none_intact store)
  where
    none_intact : (store : Store) → AreIntact content store []
    none_intact [] = tt
    none_intact (d ∷ store) = tt
tile_spelled content (c ∷ store) (i ∷ indexes) zero field tile h all = field_spelled content c.domain c.fields i field tile all.0 h
tile_spelled content (c ∷ store) (i ∷ indexes) (suc place) field tile h all = tile_spelled content store indexes place field tile h all.1

pub intact_at : (content : List ℕ) (store : Store) (indexes : List (List Index)) (at : TileAt) → HasTile at store → AreIntact content store indexes → IsSpelledAt at content store indexes
intact_at content store indexes at has all = tile_spelled content store indexes at.coverage at.field at.tile (some_field (slice_get store at.coverage) has) all
  where
    some_field : (o : Option Coverage) → IsSomeAnd o (λ c. (at.field < length c.fields) × (at.tile < length (tile_boxes c.domain))) → IsSomeAnd o (λ c. at.field < length c.fields)
    some_field None h = absurd h
    some_field (Some c) h = h.0

-- ---- what a number reads

-- number 0 reads the store where nothing is held for it
pub reads_store : (v : ServerView) → held_for 0 v.held ≡ None → store_for 0 v ≡ v.store
reads_store v none = rw none refl

-- what is read as the store below tells it
module _ (job : ℕ) (cells : RasterView BlockFileView) where
  -- it is held for the number, or the store as it is
  some_view : (P : RasterView BlockFileView → Type 0) (A : Type 0) → (store_for job (shown cells) ≡ cells.coverages → P cells → A)
      → ((x : SnapshotView) → held_for job cells.snapshots ≡ Some x → store_for job (shown cells) ≡ x.coverages → P (as_held cells x) → A)
      → IsSomeAnd (held_view job cells) P → A
  some_view P A f g h = by_snapshot (held_for job cells.snapshots) refl
    where
      by_zero : (b : Bool) → nat_eq job 0 ≡ b → held_for job cells.snapshots ≡ None → A
      by_zero true t none = f (rw (none, t) refl) (rw (none, t) at h)
      by_zero false t none = absurd (rw (none, t) at h)

      by_snapshot : (o : Option SnapshotView) → held_for job cells.snapshots ≡ o → A
      by_snapshot None e = by_zero (nat_eq job 0) refl e
      by_snapshot (Some x) e = g x e (rw e refl) (rw e at h)

  -- what holds of what the number reads, and not of no coverages
  view_of : (P : Store → Type 0) → (P [] → ⊥) → P (store_for job (shown cells)) → IsSomeAnd (held_view job cells) (λ v. P v.coverages)
  view_of P some h = by_snapshot (held_for job cells.snapshots) refl
    where
      by_zero : (b : Bool) → nat_eq job 0 ≡ b → held_for job cells.snapshots ≡ None → IsSomeAnd (held_view job cells) (λ v. P v.coverages)
      by_zero true t none = rw (none, t) (rw (none, t) at h)
      by_zero false t none = absurd (some (rw (none, t) at h))

      by_snapshot : (o : Option SnapshotView) → held_for job cells.snapshots ≡ o → IsSomeAnd (held_view job cells) (λ v. P v.coverages)
      by_snapshot None e = by_zero (nat_eq job 0) refl e
      by_snapshot (Some x) e = rw e (rw e at h)

  -- a tile of it, as many values as it has points, and ranks of these
  pub view_tile : (at : TileAt) → HasTile at (store_for job (shown cells)) → IsSomeAnd (held_view job cells) (λ v. HasTile at v.coverages)
  view_tile at h = view_of (HasTile at) (λ none. none) h

  pub view_room : (at : TileAt) (values : List ℤ) → HasTileCount at (store_for job (shown cells)) values
      → IsSomeAnd (held_view job cells) (λ v. HasTileCount at v.coverages values)
  view_room at values h = view_of (λ store. HasTileCount at store values) (λ none. none) h

  pub view_ranks : (at : TileAt) (ranks : List ℕ) → HasRanks at ranks (store_for job (shown cells)) → IsSomeAnd (held_view job cells) (λ v. HasRanks at ranks v.coverages)
  view_ranks at ranks h = view_of (HasRanks at ranks) (λ none. none) h

  pub view_cells : (at : TileAt) (numbers : List ℤ) → IsSomeAnd (held_view job cells) (λ v. IsFetched state_of at v numbers) → IsTrue cells.blocks.honest
      → AreTileCells at (store_for job (shown cells)) numbers
  view_cells at numbers h honest =
      some_view (λ v. IsFetched state_of at v numbers) (AreTileCells at (store_for job (shown cells)) numbers)
      (λ same d. subst (λ (c : Store). AreTileCells at c numbers) (sym same) (d.values honest))
      (λ x held same d. subst (λ (c : Store). AreTileCells at c numbers) (sym same) (d.values honest)) h

  pub view_counted : (at : TileAt) (numbers : List ℤ) → IsSomeAnd (held_view job cells) (λ v. IsFetched state_of at v numbers)
      → HasTileCount at (store_for job (shown cells)) numbers
  view_counted at numbers h =
      some_view (λ v. IsFetched state_of at v numbers) (HasTileCount at (store_for job (shown cells)) numbers)
      (λ same d. subst (λ (c : Store). HasTileCount at c numbers) (sym same) d.counted)
      (λ x held same d. subst (λ (c : Store). HasTileCount at c numbers) (sym same) d.counted) h

  -- what is read at ranks
  pub view_picked : (at : TileAt) (ranks : List ℕ) (numbers : List ℤ) → IsSomeAnd (held_view job cells) (λ v. ArePicked state_of at ranks v numbers) → IsTrue cells.blocks.honest
      → AreRankedCells at ranks (store_for job (shown cells)) numbers
  view_picked at ranks numbers h honest =
      some_view (λ v. ArePicked state_of at ranks v numbers) (AreRankedCells at ranks (store_for job (shown cells)) numbers)
      (λ same d. subst (λ (c : Store). AreRankedCells at ranks c numbers) (sym same) (d.values honest))
      (λ x held same d. subst (λ (c : Store). AreRankedCells at ranks c numbers) (sym same) (d.values honest)) h

  pub view_picked_count : (at : TileAt) (ranks : List ℕ) (numbers : List ℤ) → IsSomeAnd (held_view job cells) (λ v. ArePicked state_of at ranks v numbers) → length numbers ≡ length ranks
  view_picked_count at ranks numbers h = some_view (λ v. ArePicked state_of at ranks v numbers) (length numbers ≡ length ranks) (λ same d. d.counted) (λ x held same d. d.counted) h

  -- a tile that is damaged is not spelled
  pub view_damaged : (at : TileAt) → IsSomeAnd (held_view job cells) (λ v. IsDamagedAt state_of at v) → IsTrue cells.blocks.honest → IsSpelledFor job at (shown cells) → ⊥
  view_damaged at h honest spelled = by_snapshot (held_for job cells.snapshots) refl
    where
      by_zero : (b : Bool) → nat_eq job 0 ≡ b → held_for job cells.snapshots ≡ None → ⊥
      by_zero true t none =
          let damaged : IsDamagedAt state_of at cells = rw (none, t) at h in
          let is : IsSpelledAt at cells.blocks.content cells.coverages cells.indexes = rw (none, t) at spelled in damaged honest is
      by_zero false t none = absurd (rw (none, t) at h)

      by_snapshot : (o : Option SnapshotView) → held_for job cells.snapshots ≡ o → ⊥
      by_snapshot None e = by_zero (nat_eq job 0) refl e
      by_snapshot (Some x) e =
          let damaged : IsDamagedAt state_of at (as_held cells x) = rw e at h in
          let is : IsSpelledAt at cells.blocks.content x.coverages x.indexes = rw e at spelled in damaged honest is

  pub view_place : (name : List ℕ) (result : Option ℕ) → IfSome result (λ place. IsSomeAnd (held_view job cells) (λ v. IsPlaceOf name v.coverages place))
      → IfSome result (IsPlaceOf name (store_for job (shown cells)))
  view_place name None h = tt
  view_place name (Some place) h =
      some_view (λ v. IsPlaceOf name v.coverages place) (IsPlaceOf name (store_for job (shown cells)) place)
      (λ same d. subst (λ (c : Store). IsPlaceOf name c place) (sym same) d) (λ x held same d. subst (λ (c : Store). IsPlaceOf name c place) (sym same) d) h

  pub view_none : (name : List ℕ) (result : Option ℕ) → IfNone result (IsSomeAnd (held_view job cells) (λ v. found name v.coverages ≡ None))
      → IfNone result (found name (store_for job (shown cells)) ≡ None)
  view_none name None h =
      some_view (λ v. found name v.coverages ≡ None) (found name (store_for job (shown cells)) ≡ None)
      (λ same d. subst (λ (c : Store). found name c ≡ None) (sym same) d) (λ x held same d. subst (λ (c : Store). found name c ≡ None) (sym same) d) h
  view_none name (Some place) h = tt

-- ---- faults

-- what is not changed but in its counts is as sound
pub still_sound : (v w : ServerView) → still_of w ≡ still_of v → IsSound v → IsSound w
still_sound v w same s = record {
  honest = rw (ap (λ (u : ServerView). u.honest) same) s.honest;
  intact = rw (ap (λ (u : ServerView). u.content) same, ap (λ (u : ServerView). u.store) same, ap (λ (u : ServerView). u.indexes) same) s.intact;
  held = rw (ap (λ (u : ServerView). u.content) same, ap (λ (u : ServerView). u.held) same) s.held;
}

-- how a tile that is not read is told
module _ (v w : ServerView) (job : ℕ) (places : List ℕ) (n : ℕ) (at : TileAt) (here : slice_get places n ≡ Some at.coverage) (has : HasTile at (store_for job v)) where
  pub tile_reports : (fault : Fault) (e : CellError) → TellsCells fault e → Refuses {T = Unit {0}} (Err fault) (IsTrue v.honest → IsSpelledFor job at v → ⊥) ⊥
      → Tells (IsErrOf {T = Unit {0}} (Err fault) device.DiskFault) v.failures w.failures → Reports e (ReadsSpelled (still_of v) job places) v.failures w.failures
  tile_reports device.NoMemory e is why told = rw is (told.quiet (λ f. absurd cc))
  tile_reports device.DiskFault e is why told = rw is ((never_fewer _ _ _ told, let rose = told.told refl in omega (arith, rose)))
  tile_reports device.NoRoom e is why told = absurd is
  tile_reports device.Damaged e is why told = rw is ((λ reads. why.for_damage refl reads.honest (spelled reads.spelled), told.quiet (λ f. absurd cc)))
    where
      spelled : ArePlacesSpelled job places v → IsSpelledFor job at v
      spelled all = all_at (IsSpelledPlace v.content (store_for job v) (indexes_for job v)) places n at.coverage here all at refl has

-- ---- coverages whose tiles are spelled, and those where one is not

-- of the store, by the names that a query lists
pub places_spelled : (v : ServerView) (asked : List Signature) (places : List ℕ) → signatures_at v.store places ≡ asked → AreSpelled asked v
    → All (IsSpelledPlace v.content v.store v.indexes) places
places_spelled v asked [] same all = All-nil (IsSpelledPlace v.content v.store v.indexes)
places_spelled v [] (q ∷ places) same all = absurd cc
places_spelled v (s ∷ asked) (q ∷ places) same all =
    let here : signature_or_none (slice_get v.store q) ≡ s = cc in
    let rest : signatures_at v.store places ≡ asked = cc in
    let this = All-head (λ (t : Signature). IsSpelledNamed t.name v) s asked all in
    All-cons (IsSpelledPlace v.content v.store v.indexes) q places (λ at is has. this q (named _ (slice_get v.store q) here (subst (λ (k : ℕ). IsSomeAnd (slice_get v.store k) (λ c. (at.field < length c.fields) × (at.tile < length (tile_boxes c.domain)))) is has)) at is has)
    (places_spelled v asked places rest (All-tail (λ (t : Signature). IsSpelledNamed t.name v) s asked all))
  where
    named : (P : Coverage → Type 0) (o : Option Coverage) → signature_or_none o ≡ s → IsSomeAnd o P → IsSomeAnd o (λ c. c.name ≡ s.name)
    named P None e h = absurd h
    named P (Some c) e h = ap (λ (t : Signature). t.name) e

-- for number 0 where nothing is held for it
pub store_spelled : (v : ServerView) (asked : List Signature) (places : List ℕ) → held_for 0 v.held ≡ None → signatures_at v.store places ≡ asked → AreSpelled asked v
    → ArePlacesSpelled 0 places v
store_spelled v asked places none same all = rw none (places_spelled v asked places same all)

-- of what is held for a job
pub held_spoils : (v : ServerView) (n : ℕ) (places : List ℕ) → IsSomeAnd (held_for n v.held) (λ x. x.coverages ≡ store_for n v) → (ArePlacesSpelled n places v → ⊥)
    → SpoilsHeld n v
held_spoils v n places some bad = by_held (held_for n v.held) some bad
  where
    by_held : (o : Option SnapshotView) → IsSomeAnd o (λ x. x.coverages ≡ store_for n v)
        → (All (IsSpelledPlace v.content (held_or o (cond (nat_eq n 0) v.store [])) (indexes_or o (cond (nat_eq n 0) v.indexes []))) places → ⊥)
        → IsSomeAnd o (λ x. ((place : ℕ) → IsSpelledPlace v.content x.coverages x.indexes place) → ⊥)
    by_held None h f = absurd h
    by_held (Some x) h f = λ all. f (λ k d l. all (get_or places k d))

-- ---- what is said of what is found

pub some_both : {X : Type 0} (o : Option X) {P Q R : X → Type 0} → ((x : X) → P x → Q x → R x) → IsSomeAnd o P → IsSomeAnd o Q → IsSomeAnd o R
some_both None f h k = absurd h
some_both (Some x) f h k = f x h k

pub some_out : {X : Type 0} (o : Option X) {P : X → Type 0} {A : Type 0} → ((x : X) → P x → A) → IsSomeAnd o P → A
some_out None f h = absurd h
some_out (Some x) f h = f x h
