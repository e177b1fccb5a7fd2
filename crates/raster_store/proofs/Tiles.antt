-- What a write of a patch to a field leaves of the tiles of a store.
use Rattle.std.proofs.Common.{◌≡◌, ◌≢◌, ℕ, zero, suc, ◌<◌, List, [], ◌∷◌, length, get_or, set, map, refl, sym, ap, ◌∙◌, subst, arith, Some, None, inl, inr, if◌then◌else◌, ℤ, pos, ◌⊎◌}
use Rattle.std.specs.Prelude.{slice_get, Option, IsSomeAnd, unwrap_or}
use Rattle.std.specs.List.{remove}
use Rattle.std.specs.Str.{bytes_eq}
use Rattle.std.proofs.lemmas.Bool.{cases_Bool, cases_eq, iff_false}
use Rattle.std.proofs.lemmas.Int.{ints}
use Rattle.std.proofs.lemmas.List.{get_or-map, get_or_default, get_or-set_same, length-set}
use Rattle.std.proofs.lemmas.Option.{slice_get-get_or}
use Rattle.std.proofs.lemmas.Slice.Eq.{bytes_eq-Decides}
use Rattle.arr_core.specs.declared.cell.FieldType.{FieldType}
use Rattle.arr_core.specs.declared.domain.Axis.{Axis}
use Rattle.arr_core.specs.declared.field.Field.{Field}
use Rattle.arr_core.specs.declared.signature.Signature.{Signature}
use Rattle.arr_core.specs.Domains.{points, count, point_at, rank_of, is_inside, IsInside, IsBoxOf, AreOrdered}
use Rattle.arr_core.specs.Stores.{Coverage, Store, found, value_at, updated_coverage, updated}
use Rattle.arr_core.specs.Tiles.{grid, edge_of, tile_box, TileMeets}
use Rattle.arr_core.proofs.Points.{at_rank, at_place, length-points, point-inside, rank_of-lt-count}
use Rattle.arr_core.proofs.Boxes.{IsBoxOf-box}
use Rattle.arr_core.proofs.Grids.{ordered-grid, edge-some, length-tile_boxes, get_or-tile_boxes}
use Rattle.block_file.specs.State.{BlocksState}
use Rattle.tile_index.specs.declared.entry.Entry.{Entry}
use Rattle.tile_index.specs.Index.{found_at}
use Rattle.tile_store.specs.declared.numbers.Patch.{Patch}
use Rattle.tile_store.specs.Patches.{IsPatched, numbers_of}
use Rattle.tile_store.specs.Room.{entry_blocks, tile_blocks, cells_after, patched_at}
use Rattle.tile_store.specs.Stored.{field_values, number_at, IsTileSpelled, IsPadded, KeepsListed, HasForm}
use Rattle.tile_store.proofs.Kept.{tile_kept, padded_kept}
use Rattle.raster_store.specs.declared.held.Held.{Held}
use Rattle.raster_store.specs.Views.{Index, SnapshotView, values_in}
use Rattle.raster_store.specs.Calls.{signature_of, AreSameSignatures, index_of}
use Rattle.raster_store.specs.Fields.{HasKind}
use Rattle.raster_store.specs.Fetches.{IsSpelledOf}
use Rattle.raster_store.specs.Holding.{coverages_of, coverage_of, indexes_of, index_at, IsNamedAt, IsHeld}
use Rattle.raster_store.specs.Tiles.{entry_in, values_of_tile, TakesItsBlocks, HasItsForm, IsCovered, IsSpelledTile, WritesTiles}
use Rattle.raster_store.proofs.Contents.{KeepsFields, KeepsAll, fields_kept, all_kept, values-at, named_within, found_named}
use Rattle.raster_store.proofs.Readings.{some_within, some_at, kind_gives, known_named, indexes_at, box_inside, same_map, spelled_named}
use Rattle.raster_store.proofs.Writes.{view_of, same_signatures}

-- ---- the values of a tile

-- axes with a point are ordered
ordered_by : (axes : List Axis) (p : List ℤ) → IsInside axes p → AreOrdered axes
ordered_by [] p h = tt
ordered_by (a ∷ axes) [] h = absurd h
ordered_by (a ∷ axes) (x ∷ p) h = (omega (arith, ints, h.0, h.1), ordered_by axes p h.2)

-- a tile that a box meets is a box of the domain
tile_within : (domain area : List Axis) (tile : ℕ) → IsBoxOf domain area → TileMeets domain tile area → AreOrdered (tile_box domain tile) × IsBoxOf domain (tile_box domain tile)
tile_within domain area tile box (low, (p, here, there)) =
    let ordered = ordered_by domain p (box_inside domain area p box there) in
    let e = edge_of (length domain) in
    let below : tile < count (grid e domain) = omega (arith, low, length-tile_boxes domain) in
    let at = point_at (grid e domain) tile in
    let inside : IsInside (grid e domain) at = point-inside (grid e domain) tile below (ordered-grid e domain) in
    let within : IsBoxOf domain (tile_box domain tile) = rw (get_or-tile_boxes domain tile [] below) (IsBoxOf-box e domain at (edge-some (length domain)) ordered inside) in
    (ordered_by (tile_box domain tile) p here, within)

values_long : (content : List ℕ) (domain : List Axis) (fields : List Field) (indexes : List Index) (j : ℕ) → j < length fields → j < length indexes → j < length (values_in content domain fields indexes)
values_long content domain [] indexes j h k = absurd (omega (arith, h))
values_long content domain (f ∷ fields) [] j h k = absurd (omega (arith, k))
values_long content domain (f ∷ fields) (i ∷ indexes) zero h k = omega arith
values_long content domain (f ∷ fields) (i ∷ indexes) (suc j) h k = omega (arith, values_long content domain fields indexes j (omega (arith, h)) (omega (arith, k)))

-- the value of an updated field at a point, and that of a field as its tiles have it
value_put : (c : Coverage) (j : ℕ) (area : List Axis) (numbers : List ℤ) (p : List ℤ) → j < length c.values → IsInside c.domain p → value_at (updated_coverage j area numbers c) j p ≡ patched_at area numbers (value_at c j) p
value_put c j area numbers p within inside =
    let put : List ℤ → ℤ = λ (q : List ℤ). patched_at area numbers (value_at c j) q in
    let below : rank_of c.domain p < length (points c.domain) = omega (arith, length-points c.domain, rank_of-lt-count c.domain p inside) in
    ap (λ (v : List ℤ). get_or v (rank_of c.domain p) (pos 0)) (get_or-set_same c.values j (map put (points c.domain)) [] within)
    ∙ get_or-map put (points c.domain) (rank_of c.domain p) [] (pos 0) below ∙ ap put (at_rank c.domain p [] inside)

number_there : (content : List ℕ) (h : Held) (j : ℕ) (kind : FieldType) (p : List ℤ) → HasKind h.signature.fields j kind → j < length h.fields.items → IsInside h.signature.domain p
    → value_at (coverage_of content h) j p ≡ number_at kind h.signature.domain (index_at h j) content p
unfolding field_values
number_there content h j kind p is within inside =
    let domain = h.signature.domain in
    let number = number_at kind domain (index_at h j) content in
    let below : rank_of domain p < length (points domain) = omega (arith, length-points domain, rank_of-lt-count domain p inside) in
    ap (λ (v : List ℤ). get_or v (rank_of domain p) (pos 0)) (values-at content domain h.signature.fields h.fields.items j kind is within).0
    ∙ get_or-map number (points domain) (rank_of domain p) [] (pos 0) below ∙ ap number (at_rank domain p [] inside)

-- the values of a tile after an update are its cells after the numbers were put into it
tile_put : (content : List ℕ) (h : Held) (j : ℕ) (kind : FieldType) (area : List Axis) (numbers : List ℤ) (tile : ℕ) → HasKind h.signature.fields j kind → j < length h.fields.items → IsBoxOf h.signature.domain area → TileMeets h.signature.domain tile area
    → values_of_tile (updated_coverage j area numbers (coverage_of content h)) j tile ≡ cells_after kind h.signature.domain (index_at h j) content area numbers tile
tile_put content h j kind area numbers tile is within box meets =
    let domain = h.signature.domain in
    let c = coverage_of content h in
    let part = tile_box domain tile in
    let of = tile_within domain area tile box meets in
    let long : j < length c.values = values_long content domain h.signature.fields h.fields.items j (some_within h.signature.fields j (λ (f : Field). f.kind ≡ kind) is) within in
    same_map (value_at (updated_coverage j area numbers c) j) (patched_at area numbers (number_at kind domain (index_at h j) content)) (points part) (λ k d l.
    let below : k < count part = omega (arith, l, length-points part) in
    let p = point_at part k in
    let inside : IsInside domain p = box_inside domain part p of.1 (point-inside part k below of.0) in
    rw (at_place part k d below)
    (value_put c j area numbers p long inside ∙ ap (λ (z : ℤ). if is_inside area p then get_or numbers (rank_of area p) (pos 0) else z) (number_there content h j kind p is within inside)))

-- ---- the coverage with a name

found_put : (name : List ℕ) (field : ℕ) (area : List Axis) (numbers : List ℤ) (s : Store) (c : Coverage) → found name s ≡ Some c → found name (updated name field area numbers s) ≡ Some (updated_coverage field area numbers c)
found_put name field area numbers [] c is = absurd (cc)
found_put name field area numbers (x ∷ s) c is = elim (cases_Bool (bytes_eq x.name name)) [
  | inl this ↦
      let same : x ≡ c = (let e : Some x ≡ Some c = rw this at is in cc) in
      rw (this, this) (ap (λ (y : Coverage). Some (updated_coverage field area numbers y)) same)
  | inr other ↦ rw (other, other) (found_put name field area numbers s c (rw other at is))
]

-- what was found is told as what stood there before
found_like : (n : List ℕ) (old new : Store) (c' : Coverage) → AreSameSignatures old new → found n new ≡ Some c' → (c : Coverage) × (found n old ≡ Some c) × (signature_of c ≡ signature_of c')
found_like n old [] c' same is = absurd (cc)
found_like n [] (y ∷ new) c' same is = absurd (cc)
found_like n (x ∷ old) (y ∷ new) c' same is =
    let head : signature_of y ≡ signature_of x = cc in
    let tail : map signature_of new ≡ map signature_of old = cc in
    let test : bytes_eq y.name n ≡ bytes_eq x.name n = ap (λ (s : Signature). bytes_eq s.name n) head in
    elim (cases_Bool (bytes_eq x.name n)) [
      | inl this ↦
          let here = test ∙ this in
          let first : y ≡ c' = (let e : Some y ≡ Some c' = rw here at is in cc) in
          (x, rw this refl, sym head ∙ ap signature_of first)
      | inr other ↦
          let elsewhere = test ∙ other in
          let rest = found_like n old new c' tail (rw elsewhere at is) in
          (rest.0, rw other rest.1, rest.2)
    ]

-- ---- the index of a field

slice_other : {X : Type 0} (xs : List X) (j f : ℕ) (x : X) → f ≢ j → slice_get (set xs j x) f ≡ slice_get xs f
slice_other [] j f x e = refl
slice_other (y ∷ ys) zero zero x e = absurd (e refl)
slice_other (y ∷ ys) zero (suc f) x e = refl
slice_other (y ∷ ys) (suc j) zero x e = refl
slice_other (y ∷ ys) (suc j) (suc f) x e = slice_other ys j f x (λ is. e (ap suc is))

-- it hangs on no content
index_names : (old new : List ℕ) (n : List ℕ) (f : ℕ) (held : List Held) → index_of n f (coverages_of new held) (indexes_of held) ≡ index_of n f (coverages_of old held) (indexes_of held)
index_names old new n f [] = refl
index_names old new n f (g ∷ held) = ap (λ (o : Option Index). if bytes_eq g.signature.name n then slice_get g.fields.items f else o) (index_names old new n f held)

named_set : (name : List ℕ) (held : List Held) (i : ℕ) (h' : Held) → h'.signature ≡ (get_or held i h').signature → IsNamedAt name held i → IsNamedAt name (set held i h') i
named_set name [] i h' e at = absurd at
named_set name (g ∷ held) zero h' e at = (rw e at.0, at.1)
named_set name (g ∷ held) (suc i) h' e at = (at.0, named_set name held i h' e at.1)

-- where another field has another index
other_index : (old new : List ℕ) (n : List ℕ) (f : ℕ) (name : List ℕ) (held : List Held) (i j : ℕ) (h h' : Held) (x' : Index) → IsNamedAt name held i → h ≡ get_or held i h → h'.signature ≡ h.signature → h'.fields.items ≡ set h.fields.items j x'
    → (n ≡ name → f ≡ j → ⊥) → index_of n f (coverages_of new (set held i h')) (indexes_of (set held i h')) ≡ index_of n f (coverages_of old held) (indexes_of held)
other_index old new n f name [] i j h h' x' at was signature fields apart = absurd at
other_index old new n f name (g ∷ held) zero j h h' x' at was signature fields apart =
    let told : h'.signature ≡ g.signature = signature ∙ ap (λ (y : Held). y.signature) was in
    let items : h'.fields.items ≡ set g.fields.items j x' = fields ∙ ap (λ (y : Held). set y.fields.items j x') was in
    elim (cases_Bool (bytes_eq g.signature.name n)) [
      | inl this ↦
          let is : n ≡ name = sym ((bytes_eq-Decides g.signature.name n).0 this) ∙ (bytes_eq-Decides g.signature.name name).0 at.0 in
          rw (told, items, this) (slice_other g.fields.items j f x' (apart is))
      | inr other ↦ rw (told, other) (index_names old new n f held)
    ]
other_index old new n f name (g ∷ held) (suc i) j h h' x' at was signature fields apart =
    ap (λ (o : Option Index). if bytes_eq g.signature.name n then slice_get g.fields.items f else o) (other_index old new n f name held i j h h' x' at.1 was signature fields apart)

-- the listed blocks of an index of a store hold what they held: of any field, and of each but one
field_index : (old new : List ℕ) (fields : List Index) (f : ℕ) (x : Index) → KeepsFields fields old new → slice_get fields f ≡ Some x → KeepsListed x old new
field_index old new [] f x kept is = absurd (cc)
field_index old new (y ∷ ys) zero x kept is = (let same : y ≡ x = cc in subst (λ (z : Index). KeepsListed z old new) same (fields_kept old new y ys kept).0)
field_index old new (y ∷ ys) (suc f) x kept is = field_index old new ys f x (fields_kept old new y ys kept).1 is

field_other : (old new : List ℕ) (fields : List Index) (j f : ℕ) (x : Index) → KeepsFields (remove fields j) old new → f ≢ j → slice_get fields f ≡ Some x → KeepsListed x old new
field_other old new [] j f x kept e is = absurd (cc)
field_other old new (y ∷ ys) zero zero x kept e is = absurd (e refl)
field_other old new (y ∷ ys) zero (suc f) x kept e is = field_index old new ys f x kept is
field_other old new (y ∷ ys) (suc j) zero x kept e is = (let same : y ≡ x = cc in subst (λ (z : Index). KeepsListed z old new) same (fields_kept old new y (remove ys j) kept).0)
field_other old new (y ∷ ys) (suc j) (suc f) x kept e is = field_other old new ys j f x (fields_kept old new y (remove ys j) kept).1 (λ same. e (ap suc same)) is

store_index : (old new content : List ℕ) (n : List ℕ) (f : ℕ) (held : List Held) (x : Index) → KeepsAll (indexes_of held) old new → index_of n f (coverages_of content held) (indexes_of held) ≡ Some x → KeepsListed x old new
store_index old new content n f [] x kept is = absurd (cc)
store_index old new content n f (g ∷ held) x kept is =
    let parts = all_kept old new g.fields.items (indexes_of held) kept in
    elim (cases_Bool (bytes_eq g.signature.name n)) [
      | inl this ↦ field_index old new g.fields.items f x parts.0 (rw this at is)
      | inr other ↦ store_index old new content n f held x parts.1 (rw other at is)
    ]

store_other : (old new content : List ℕ) (n : List ℕ) (f : ℕ) (name : List ℕ) (held : List Held) (i j : ℕ) (h : Held) (x : Index) → KeepsAll (indexes_of (remove held i)) old new → KeepsFields (remove h.fields.items j) old new → IsNamedAt name held i → h ≡ get_or held i h
    → (n ≡ name → f ≡ j → ⊥) → index_of n f (coverages_of content held) (indexes_of held) ≡ Some x → KeepsListed x old new
store_other old new content n f name [] i j h x all fields at was apart is = absurd at
store_other old new content n f name (g ∷ held) zero j h x all fields at was apart is = elim (cases_Bool (bytes_eq g.signature.name n)) [
  | inl this ↦
      let named : n ≡ name = sym ((bytes_eq-Decides g.signature.name n).0 this) ∙ (bytes_eq-Decides g.signature.name name).0 at.0 in
      let kept : KeepsFields (remove g.fields.items j) old new = subst (λ (y : Held). KeepsFields (remove y.fields.items j) old new) was fields in
      field_other old new g.fields.items j f x kept (apart named) (rw this at is)
  | inr other ↦ store_index old new content n f held x all (rw other at is)
]
store_other old new content n f name (g ∷ held) (suc i) j h x all fields at was apart is =
    let parts = all_kept old new g.fields.items (indexes_of (remove held i)) all in
    elim (cases_Bool (bytes_eq g.signature.name n)) [
      | inl this ↦ field_index old new g.fields.items f x parts.0 (rw this at is)
      | inr other ↦ store_other old new content n f name held i j h x parts.1 fields at.1 was apart (rw other at is)
    ]

-- a store whose listed blocks hold what they held
pub tiles_kept : (old new : List ℕ) (held : List Held) → KeepsAll (indexes_of held) old new → (n : List ℕ) (f tile : ℕ) → IsSpelledOf n f tile old (coverages_of old held) (indexes_of held) → IsSpelledOf n f tile new (coverages_of new held) (indexes_of held)
tiles_kept old new held kept n f tile spelled c g x is_found is_field is_index =
    let before = found_like n (coverages_of old held) (coverages_of new held) c (same_signatures old new held held refl) is_found in
    let index = sym (index_names old new n f held) ∙ is_index in
    let was = spelled before.0 g x before.1 (ap (λ (t : Signature). slice_get t.fields f) before.2 ∙ is_field) index in
    tile_kept g.kind c.domain x old new tile (store_index old new old n f held x kept index) (subst (λ (d : List Axis). IsTileSpelled g.kind d x old tile) (ap (λ (t : Signature). t.domain) before.2) was)

-- the type of a field
kind_is : (o : Option Field) (f : Field) (kind : FieldType) → o ≡ Some f → IsSomeAnd o (λ (g : Field). g.kind ≡ kind) → f.kind ≡ kind
kind_is o f kind is has = rw is at has

-- zeros follow the bytes of a tile of an index that may be there
abbrev IsPaddedAt : ℕ → List ℕ → Option Index → Type 0
IsPaddedAt tile content o = (e : Entry) → found_at tile (unwrap_or o []) ≡ Some e → IsPadded content e

padded_in : (tile : ℕ) (old new : List ℕ) (o : Option Index) → ((x : Index) → o ≡ Some x → KeepsListed x old new) → IsPaddedAt tile old o → IsPaddedAt tile new o
padded_in tile old new None kept padded e is = absurd (cc)
padded_in tile old new (Some x) kept padded e is = padded_kept x old new tile e (kept x refl) is (padded e is)

-- ---- the field j of the coverage h at a place has x' for its index, and h has become h'

pub record Exchange (s : BlocksState) (content : List ℕ) (held : List Held) (name : List ℕ) (i j : ℕ) (kind : FieldType) (h h' : Held) (x' : Index) : Type 0 where
  pub is_held : IsHeld s held
  pub at : IsNamedAt name held i
  pub was : h ≡ get_or held i h
  pub of_kind : HasKind h.signature.fields j kind
  pub field : j < length h.fields.items
  pub signature : h'.signature ≡ h.signature
  pub fields : h'.fields.items ≡ set h.fields.items j x'
  pub signatures : AreSameSignatures (coverages_of s.content held) (coverages_of content (set held i h'))
  pub coverages : KeepsAll (indexes_of (remove held i)) s.content content
  pub others : KeepsFields (remove h.fields.items j) s.content content

module _ {s : BlocksState} {content : List ℕ} {held : List Held} {name : List ℕ} {i j : ℕ} {kind : FieldType} {h h' : Held} {x' : Index} (w : Exchange s content held name i j kind h h' x') where
  abbrev before : Store
  before = coverages_of s.content held

  abbrev after : Store
  after = coverages_of content (set held i h')

  found_before : found name before ≡ Some (coverage_of s.content h)
  found_before = (known_named s held name h w.is_held (i, w.at, w.was)).at

  index_here : index_of name j after (indexes_of (set held i h')) ≡ Some x'
  index_here =
      let within = named_within name held i w.at in
      let told : h'.signature ≡ (get_or held i h').signature = w.signature ∙ ap (λ (y : Held). y.signature) w.was ∙ ap (λ (y : Held). y.signature) (get_or_default held i h h' within) in
      let long : j < length (set h.fields.items j x') = omega (arith, w.field, length-set h.fields.items j x') in
      (found_named content name j (set held i h') i (named_set name held i h' told w.at)).1
      ∙ ap (λ (l : List Index). slice_get l j) (indexes_at (set held i h') i h' (omega (arith, within, length-set held i h')) (sym (get_or-set_same held i h' h' within)) ∙ w.fields)
      ∙ slice_get-get_or (set h.fields.items j x') j [] long ∙ ap Some (get_or-set_same h.fields.items j x' [] w.field)

  index_before : index_of name j before (indexes_of held) ≡ Some (index_at h j)
  index_before =
      (found_named s.content name j held i w.at).1 ∙ ap (λ (l : List Index). slice_get l j) (indexes_at held i h (named_within name held i w.at) w.was) ∙ slice_get-get_or h.fields.items j [] w.field

  kept_apart : (n : List ℕ) (f : ℕ) (x : Index) → (n ≡ name → f ≡ j → ⊥) → index_of n f before (indexes_of held) ≡ Some x → KeepsListed x s.content content
  kept_apart n f x apart is = store_other s.content content s.content n f name held i j h x w.coverages w.others w.at w.was apart is

  index_apart : (n : List ℕ) (f : ℕ) → (n ≡ name → f ≡ j → ⊥) → index_of n f after (indexes_of (set held i h')) ≡ index_of n f before (indexes_of held)
  index_apart n f apart = other_index s.content content n f name held i j h h' x' w.at w.was w.signature w.fields apart

  -- a tile of the field is spelled, and one of another field
  spelled_here : (tile : ℕ) → IsTileSpelled kind h.signature.domain x' content tile → IsSpelledOf name j tile content after (indexes_of (set held i h'))
  spelled_here tile spelled c f x is_found is_field is_index =
      let old = found_like name before after c w.signatures is_found in
      let same : old.0 ≡ coverage_of s.content h = (let e : Some old.0 ≡ Some (coverage_of s.content h) = sym old.1 ∙ found_before in cc) in
      let told : h.signature ≡ signature_of c = sym (ap signature_of same) ∙ old.2 in
      let index : x' ≡ x = (let e : Some x' ≡ Some x = sym index_here ∙ is_index in cc) in
      let of : f.kind ≡ kind = kind_is (slice_get h.signature.fields j) f kind (ap (λ (t : Signature). slice_get t.fields j) told ∙ is_field) w.of_kind in
      rw (← index, of) (subst (λ (d : List Axis). IsTileSpelled kind d x' content tile) (ap (λ (t : Signature). t.domain) told) spelled)

  -- a tile of the field was spelled before
  spelled_before : (tile : ℕ) → IsTileSpelled kind h.signature.domain (index_at h j) s.content tile → IsSpelledOf name j tile s.content before (indexes_of held)
  spelled_before tile spelled c f x is_found is_field is_index =
      let same : coverage_of s.content h ≡ c = (let e : Some (coverage_of s.content h) ≡ Some c = sym found_before ∙ is_found in cc) in
      let told : h.signature ≡ signature_of c = ap signature_of same in
      let index : index_at h j ≡ x = (let e : Some (index_at h j) ≡ Some x = sym index_before ∙ is_index in cc) in
      let of : f.kind ≡ kind = kind_is (slice_get h.signature.fields j) f kind (ap (λ (t : Signature). slice_get t.fields j) told ∙ is_field) w.of_kind in
      rw (← index, of) (subst (λ (d : List Axis). IsTileSpelled kind d (index_at h j) s.content tile) (ap (λ (t : Signature). t.domain) told) spelled)

  spelled_apart : (n : List ℕ) (f tile : ℕ) → (n ≡ name → f ≡ j → ⊥) → IsSpelledOf n f tile s.content before (indexes_of held) → IsSpelledOf n f tile content after (indexes_of (set held i h'))
  spelled_apart n f tile apart spelled c g x is_found is_field is_index =
      let old = found_like n before after c w.signatures is_found in
      let index = sym (index_apart n f apart) ∙ is_index in
      let was = spelled old.0 g x old.1 (ap (λ (t : Signature). slice_get t.fields f) old.2 ∙ is_field) index in
      tile_kept g.kind c.domain x s.content content tile (kept_apart n f x apart index) (subst (λ (d : List Axis). IsTileSpelled g.kind d x s.content tile) (ap (λ (t : Signature). t.domain) old.2) was)

  padded_apart : (n : List ℕ) (f tile : ℕ) → (n ≡ name → f ≡ j → ⊥) → IsPaddedAt tile s.content (index_of n f before (indexes_of held)) → IsPaddedAt tile content (index_of n f after (indexes_of (set held i h')))
  padded_apart n f tile apart padded =
      subst (IsPaddedAt tile content) (sym (index_apart n f apart)) (padded_in tile s.content content (index_of n f before (indexes_of held)) (λ x is. kept_apart n f x apart is) padded)

-- the field with a name and a place, or another one
this_or : (n name : List ℕ) (f j : ℕ) → ((n ≡ name) × (f ≡ j)) ⊎ (n ≡ name → f ≡ j → ⊥)
this_or n name f j = elim (cases_Bool (bytes_eq n name)) [
  | inl e ↦ elim (cases_eq f j) [ inl same ↦ inl ((bytes_eq-Decides n name).0 e, same) | inr other ↦ inr (λ a b. other b) ]
  | inr e ↦ inr (λ a b. iff_false (bytes_eq-Decides n name) e a)
]

-- a patch was written to the field
module _ {B : Type 0} (state : B → BlocksState) (old new : B) {held : List Held} {name : List ℕ} {i j : ℕ} {kind : FieldType} {h h' : Held} {x' : Index} (w : Exchange (state old) (state new).content held name i j kind h h' x') (xs xs' : List SnapshotView) (fetched : ℕ)
    (u : Patch) (domain : u.domain.now ≡ h.signature.domain) (same : u.kind ≡ kind) (box : IsBoxOf h.signature.domain u.area.now) (done : IsPatched u (state old) (index_at h j) (state new) x')
    (put : coverages_of (state new).content (set held i h') ≡ updated name j u.area.now (numbers_of u) (coverages_of (state old).content held)) where
  meets : (tile : ℕ) → IsSomeAnd (found name (coverages_of (state old).content held)) (λ c. TileMeets c.domain tile u.area.now) → TileMeets h.signature.domain tile u.area.now
  meets tile met = rw (found_before w) at met

  meets_store : (tile : ℕ) → TileMeets h.signature.domain tile u.area.now → IsSomeAnd (found name (coverages_of (state old).content held)) (λ c. TileMeets c.domain tile u.area.now)
  meets_store tile met = some_at (found name (coverages_of (state old).content held)) (coverage_of (state old).content h) (λ c. TileMeets c.domain tile u.area.now) (found_before w) met

  -- what is so of a tile's new entry and cells is so of them in the store
  put_here : (P : FieldType → Option Entry → List ℤ → Type 0) (tile : ℕ) → TileMeets h.signature.domain tile u.area.now → P kind (found_at tile x') (cells_after kind h.signature.domain (index_at h j) (state old).content u.area.now (numbers_of u) tile)
      → IsSomeAnd (found name (coverages_of (state new).content (set held i h')))
      (λ c. IsSomeAnd (slice_get c.fields j) (λ (f : Field). P f.kind (entry_in name j tile (view_of state new (set held i h') xs' fetched)) (values_of_tile c j tile)))
  put_here P tile met fact =
      let content = (state old).content in
      let after = coverages_of (state new).content (set held i h') in
      let c = updated_coverage j u.area.now (numbers_of u) (coverage_of content h) in
      let is_found : found name after ≡ Some c = ap (found name) put ∙ found_put name j u.area.now (numbers_of u) (coverages_of content held) (coverage_of content h) (found_before w) in
      let entry : Option Entry = found_at tile (unwrap_or (index_of name j after (indexes_of (set held i h'))) []) in
      let listed : found_at tile x' ≡ entry = sym (ap (λ (o : Option Index). found_at tile (unwrap_or o [])) (index_here w)) in
      let there : P kind entry (values_of_tile c j tile) =
      subst (λ (e : Option Entry). P kind e (values_of_tile c j tile)) listed (subst (P kind (found_at tile x')) (sym (tile_put content h j kind u.area.now (numbers_of u) tile w.of_kind w.field box met)) fact) in
      some_at (found name after) c (λ c. IsSomeAnd (slice_get c.fields j) (λ (f : Field). P f.kind entry (values_of_tile c j tile))) is_found
      (kind_gives (slice_get h.signature.fields j) kind (λ (k : FieldType). P k entry (values_of_tile c j tile)) w.of_kind there)

  takes_here : (tile : ℕ) → TileMeets h.signature.domain tile u.area.now → TakesItsBlocks name j tile (view_of state new (set held i h') xs' fetched)
  takes_here tile met = put_here (λ k e cells. entry_blocks e ≡ tile_blocks k cells) tile met ((rw (same, domain) at (done.blocks tile)) met)

  form_here : (tile : ℕ) → TileMeets h.signature.domain tile u.area.now → HasItsForm name j tile (view_of state new (set held i h') xs' fetched)
  form_here tile met = put_here HasForm tile met ((rw (same, domain) at (done.form tile)) met)

  read_here : (tile : ℕ) → TileMeets h.signature.domain tile u.area.now
      → IsCovered u.area.now (view_of state old held xs fetched) name tile ⊎ IsSpelledTile state (view_of state old held xs fetched) name j tile
  read_here tile met = elim ((rw (same, domain) at (done.read tile)) met) [
    | inl covers ↦ inl (some_at (found name (coverages_of (state old).content held)) (coverage_of (state old).content h) (λ c. IsBoxOf u.area.now (tile_box c.domain tile)) (found_before w) covers)
    | inr spelled ↦ inr (spelled_before w tile spelled)
  ]

  entry_here : (tile : ℕ) → (TileMeets h.signature.domain tile u.area.now → ⊥) → entry_in name j tile (view_of state new (set held i h') xs' fetched) ≡ entry_in name j tile (view_of state old held xs fetched)
  entry_here tile apart =
      ap (λ (o : Option Index). found_at tile (unwrap_or o [])) (index_here w) ∙ (rw domain at (done.same tile)) apart ∙ sym (ap (λ (o : Option Index). found_at tile (unwrap_or o [])) (index_before w))

  still_spelled : (tile : ℕ) → IsSpelledOf name j tile (state old).content (coverages_of (state old).content held) (indexes_of held) → IsTileSpelled kind h.signature.domain x' (state new).content tile
  still_spelled tile spelled = (rw (same, domain) at (done.others tile)) (spelled_named (state old) held name j h kind tile w.is_held (i, w.at, w.was) w.of_kind w.field spelled)

  padded_here : (tile : ℕ) → TileMeets h.signature.domain tile u.area.now ⊎ IsPaddedAt tile (state old).content (index_of name j (coverages_of (state old).content held) (indexes_of held))
      → IsPaddedAt tile (state new).content (index_of name j (coverages_of (state new).content (set held i h')) (indexes_of (set held i h')))
  padded_here tile was =
      subst (IsPaddedAt tile (state new).content) (sym (index_here w))
      ((rw domain at (done.padded tile)) (elim was [ inl met ↦ inl met | inr padded ↦ inr (subst (IsPaddedAt tile (state old).content) (index_before w) padded) ]))

  pub tiles_written : WritesTiles state name j u.area.now (view_of state old held xs fetched) (view_of state new (set held i h') xs' fetched)
  tiles_written = record {
    takes = λ n f tile met. rw (met.0, met.1) (takes_here tile (meets tile met.2));
    form = λ n f tile met. rw (met.0, met.1) (form_here tile (meets tile met.2));
    others = λ n f tile unmet. elim (this_or n name f j) [
      | inl both ↦ rw (both.0, both.1) (entry_here tile (λ met. unmet (both.0, both.1, meets_store tile met)))
      | inr apart ↦ ap (λ (o : Option Index). found_at tile (unwrap_or o [])) (index_apart w n f apart)
    ];
    spelled = λ n f tile was. elim was [
      | inl met ↦ rw (met.0, met.1) (spelled_here w tile ((rw (same, domain) at (done.written tile)) (meets tile met.2)))
      | inr spelled ↦ elim (this_or n name f j) [
        | inl both ↦ rw (both.0, both.1) (spelled_here w tile (still_spelled tile (rw (both.0, both.1) at spelled)))
        | inr apart ↦ spelled_apart w n f tile apart spelled
      ]
    ];
    padded = λ n f tile was. elim (this_or n name f j) [
      | inl both ↦ rw (both.0, both.1) (padded_here tile (elim was [ inl met ↦ inl (meets tile met.2) | inr padded ↦ inr (rw (both.0, both.1) at padded) ]))
      | inr apart ↦ elim was [ inl met ↦ absurd (apart met.0 met.1) | inr padded ↦ padded_apart w n f tile apart padded ]
    ];
    read = λ n f tile met. rw (met.0, met.1) (read_here tile (meets tile met.2));
  }
