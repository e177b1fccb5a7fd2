-- What is known of a coverage that is found, and what reads of its fields' tiles say of it.
use Rattle.std.proofs.Common.{◌≡◌, ℕ, zero, suc, ◌<◌, List, [], ◌∷◌, length, Option, Some, None, arith, get_or, refl, sym, ap, ◌∙◌, subst, map, All, ◌+◌, ◌++◌, take}
use Rattle.std.specs.Prelude.{IsSomeAnd, slice_get, IsTrue, option_map, ℤ, pos}
use Rattle.std.proofs.lemmas.List.{length-map, get_or-map, map_push, take_more}
use Rattle.std.proofs.lemmas.List.Elements.{All-from_recursion}
use Rattle.std.proofs.lemmas.Option.{slice_get-map, slice_get_read, slice_get-get_or}
use Rattle.std.proofs.lemmas.Int.{ints}
use Rattle.arr_core.specs.declared.cell.FieldType.{FieldType}
use Rattle.arr_core.specs.declared.field.Field.{Field}
use Rattle.arr_core.specs.declared.domain.Axis.{Axis}
use Rattle.arr_core.specs.Domains.{IsBoxOf, points, count, point_at, rank_of, IsInside, IsDomain, AreOrdered}
use Rattle.arr_core.specs.Stores.{Coverage, Store, found, value_at}
use Rattle.arr_core.specs.Tiles.{tile_boxes, grid, edge_of, tile_box, TileMeets}
use Rattle.arr_core.proofs.Points.{at_rank, at_place, length-points, point-inside, rank_of-lt-count}
use Rattle.arr_core.proofs.Boxes.{IsDomain-box, IsBoxOf-box}
use Rattle.arr_core.proofs.Grids.{ordered-grid, edge-some, length-tile_boxes, get_or-tile_boxes}
use Rattle.block_file.specs.State.{BlocksState, block}
use Rattle.block_file.specs.Words.{Covers}
use Rattle.tile_store.specs.declared.numbers.Numbers.{Numbers}
use Rattle.tile_store.specs.Numbers.{AreNumbers}
use Rattle.tile_store.specs.Listing.{IsBelow, IsSound}
use Rattle.tile_store.specs.declared.field.FieldTiles.{FieldTiles}
use Rattle.tile_store.specs.Picking.{picked}
use Rattle.tile_store.specs.Reading.{number_in, ArePicked, IsSpelledIn, IsTileRead}
use Rattle.tile_store.specs.Stored.{field_values, number_at, IsTileSpelled}
use Rattle.raster_store.specs.declared.held.Held.{Held}
use Rattle.raster_store.specs.declared.reading.TileAt.{TileAt}
use Rattle.raster_store.specs.Views.{FieldsIntact, AreIntact, listed_fields, Index}
use Rattle.raster_store.specs.Calls.{HasField}
use Rattle.raster_store.specs.Fetches.{HasTile, HasRanks, IsPlaceOf, IsSpelledAt, IsSpelledOf, IsDecoded, ArePickedIn}
use Rattle.raster_store.specs.Holding.{coverages_of, coverage_of, indexes_of, index_at, NoneNamed, IsNamedAt, IsWhole, IsHeld}
use Rattle.raster_store.specs.Fields.{IsNamed, HasKind, HasPatch, IsFieldOf}
use Rattle.raster_store.proofs.Contents.{intact-at, found_none, found_named, named_within, values-at}
use Rattle.raster_store.proofs.Totals.{all_parts, field_parts}

pub some_weaker : {X : Type 0} (o : Option X) (P Q : X → Type 0) → ((x : X) → P x → Q x) → IsSomeAnd o P → IsSomeAnd o Q
some_weaker None P Q f h = absurd h
some_weaker (Some x) P Q f h = f x h

pub some_within : {X : Type 0} (xs : List X) (i : ℕ) (P : X → Type 0) → IsSomeAnd (slice_get xs i) P → i < length xs
some_within [] i P has = absurd has
some_within (x ∷ xs) zero P has = omega arith
some_within (x ∷ xs) (suc i) P has = omega (arith, some_within xs i P has)

-- what is true of a field's type is true of the type that it has
pub kind_has : (o : Option Field) (kind : FieldType) (P : FieldType → Type 0) → IsSomeAnd o (λ f. f.kind ≡ kind) → IsSomeAnd o (λ f. P f.kind) → P kind
kind_has None kind P is has = absurd has
kind_has (Some f) kind P is has = rw (← is) has

pub kind_gives : (o : Option Field) (kind : FieldType) (P : FieldType → Type 0) → IsSomeAnd o (λ f. f.kind ≡ kind) → P kind → IsSomeAnd o (λ f. P f.kind)
kind_gives None kind P is has = absurd is
kind_gives (Some f) kind P is has = rw is has

-- the coverage h of a store was found: what it says, its blocks, and that it is whole
pub record Known (s : BlocksState) (held : List Held) (o : Option Coverage) (h : Held) : Type 0 where
  pub at : o ≡ Some (coverage_of s.content h)
  pub whole : IsWhole h
  pub counted : Covers s (listed_fields h.fields.items)
  pub filled : IsTrue s.honest → (k : ℕ) → 0 < listed_fields h.fields.items k → length (block s k) ≡ 4096
  pub intact : AreIntact s.content (coverages_of s.content held) (indexes_of held) → FieldsIntact s.content h.signature.domain h.signature.fields h.fields.items

pub known : (s : BlocksState) (held : List Held) (place : ℕ) (h : Held) → IsHeld s held → place < length held → h ≡ get_or held place h → Known s held (slice_get (coverages_of s.content held) place) h
known s held place h is within was = record {
  at = slice_get-map (coverage_of s.content) held place ∙ ap (option_map (coverage_of s.content)) (slice_get_read held (length held) place h refl within was);
  whole = subst IsWhole (sym was) (is.each place h within);
  counted = λ k. omega (arith, is.counted k, (all_parts k held place h h within was).0);
  filled = λ sure k some. is.whole sure k (omega (arith, some, (all_parts k held place h h within was).0));
  intact = intact-at s.content held place h within was;
}

pub indexes_at : (held : List Held) (place : ℕ) (h : Held) → place < length held → h ≡ get_or held place h → get_or (indexes_of held) place [] ≡ h.fields.items
indexes_at held place h within was = get_or-map (λ (x : Held). x.fields.items) held place h [] within ∙ ap (λ (x : Held). x.fields.items) (sym was)

pub known_named : (s : BlocksState) (held : List Held) (name : List ℕ) (h : Held) → IsHeld s held → IsNamed name held h → Known s held (found name (coverages_of s.content held)) h
known_named s held name h held_is is =
    subst (λ (o : Option Coverage). Known s held o h) (sym (found_named s.content name 0 held is.0 is.1).0) (known s held is.0 h held_is (named_within name held is.0 is.1) is.2)

-- a store that has a coverage of a name has the name
pub has_name_of : (content : List ℕ) (held : List Held) (name : List ℕ) (field : ℕ) → HasField name field (coverages_of content held) → NoneNamed name held → ⊥
has_name_of content held name field has none = rw (found_none content name held none) at has

-- a field of the coverage
pub record FieldOf (s : BlocksState) (held : List Held) (o : Option Coverage) (h : Held) (j : ℕ) : Type 0 where
  pub facts : Known s held o h
  pub described : j < length h.signature.fields
  pub indexed : j < length h.fields.items
  pub sound : IsSound h.signature.domain s (index_at h j)

pub field_of : {s : BlocksState} {held : List Held} {o : Option Coverage} (h : Held) (j : ℕ) → Known s held o h → j < length h.signature.fields → FieldOf s held o h j
field_of h j facts described =
    let within : j < length h.fields.items = omega (arith, described, facts.whole.0) in
    record {
      facts = facts;
      described = described;
      indexed = within;
      sound = record {
        below = All-from_recursion (IsBelow (length (tile_boxes h.signature.domain))) h.fields.items facts.whole.2 j [] within;
        counted = λ k. omega (arith, facts.counted k, (field_parts k h.fields.items j [] within).0);
        whole = λ sure k some. facts.filled sure k (omega (arith, some, (field_parts k h.fields.items j [] within).0));
      };
    }

-- the place of a coverage
pub place_of_name : (content : List ℕ) (held : List Held) (name : List ℕ) (place : ℕ) → IsNamedAt name held place → IsPlaceOf name (coverages_of content held) place
place_of_name content held name place at =
    (omega (arith, named_within name held place at, length-map held (coverage_of content)), (found_named content name 0 held place at).0)

pub place_within : (content : List ℕ) (held : List Held) (at : TileAt) → HasTile at (coverages_of content held) → at.coverage < length held
place_within content held at has =
    omega (arith, length-map held (coverage_of content), some_within (coverages_of content held) at.coverage (λ (c : Coverage). (at.field < length c.fields) × (at.tile < length (tile_boxes c.domain))) has)

-- a field of the coverage with a name
pub named_field : (s : BlocksState) (held : List Held) (name : List ℕ) (field : ℕ) (h : Held) → IsHeld s held → IsNamed name held h → HasField name field (coverages_of s.content held) → FieldOf s held (found name (coverages_of s.content held)) h field
named_field s held name field h held_is is has =
    let facts = known_named s held name h held_is is in
    field_of h field facts (rw facts.at at has)

pub patch_field : (coverages : Store) (name : List ℕ) (field : ℕ) (area : List Axis) (numbers : Numbers) → HasPatch name field area numbers coverages → HasField name field coverages
patch_field coverages name field area numbers has =
    let fit = λ (f : Field). AreNumbers f.kind area numbers in
    some_weaker (found name coverages) (λ (c : Coverage). IsBoxOf c.domain area × IsSomeAnd (slice_get c.fields field) fit) (λ (c : Coverage). field < length c.fields) (λ c p. some_within c.fields field fit p.1) has

-- a point of a box is one of the domain
pub box_inside : (domain area : List Axis) (p : List ℤ) → IsBoxOf domain area → IsInside area p → IsInside domain p
box_inside [] [] p b i = i
box_inside [] (c ∷ area) p b i = absurd b
box_inside (a ∷ domain) [] p b i = absurd b
box_inside (a ∷ domain) (c ∷ area) [] b i = absurd i
box_inside (a ∷ domain) (c ∷ area) (x ∷ p) b i =
    (omega (arith, ints, b.0.1, i.0), omega (arith, ints, b.0.2, i.1), box_inside domain area p b.1 i.2)

pub same_map : {X : Type 0} (f g : X → ℤ) (xs : List X) → All (λ x. f x ≡ g x) xs → map f xs ≡ map g xs
same_map f g [] h = refl
same_map f g (x ∷ xs) h = rw (h 0 x (omega arith), same_map f g xs (λ k d l. h (suc k) d (omega (arith, l)))) refl

-- the box of a tile
pub tile_is_box : (domain : List Axis) (n : ℕ) → IsDomain domain → n < length (tile_boxes domain) → AreOrdered (tile_box domain n) × IsBoxOf domain (tile_box domain n)
tile_is_box domain n d h =
    let e = edge_of (length domain) in
    let below : n < count (grid e domain) = omega (arith, h, length-tile_boxes domain) in
    let at = point_at (grid e domain) n in
    let inside : IsInside (grid e domain) at = point-inside (grid e domain) n below (ordered-grid e domain) in
    rw (get_or-tile_boxes domain n [] below) ((IsDomain-box e domain at (edge-some (length domain)) d inside).ordered, IsBoxOf-box e domain at (edge-some (length domain)) d.ordered inside)

-- a field of a coverage that was found
module _ {s : BlocksState} {held : List Held} {o : Option Coverage} {h : Held} {j : ℕ} (at : FieldOf s held o h j) (f : FieldTiles) (is : IsFieldOf h j f) where
  -- The value at a point is the number that the field's tiles have there.
  pub number_is : (p : List ℤ) → IsInside h.signature.domain p → number_in f s p ≡ value_at (coverage_of s.content h) j p
  unfolding field_values
  number_is p inside =
      let domain = h.signature.domain in
      let number = number_at f.kind domain (index_at h j) s.content in
      let below : rank_of domain p < length (points domain) = omega (arith, length-points domain, rank_of-lt-count domain p inside) in
      let here : get_or (map number (points domain)) (rank_of domain p) (pos 0) ≡ number p =
      get_or-map number (points domain) (rank_of domain p) [] (pos 0) below ∙ ap number (at_rank domain p [] inside) in
      rw (is.domain, is.index) (sym here ∙ ap (λ (v : List ℤ). get_or v (rank_of domain p) (pos 0)) (sym (values-at s.content domain h.signature.fields h.fields.items j f.kind is.kind at.indexed).0))

  -- the values in a box
  pub numbers_are : (area : List Axis) → AreOrdered area → IsBoxOf h.signature.domain area → map (number_in f s) (points area) ≡ map (value_at (coverage_of s.content h) j) (points area)
  numbers_are area ordered box =
      same_map (number_in f s) (value_at (coverage_of s.content h) j) (points area)
      (λ k d l.
      let below : k < count area = omega (arith, l, length-points area) in
      rw (at_place area k d below) (number_is (point_at area k) (box_inside h.signature.domain area (point_at area k) box (point-inside area k below ordered))))

  -- the values at ranks of a box
  pub ranked_are : (area : List Axis) → AreOrdered area → IsBoxOf h.signature.domain area → (ranks : List ℕ) → All (λ (r : ℕ). r < count area) ranks
      → map (λ (r : ℕ). number_in f s (get_or (points area) r [])) ranks ≡ map (λ (r : ℕ). value_at (coverage_of s.content h) j (get_or (points area) r [])) ranks
  ranked_are area ordered box ranks within =
      same_map (λ (r : ℕ). number_in f s (get_or (points area) r [])) (λ (r : ℕ). value_at (coverage_of s.content h) j (get_or (points area) r [])) ranks
      (λ k d l.
      let r = get_or ranks k d in
      let below : r < count area = within k d l in
      rw (at_place area r [] below) (number_is (point_at area r) (box_inside h.signature.domain area (point_at area r) box (point-inside area r below ordered))))

-- a tile of the coverage at its place
pub record Placed (s : BlocksState) (held : List Held) (at : TileAt) (h : Held) : Type 0 where
  pub of : FieldOf s held (slice_get (coverages_of s.content held) at.coverage) h at.field
  pub indexes : get_or (indexes_of held) at.coverage [] ≡ h.fields.items
  pub below : at.tile < length (tile_boxes h.signature.domain)

pub placed : (s : BlocksState) (held : List Held) (at : TileAt) (h : Held) → IsHeld s held → HasTile at (coverages_of s.content held) → h ≡ get_or held at.coverage h → Placed s held at h
placed s held at h is has was =
    let within = place_within s.content held at has in
    let facts = known s held at.coverage h is within was in
    let there = rw facts.at at has in
    record { of = field_of h at.field facts there.0; indexes = indexes_at held at.coverage h within was; below = there.1 }

module _ {s : BlocksState} {held : List Held} {at : TileAt} {h : Held} (p : Placed s held at h) (f : FieldTiles) where
  -- a tile is spelled in the store as in the coverage at its place
  pub spelled_is : IsFieldOf h at.field f → (IsSpelledAt at s.content (coverages_of s.content held) (indexes_of held) → IsSpelledIn f s at.tile) × (IsSpelledIn f s at.tile → IsSpelledAt at s.content (coverages_of s.content held) (indexes_of held))
  spelled_is is =
      let o = slice_get h.signature.fields at.field in
      let spelled = λ (kind : FieldType). IsTileSpelled kind h.signature.domain (index_at h at.field) s.content at.tile in
      rw (p.of.facts.at, p.indexes, is.domain, is.index) (kind_has o f.kind spelled is.kind, kind_gives o f.kind spelled is.kind)

  -- what a tile that was read says of the store
  pub decoded_tile : (cells : List ℤ) → IsFieldOf h at.field f → IsTileRead f at.tile s cells → IsDecoded s (coverages_of s.content held) (indexes_of held) at cells
  decoded_tile cells is read =
      let box = tile_is_box h.signature.domain at.tile is.is_domain p.below in
      record {
        counted = rw (p.of.facts.at, ← is.domain) read.counted;
        values = λ sure. rw p.of.facts.at (read.numbers sure ∙ ap (λ (d : List Axis). map (number_in f s) (points (tile_box d at.tile))) is.domain ∙ numbers_are p.of f is (tile_box h.signature.domain at.tile) box.0 box.1);
        spelled = λ sure. (spelled_is is).1 (read.spelled sure);
      }

  -- and cells at ranks that were read
  pub picked_tile : (ranks : List ℕ) (cells : List ℤ) → IsFieldOf h at.field f → All (λ (r : ℕ). r < count (tile_box h.signature.domain at.tile)) ranks → ArePicked f at.tile ranks s cells
      → (IsTrue s.honest → IsSpelledAt at s.content (coverages_of s.content held) (indexes_of held)) → ArePickedIn s (coverages_of s.content held) (indexes_of held) at ranks cells
  picked_tile ranks cells is within read tested =
      let box = tile_is_box h.signature.domain at.tile is.is_domain p.below in
      record {
        counted = read.counted;
        values = λ sure.
            rw p.of.facts.at
            (read.numbers sure ∙ ap (λ (d : List Axis). map (λ (r : ℕ). number_in f s (get_or (points (tile_box d at.tile)) r [])) ranks) is.domain ∙ ranked_are p.of f is (tile_box h.signature.domain at.tile) box.0 box.1 ranks within);
        spelled = tested;
      }

-- cells at ranks of those of a whole tile
pub gathered : (s : BlocksState) (coverages : Store) (indexes : List (List Index)) (at : TileAt) (ranks : List ℕ) (whole cells : List ℤ) → HasRanks at ranks coverages → IsDecoded s coverages indexes at whole → cells ≡ picked whole ranks
    → ArePickedIn s coverages indexes at ranks cells
gathered s coverages indexes at ranks whole cells has read is = record {
  counted = ap length is ∙ length-map ranks (λ (r : ℕ). get_or whole r (pos 0));
  values = λ sure. by_coverage (slice_get coverages at.coverage) has (read.values sure);
  spelled = read.spelled;
}
  where
    by_coverage : (o : Option Coverage) → IsSomeAnd o (λ c. All (λ (r : ℕ). r < count (tile_box c.domain at.tile)) ranks) → IsSomeAnd o (λ c. whole ≡ map (value_at c at.field) (points (tile_box c.domain at.tile)))
        → IsSomeAnd o (λ c. cells ≡ map (λ (r : ℕ). value_at c at.field (get_or (points (tile_box c.domain at.tile)) r [])) ranks)
    by_coverage None within values = absurd within
    by_coverage (Some c) within values =
        let box = tile_box c.domain at.tile in
        is ∙ ap (λ (l : List ℤ). picked l ranks) values
        ∙ same_map (λ (r : ℕ). get_or (map (value_at c at.field) (points box)) r (pos 0)) (λ (r : ℕ). value_at c at.field (get_or (points box) r [])) ranks
        (λ k d l. (let below : get_or ranks k d < count box = within k d l in get_or-map (value_at c at.field) (points box) (get_or ranks k d) [] (pos 0) (omega (arith, below, length-points box))))

-- one cell more
pub picked_more : (whole picks : List ℤ) (ranks : List ℕ) (i : ℕ) (z : ℤ) → i < length ranks → picks ≡ picked whole (take i ranks) → z ≡ get_or whole (get_or ranks i 0) (pos 0) → picks ++ z ∷ [] ≡ picked whole (take (i + 1) ranks)
picked_more whole picks ranks i z h was is =
    let at = λ (r : ℕ). get_or whole r (pos 0) in
    ap (λ (l : List ℤ). l ++ z ∷ []) was ∙ ap (λ (v : ℤ). map at (take i ranks) ++ v ∷ []) is ∙ sym (map_push at (take i ranks) (get_or ranks i 0)) ∙ ap (map at) (sym (take_more ranks i 0 h))

-- a tile of the coverage with a name is spelled where it is in the store
pub spelled_named : (s : BlocksState) (held : List Held) (name : List ℕ) (field : ℕ) (h : Held) (kind : FieldType) (tile : ℕ) → IsHeld s held → IsNamed name held h → HasKind h.signature.fields field kind → field < length h.fields.items
    → IsSpelledOf name field tile s.content (coverages_of s.content held) (indexes_of held) → IsTileSpelled kind h.signature.domain (index_at h field) s.content tile
spelled_named s held name field h kind tile held_is is has within =
    by_field (slice_get h.signature.fields field) refl has
  where
    facts : Known s held (found name (coverages_of s.content held)) h
    facts = known_named s held name h held_is is

    by_field : (o : Option Field) → slice_get h.signature.fields field ≡ o → IsSomeAnd o (λ f. f.kind ≡ kind)
        → IsSpelledOf name field tile s.content (coverages_of s.content held) (indexes_of held) → IsTileSpelled kind h.signature.domain (index_at h field) s.content tile
    by_field None e k spelled = absurd k
    by_field (Some f) e k spelled =
        subst (λ (q : FieldType). IsTileSpelled q h.signature.domain (index_at h field) s.content tile) k
        (spelled (coverage_of s.content h) f (index_at h field) facts.at e
        ((found_named s.content name field held is.0 is.1).1 ∙ ap (λ (l : List Index). slice_get l field) (indexes_at held is.0 h (named_within name held is.0 is.1) is.2) ∙ slice_get-get_or h.fields.items field [] within))

pub some_at : {X : Type 0} (o : Option X) (x : X) (P : X → Type 0) → o ≡ Some x → P x → IsSomeAnd o P
some_at o x P e p = rw e p

-- a tile that is not spelled, of those that a box meets and does not cover, as the store tells it
module _ (s : BlocksState) (held : List Held) (name : List ℕ) (field : ℕ) (h : Held) (kind : FieldType) (is_held : IsHeld s held) (is : IsNamed name held h) (has : HasKind h.signature.fields field kind) (within : field < length h.fields.items) where
  abbrev IsBad : ℕ → Type 0
  IsBad tile = IsSpelledOf name field tile s.content (coverages_of s.content held) (indexes_of held) → ⊥

  abbrev IsBadHere : ℕ → Type 0
  IsBadHere tile = IsTileSpelled kind h.signature.domain (index_at h field) s.content tile → ⊥

  is_bad : (tile : ℕ) → IsBadHere tile → IsBad tile
  is_bad tile bad spelled = bad (spelled_named s held name field h kind tile is_held is has within spelled)

  pub under_damaged : (area : List Axis) (tile : ℕ) → TileMeets h.signature.domain tile area → (IsBoxOf area (tile_box h.signature.domain tile) → ⊥) → IsBadHere tile
      → IsSomeAnd (found name (coverages_of s.content held)) (λ c. (t : ℕ) × TileMeets c.domain t area × (IsBoxOf area (tile_box c.domain t) → ⊥) × IsBad t)
  under_damaged area tile meets open_ bad =
      some_at (found name (coverages_of s.content held)) (coverage_of s.content h) (λ c. (t : ℕ) × TileMeets c.domain t area × (IsBoxOf area (tile_box c.domain t) → ⊥) × IsBad t) (known_named s held name h is_held is).at
      (tile, meets, open_, is_bad tile bad)
