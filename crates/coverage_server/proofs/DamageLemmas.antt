-- Where every listed tile is spelled, none is in the way of a request.
use Rattle.std.proofs.Common.{◌≡◌, ℕ, zero, suc, ◌<◌, Bool, true, false, List, [], ◌∷◌, length, Option, None, Some, refl, sym, subst, arith, inl, inr, Contains}
use Rattle.std.specs.Prelude.{slice_get, slice_index_or, IsSomeAnd}
use Rattle.std.proofs.lemmas.Bool.{cases_Bool}
use Rattle.std.proofs.lemmas.Slice.Eq.{bytes_eq-Decides}
use Rattle.std.specs.Str.{bytes_eq}
use Rattle.arr_core.specs.declared.domain.Axis.{Axis}
use Rattle.arr_core.specs.declared.field.Field.{Field}
use Rattle.arr_core.specs.Names.{AreDistinct}
use Rattle.arr_core.specs.Tiles.{tile_boxes, tile_box, TileMeets}
use Rattle.catalogue.specs.Signatures.{names_of}
use Rattle.catalogue.proofs.Held.{contains_here, contains_later}
use Rattle.arr_core.specs.Stores.{Coverage, Store, found}
use Rattle.arr_core.specs.Domains.{IsBoxOf}
use Rattle.arr_core.specs.Fields.{field_place}
use Rattle.tile_store.specs.Stored.{IsTileSpelled, IsSpelled}
use Rattle.raster_store.specs.Views.{Index, SnapshotView, AreIntact, FieldsIntact}
use Rattle.raster_store.specs.Snapshots.{held_for}
use Rattle.raster_store.specs.Calls.{index_of}
use Rattle.raster_store.specs.Fetches.{IsSpelledOf}
use Rattle.kvp_front.specs.Requests.{Asks, insert_coverage, update_coverage, delete_coverage, list_coverages, describe_coverage, process_coverages, submit_query, step_job, fetch_job, cancel_job, expand_template, process_template}
use Rattle.coverage_server.specs.Damage.{IsIntactIn, IsIntactNamed, IsSpelledNamed, IsSpelledPlace, SpoilsText, SpoilsWrite, SpoilsHeld, Spoils}
use Rattle.coverage_server.specs.Machine.{State, axes_of}
use Rattle.coverage_server.specs.Views.{ServerView, IsSound, signatures_of}
use Rattle.coverage_server.proofs.HeldLemmas.{intact_for}
use Rattle.coverage_server.proofs.TileLemmas.{intact_at, some_out}

fields_spelled : (content : List ℕ) (domain : List Axis) (fields : List Field) (indexes : List Index) (j tile : ℕ) (f : Field) (i : Index) → FieldsIntact content domain fields indexes
    → slice_get fields j ≡ Some f → slice_get indexes j ≡ Some i → IsTileSpelled f.kind domain i content tile
unfolding IsSpelled
fields_spelled content domain [] indexes j tile f i s e k = absurd cc
fields_spelled content domain (g ∷ fields) [] j tile f i s e k = absurd cc
fields_spelled content domain (g ∷ fields) (x ∷ indexes) zero tile f i s e k =
    let same : g ≡ f = cc in
    let at : x ≡ i = cc in
    subst (λ (y : Index). IsTileSpelled f.kind domain y content tile) at (subst (λ (h : Field). IsTileSpelled h.kind domain x content tile) same (s.0 tile))
fields_spelled content domain (g ∷ fields) (x ∷ indexes) (suc j) tile f i s e k = fields_spelled content domain fields indexes j tile f i s.1 e k

pub intact_named : (content : List ℕ) (store : Store) (indexes : List (List Index)) (name : List ℕ) (field tile : ℕ) → AreIntact content store indexes
    → IsSpelledOf name field tile content store indexes
intact_named content [] indexes name field tile s c f i at e k = absurd cc
intact_named content (d ∷ store) [] name field tile s c f i at e k = absurd cc
intact_named content (d ∷ store) (x ∷ indexes) name field tile s c f i at e k = by_test (λ a b. intact_named content store indexes name field tile s.1 c f i a e b) (bytes_eq d.name name) refl
  where
    by_test : (found name store ≡ Some c → index_of name field store indexes ≡ Some i → IsTileSpelled f.kind c.domain i content tile)
        → (b : Bool) → bytes_eq d.name name ≡ b → IsTileSpelled f.kind c.domain i content tile
    by_test rest true t =
        let here : Some d ≡ Some c = rw t at at in
        let same : d ≡ c = cc in
        let index : slice_get x field ≡ Some i = rw t at k in
        subst (λ (y : Coverage). IsTileSpelled f.kind y.domain i content tile) same
        (fields_spelled content d.domain d.fields x field tile f i s.0 (subst (λ (y : Coverage). slice_get y.fields field ≡ Some f) (sym same) e) index)
    by_test rest false t = rest (rw t at at) (rw t at k)

-- ---- places

no_index : (name : List ℕ) (field : ℕ) (store : Store) (i : Index) → index_of name field store [] ≡ Some i → ⊥
no_index name field [] i e = absurd cc
no_index name field (c ∷ store) i e = absurd cc

other_name : (a b : List ℕ) → (a ≡ b → ⊥) → bytes_eq a b ≡ false
other_name a b n = elim (cases_Bool (bytes_eq a b)) [
  | inl same ↦ absurd (n ((bytes_eq-Decides a b).0 same))
  | inr apart ↦ apart
]

contains_at : (store : Store) (place : ℕ) (name : List ℕ)
    → IsSomeAnd (slice_get store place) (λ (c : Coverage). c.name ≡ name)
    → Contains (names_of (signatures_of store)) name
contains_at [] place name here = absurd here
contains_at (c ∷ store) zero name here =
    subst (Contains (c.name ∷ names_of (signatures_of store))) here
    (contains_here c.name (names_of (signatures_of store)))
contains_at (c ∷ store) (suc place) name here =
    contains_later c.name (names_of (signatures_of store)) name (contains_at store place name here)

one_field : (content : List ℕ) (domain : List Axis) (fields : List Field) (indexes : List Index) (j tile : ℕ)
    → ((f : Field) (i : Index) → slice_get fields j ≡ Some f → slice_get indexes j ≡ Some i
    → IsTileSpelled f.kind domain i content tile) → j < length fields
    → IsSomeAnd (slice_get fields j)
    (λ (f : Field). IsTileSpelled f.kind domain (slice_index_or indexes j []) content tile)
one_field content domain [] indexes j tile x within = absurd (omega (arith, within))
one_field content domain (f ∷ fields) [] zero tile x within = λ e at. absurd cc
one_field content domain (f ∷ fields) [] (suc j) tile x within =
    one_field content domain fields [] j tile (λ g i has of. absurd cc) (omega (arith, within))
one_field content domain (f ∷ fields) (i ∷ indexes) zero tile x within = x f i refl refl
one_field content domain (f ∷ fields) (i ∷ indexes) (suc j) tile x within =
    one_field content domain fields indexes j tile x (omega (arith, within))

pub at_place : (content name : List ℕ) (field tile : ℕ) (store : Store) (indexes : List (List Index)) (place : ℕ)
    → AreDistinct (names_of (signatures_of store)) → IsIntactIn content store indexes name
    → IsSomeAnd (slice_get store place) (λ (c : Coverage). c.name ≡ name)
    → IsSomeAnd (slice_get store place) (λ (c : Coverage). field < length c.fields)
    → IsSomeAnd (slice_get store place) (λ (c : Coverage). IsSomeAnd (slice_get c.fields field) (λ (f : Field).
    IsTileSpelled f.kind c.domain (slice_index_or (slice_index_or indexes place []) field []) content tile))
at_place content name field tile [] indexes place apart x here within = absurd within
at_place content name field tile (c ∷ store) [] zero apart x here within =
    one_field content c.domain c.fields [] field tile (λ f i has of. absurd cc) within
at_place content name field tile (c ∷ store) [] (suc place) apart x here within =
    at_place content name field tile store [] place apart.1
    (λ f t b g k there is index. absurd (no_index name f store k index)) here within
at_place content name field tile (c ∷ store) (j ∷ indexes) zero apart x here within =
    let this : bytes_eq c.name name ≡ true = (bytes_eq-Decides c.name name).1 here in
    one_field content c.domain c.fields j field tile (λ f i has of. x field tile c f i (rw this refl) has (rw this of))
    within
at_place content name field tile (c ∷ store) (j ∷ indexes) (suc place) apart x here within =
    let other = other_name c.name name
    (λ e. apart.0 (subst (Contains (names_of (signatures_of store))) (sym e) (contains_at store place name here))) in
    at_place content name field tile store indexes place apart.1
    (λ f t b g k there is index. x f t b g k (rw other there) is (rw other index)) here within

-- where coverages have names of their own, one that is intact is so at its place
pub named_spelled : (v : ServerView) → AreDistinct (names_of (signatures_of v.store)) → (name : List ℕ)
    → IsIntactNamed v name → IsSpelledNamed name v
named_spelled v apart name whole place here at is has =
    at_place v.content name at.field at.tile v.store v.indexes at.coverage apart whole
    (subst (λ (n : ℕ). IsSomeAnd (slice_get v.store n) (λ (c : Coverage). c.name ≡ name)) (sym is) here)
    (field_within (slice_get v.store at.coverage) has)
  where
    field_within : (o : Option Coverage)
        → IsSomeAnd o (λ (c : Coverage). (at.field < length c.fields) × (at.tile < length (tile_boxes c.domain)))
        → IsSomeAnd o (λ (c : Coverage). at.field < length c.fields)
    field_within None h = absurd h
    field_within (Some c) h = h.0

-- ---- requests

sound_spelled : (v : ServerView) → IsSound v → (name : List ℕ) → IsSpelledNamed name v
sound_spelled v sound name place here at is has = intact_at v.content v.store v.indexes at has sound.intact

no_text : (text : List ℕ) (v : ServerView) → IsSound v → SpoilsText text v → ⊥
no_text text v sound x = x.2 (λ k d l. sound_spelled v sound _)

no_write : (name : List ℕ) (field : ℕ) (box : List Axis) (v : ServerView) → IsSound v → SpoilsWrite name field box v → ⊥
no_write name field box v sound x =
    some_out (found name v.store)
    {P = λ (c : Coverage). (tile : ℕ) × TileMeets c.domain tile box × (IsBoxOf box (tile_box c.domain tile) → ⊥) × (IsSpelledOf name field tile v.content v.store v.indexes → ⊥)}
    (λ c u. u.3 (intact_named v.content v.store v.indexes name field u.0 sound.intact)) x

no_held : (number : ℕ) (v : ServerView) → IsSound v → SpoilsHeld number v → ⊥
no_held number v sound x = by_held (held_for number v.held) refl x
  where
    by_held : (o : Option SnapshotView) → held_for number v.held ≡ o → IsSomeAnd o (λ y. ((place : ℕ) → IsSpelledPlace v.content y.coverages y.indexes place) → ⊥) → ⊥
    by_held None e h = h
    by_held (Some y) e h = h (λ place at is has. intact_at v.content y.coverages y.indexes at has (intact_for v.content number v.held y sound.held e))

pub none_spoiled : (a : Asks) (v : ServerView) (s : State) → IsSound v → Spoils a v s → ⊥
none_spoiled (insert_coverage name intervals fields) v s sound x = x
none_spoiled (update_coverage name field intervals cells) v s sound x =
    some_out (found name v.store) {P = λ (c : Coverage). IsSomeAnd (field_place field c.fields) (λ k. SpoilsWrite name k (axes_of intervals) v)}
    (λ c y. some_out (field_place field c.fields) {P = λ k. SpoilsWrite name k (axes_of intervals) v} (λ k z. no_write name k (axes_of intervals) v sound z) y) x
none_spoiled (delete_coverage name) v s sound x = x
none_spoiled list_coverages v s sound x = x
none_spoiled (describe_coverage name) v s sound x = x
none_spoiled (process_coverages query) v s sound x = no_text query v sound x
none_spoiled (submit_query query) v s sound x = x
none_spoiled (step_job number units) v s sound x = no_held number v sound x.1
none_spoiled (fetch_job number) v s sound x = x
none_spoiled (cancel_job number) v s sound x = x
none_spoiled (expand_template template) v s sound x = x
none_spoiled (process_template template) v s sound x = no_text x.0 v sound x.2
