-- What coverages say where blocks hold what they held, and where one field has another index; and where the coverage
-- with a name stands.
use Rattle.std.proofs.Common.{◌≡◌, ℕ, zero, suc, ◌<◌, List, [], ◌∷◌, ◌++◌, length, get_or, set, map, refl, ap, arith, position, true, false, Some, None, sym, inl, inr}
use Rattle.std.specs.Prelude.{ℤ, pos, slice_get, replicate}
use Rattle.std.specs.List.{remove, AllPairs, position_or_len}
use Rattle.std.specs.Str.{bytes_eq}
use Rattle.std.proofs.lemmas.Bool.{cases_lt, cases_Bool, lt-ltb, false_from_ne_true, iff_false}
use Rattle.std.proofs.lemmas.List.{length-map, map-append, map_push, take-map, drop-map, get_or-map}
use Rattle.std.proofs.lemmas.List.Elements.{All-from_recursion, recursion_from_All, All-map}
use Rattle.std.proofs.lemmas.List.Quantifiers.{all_pairs_push, all_pairs_remove, position-Some}
use Rattle.std.proofs.lemmas.List.Sums.{fails_before_first}
use Rattle.std.proofs.lemmas.Slice.Eq.{bytes_eq-Decides}
use Rattle.arr_core.specs.declared.cell.FieldType.{FieldType}
use Rattle.arr_core.specs.declared.domain.Axis.{Axis}
use Rattle.arr_core.specs.declared.field.Field.{Field}
use Rattle.arr_core.specs.Domains.{points}
use Rattle.arr_core.specs.Stores.{updated_values, updated_coverage, found, deleted, updated}
use Rattle.arr_core.specs.declared.signature.Signature.{Signature}
use Rattle.block_file.specs.State.{block_at}
use Rattle.tile_store.specs.Stored.{field_values, IsSpelled, KeepsListed}
use Rattle.tile_store.proofs.Kept.{values_kept, spelled_kept, values_of_none, spelled_of_none}
use Rattle.raster_store.specs.declared.held.Held.{Held}
use Rattle.raster_store.specs.Views.{Index, values_in, FieldsIntact, AreIntact, listed_fields, listed_all}
use Rattle.raster_store.specs.Holding.{coverages_of, coverage_of, indexes_of, index_at, signatures_of, has_name, NoneNamed, AreApart, IsNamedAt}
use Rattle.raster_store.specs.Fields.{HasKind}
use Rattle.raster_store.specs.Calls.{index_of, indexes_without}
use Rattle.raster_store.proofs.Totals.{listed_fields-cons, listed_all-cons}

-- the listed blocks of fields, and of a store, hold what they held
abbrev pub KeepsFields : List Index → List ℕ → List ℕ → Type 0
KeepsFields indexes old new = (k : ℕ) → 0 < listed_fields indexes k → block_at new k ≡ block_at old k

abbrev pub KeepsAll : List (List Index) → List ℕ → List ℕ → Type 0
KeepsAll indexes old new = (k : ℕ) → 0 < listed_all indexes k → block_at new k ≡ block_at old k

pub fields_kept : (old new : List ℕ) (i : Index) (indexes : List Index) → KeepsFields (i ∷ indexes) old new → KeepsListed i old new × KeepsFields indexes old new
fields_kept old new i indexes kept =
    (λ k h. kept k (omega (arith, h, listed_fields-cons k i indexes)), λ k h. kept k (omega (arith, h, listed_fields-cons k i indexes)))

pub all_kept : (old new : List ℕ) (i : List Index) (indexes : List (List Index)) → KeepsAll (i ∷ indexes) old new → KeepsFields i old new × KeepsAll indexes old new
all_kept old new i indexes kept =
    (λ k h. kept k (omega (arith, h, listed_all-cons k i indexes)), λ k h. kept k (omega (arith, h, listed_all-cons k i indexes)))

-- fields whose listed blocks hold what they held have their values, and are spelled as they were
pub values_as : (old new : List ℕ) (domain : List Axis) (fields : List Field) (indexes : List Index) → KeepsFields indexes old new
    → (values_in new domain fields indexes ≡ values_in old domain fields indexes) × (FieldsIntact old domain fields indexes → FieldsIntact new domain fields indexes)
values_as old new domain [] indexes kept = (refl, λ s. s)
values_as old new domain (f ∷ fields) [] kept = (refl, λ s. s)
values_as old new domain (f ∷ fields) (i ∷ indexes) kept =
    let parts = fields_kept old new i indexes kept in
    let rest = values_as old new domain fields indexes parts.1 in
    (rw (values_kept f.kind domain i old new parts.0, rest.0) refl, λ s. (spelled_kept f.kind domain i old new parts.0 s.0, rest.1 s.1))

pub coverage_kept : (old new : List ℕ) (h : Held) → KeepsFields h.fields.items old new → coverage_of new h ≡ coverage_of old h
coverage_kept old new h kept = rw (values_as old new h.signature.domain h.signature.fields h.fields.items kept).0 refl

-- so do coverages
pub store_kept : (old new : List ℕ) (held : List Held) → KeepsAll (indexes_of held) old new
    → (coverages_of new held ≡ coverages_of old held) × (AreIntact old (coverages_of old held) (indexes_of held) → AreIntact new (coverages_of new held) (indexes_of held))
store_kept old new [] kept = (refl, λ s. s)
store_kept old new (h ∷ held) kept =
    let parts = all_kept old new h.fields.items (indexes_of held) kept in
    let rest = store_kept old new held parts.1 in
    (rw (coverage_kept old new h parts.0, rest.0) refl, λ s. ((values_as old new h.signature.domain h.signature.fields h.fields.items parts.0).1 s.0, rest.1 s.1))

-- one coverage is another, and the others' blocks hold what they held; or one is removed, or comes
pub intact-set : (old new : List ℕ) (held : List Held) (i : ℕ) (h : Held) → KeepsAll (indexes_of (remove held i)) old new → AreIntact old (coverages_of old held) (indexes_of held)
    → FieldsIntact new h.signature.domain h.signature.fields h.fields.items → AreIntact new (coverages_of new (set held i h)) (indexes_of (set held i h))
intact-set old new [] i h kept s n = tt
intact-set old new (g ∷ held) zero h kept s n = (n, (store_kept old new held kept).1 s.1)
intact-set old new (g ∷ held) (suc i) h kept s n =
    let parts = all_kept old new g.fields.items (indexes_of (remove held i)) kept in
    ((values_as old new g.signature.domain g.signature.fields g.fields.items parts.0).1 s.0, intact-set old new held i h parts.1 s.1 n)

pub intact-remove : (content : List ℕ) (held : List Held) (i : ℕ) → AreIntact content (coverages_of content held) (indexes_of held) → AreIntact content (coverages_of content (remove held i)) (indexes_of (remove held i))
intact-remove content [] zero s = tt
intact-remove content [] (suc i) s = tt
intact-remove content (g ∷ held) zero s = s.1
intact-remove content (g ∷ held) (suc i) s = (s.0, intact-remove content held i s.1)

pub intact-push : (content : List ℕ) (held : List Held) (new : Held) → AreIntact content (coverages_of content held) (indexes_of held)
    → FieldsIntact content new.signature.domain new.signature.fields new.fields.items → AreIntact content (coverages_of content (held ++ new ∷ [])) (indexes_of (held ++ new ∷ []))
intact-push content [] new s n = (n, tt)
intact-push content (g ∷ held) new s n = (s.0, intact-push content held new s.1 n)

pub intact-at : (content : List ℕ) (held : List Held) (i : ℕ) (h : Held) → i < length held → h ≡ get_or held i h → AreIntact content (coverages_of content held) (indexes_of held)
    → FieldsIntact content h.signature.domain h.signature.fields h.fields.items
intact-at content [] i h within was s = absurd (omega arith)
intact-at content (g ∷ held) zero h within was s = rw was s.0
intact-at content (g ∷ held) (suc i) h within was s = intact-at content held i h (omega (arith, within)) was s.1

-- the field at a place has its values, and is spelled where all are
pub values-at : (content : List ℕ) (domain : List Axis) (fields : List Field) (indexes : List Index) (j : ℕ) (kind : FieldType) → HasKind fields j kind → j < length indexes
    → (get_or (values_in content domain fields indexes) j [] ≡ field_values kind domain (get_or indexes j []) content) × (FieldsIntact content domain fields indexes → IsSpelled kind domain (get_or indexes j []) content)
values-at content domain [] indexes j kind e h = absurd e
values-at content domain (f ∷ fields) [] j kind e h = absurd (omega arith)
values-at content domain (f ∷ fields) (i ∷ indexes) zero kind e h = rw (← e) (refl, λ s. s.0)
values-at content domain (f ∷ fields) (i ∷ indexes) (suc j) kind e h =
    let rest = values-at content domain fields indexes j kind e (omega (arith, h)) in
    (rest.0, λ s. rest.1 s.1)

-- it has another index, and the others' blocks hold what they held
values-set : (old new : List ℕ) (domain : List Axis) (fields : List Field) (indexes : List Index) (j : ℕ) (kind : FieldType) (x : Index) → HasKind fields j kind → j < length indexes → KeepsFields (remove indexes j) old new
    → (values_in new domain fields (set indexes j x) ≡ set (values_in old domain fields indexes) j (field_values kind domain x new))
    × (FieldsIntact old domain fields indexes → IsSpelled kind domain x new → FieldsIntact new domain fields (set indexes j x))
values-set old new domain [] indexes j kind x e h kept = absurd e
values-set old new domain (f ∷ fields) [] j kind x e h kept = absurd (omega arith)
values-set old new domain (f ∷ fields) (i ∷ indexes) zero kind x e h kept =
    let rest = values_as old new domain fields indexes kept in
    rw (← e) (rw rest.0 refl, λ s n. (n, rest.1 s.1))
values-set old new domain (f ∷ fields) (i ∷ indexes) (suc j) kind x e h kept =
    let parts = fields_kept old new i (remove indexes j) kept in
    let rest = values-set old new domain fields indexes j kind x e (omega (arith, h)) parts.1 in
    (rw (values_kept f.kind domain i old new parts.0, rest.0) refl, λ s n. (spelled_kept f.kind domain i old new parts.0 s.0, rest.1 s.1 n))

-- a coverage with an updated field
pub coverage_updated : (old new : List ℕ) (h h' : Held) (j : ℕ) (kind : FieldType) (x : Index) (area : List Axis) (numbers : List ℤ) → h'.signature ≡ h.signature → h'.fields.items ≡ set h.fields.items j x
    → HasKind h.signature.fields j kind → j < length h.fields.items → KeepsFields (remove h.fields.items j) old new
    → (field_values kind h.signature.domain x new ≡ updated_values h.signature.domain area numbers (field_values kind h.signature.domain (index_at h j) old) → coverage_of new h' ≡ updated_coverage j area numbers (coverage_of old h))
    × (FieldsIntact old h.signature.domain h.signature.fields h.fields.items → (IsSpelled kind h.signature.domain (index_at h j) old → IsSpelled kind h.signature.domain x new)
    → FieldsIntact new h'.signature.domain h'.signature.fields h'.fields.items)
coverage_updated old new h h' j kind x area numbers same_signature same_fields is within kept =
    let at = values-at old h.signature.domain h.signature.fields h.fields.items j kind is within in
    let now = values-set old new h.signature.domain h.signature.fields h.fields.items j kind x is within kept in
    rw (same_signature, same_fields) (λ value. rw (now.0, at.0, value) refl, λ s spelled. now.1 s (spelled (at.1 s)))

-- a coverage that is new
pub values_new : (content : List ℕ) (domain : List Axis) (fields : List Field) → values_in content domain fields (replicate (length fields) []) ≡ map (λ (f : Field). map (λ (p : List ℤ). pos 0) (points domain)) fields
values_new content domain [] = refl
values_new content domain (f ∷ fields) = rw (values_of_none f.kind domain content, values_new content domain fields) refl

pub intact_new : (content : List ℕ) (domain : List Axis) (fields : List Field) (n : ℕ) → FieldsIntact content domain fields (replicate n [])
intact_new content domain [] n = tt
intact_new content domain (f ∷ fields) zero = tt
intact_new content domain (f ∷ fields) (suc n) = (spelled_of_none f.kind domain content, intact_new content domain fields n)

abbrev differ : Signature → Signature → Type 0
differ a b = bytes_eq a.name b.name ≡ false

-- a test of names, turned round
turned : (a b : List ℕ) → bytes_eq a b ≡ false → bytes_eq b a ≡ false
turned a b h = false_from_ne_true (bytes_eq b a) (λ e. iff_false (bytes_eq-Decides a b) h (sym ((bytes_eq-Decides b a).0 e)))

-- no coverage, one more, and one less
pub apart_none : AreApart []
unfolding AreApart
apart_none i j d lt l = absurd (omega arith)

pub apart_push : (held : List Held) (new : Held) → AreApart held → NoneNamed new.signature.name held → AreApart (held ++ new ∷ [])
unfolding AreApart
apart_push held new apart none =
    let fresh = All-map (λ (s : Signature). differ s new.signature) (λ (h : Held). h.signature) held (All-from_recursion (λ (h : Held). has_name new.signature.name h ≡ false) held none) in
    rw (map_push (λ (h : Held). h.signature) held new) (all_pairs_push differ (signatures_of held) new.signature apart fresh)

pub apart_remove : (held : List Held) (i : ℕ) → i < length held → AreApart held → AreApart (remove held i)
unfolding AreApart
apart_remove held i within apart =
    let same : signatures_of (remove held i) ≡ remove (signatures_of held) i = simp (map-append, take-map, drop-map) in
    rw same (all_pairs_remove differ (signatures_of held) i (omega (arith, length-map held (λ (x : Held). x.signature))) apart)

-- where names are apart, what has the name first has it alone
named_first : (name : List ℕ) (held : List Held) (i : ℕ) (d : Held) → AllPairs differ (signatures_of held) → i < length held → has_name name (get_or held i d) ≡ true → ((k : ℕ) → k < i → has_name name (get_or held k d) ≡ false)
    → IsNamedAt name held i
named_first name [] i d apart h is first = absurd (omega arith)
named_first name (g ∷ held) zero d apart h is first =
    let same : g.signature.name ≡ name = (bytes_eq-Decides g.signature.name name).0 is in (
      is,
      recursion_from_All (λ (x : Held). has_name name x ≡ false) held (λ k e l.
          let other : bytes_eq g.signature.name (get_or (signatures_of held) k e.signature).name ≡ false = apart 0 (suc k) e.signature (omega arith) (omega (arith, l, length-map held (λ (x : Held). x.signature))) in
          turned name (get_or held k e).signature.name (rw (same, get_or-map (λ (x : Held). x.signature) held k e e.signature l) at other)),
    )
named_first name (g ∷ held) (suc i) d apart h is first =
    (first 0 (omega arith), named_first name held i d (λ a b e l m. apart (suc a) (suc b) e (omega (arith, l)) (omega (arith, m))) (omega (arith, h)) is (λ k l. first (suc k) (omega (arith, l))))

pub named_position : (name : List ℕ) (held : List Held) (i : ℕ) → AreApart held → position (has_name name) held ≡ Some i → IsNamedAt name held i
unfolding AreApart
named_position name [] i apart e = absurd (cc)
named_position name (g ∷ held) i apart e =
    let at = position-Some (has_name name) (g ∷ held) i g e in
    named_first name (g ∷ held) i g apart at.0 at.1 at.2

pub none_position : (name : List ℕ) (held : List Held) → position (has_name name) held ≡ None → NoneNamed name held
none_position name held e = recursion_from_All (λ (h : Held). has_name name h ≡ false) held (λ k d l. elim (cases_lt (position_or_len (has_name name) held) (length held)) [
  | inl some ↦ absurd (let n : Some (position_or_len (has_name name) held) ≡ None = rw (lt-ltb _ _ some) at e in cc)
  | inr past ↦ fails_before_first (has_name name) held k d (omega (arith, l, past))
])

pub named_within : (name : List ℕ) (held : List Held) (i : ℕ) → IsNamedAt name held i → i < length held
named_within name [] i at = absurd at
named_within name (g ∷ held) zero at = omega arith
named_within name (g ∷ held) (suc i) at = omega (arith, named_within name held i at.1)

-- what the place of a name says, and that there is none
pub ruleset named_places = (named_position, named_within, none_position)

-- no coverage is found where none has the name
pub found_none : (content name : List ℕ) (held : List Held) → NoneNamed name held → found name (coverages_of content held) ≡ None
found_none content name [] none = refl
found_none content name (g ∷ held) none = rw none.0 (found_none content name held none.1)

pub none_found : (content name : List ℕ) (held : List Held) → found name (coverages_of content held) ≡ None → NoneNamed name held
none_found content name [] h = tt
none_found content name (g ∷ held) h = elim (cases_Bool (has_name name g)) [
  | inl is ↦ absurd (let e : Some (coverage_of content g) ≡ None = rw is at h in cc)
  | inr other ↦ (other, none_found content name held (rw other at h))
]

-- the coverage that is found, and the index of one of its fields
pub found_named : (content name : List ℕ) (field : ℕ) (held : List Held) (i : ℕ) → IsNamedAt name held i
    → (found name (coverages_of content held) ≡ slice_get (coverages_of content held) i) × (index_of name field (coverages_of content held) (indexes_of held) ≡ slice_get (get_or (indexes_of held) i []) field)
found_named content name field [] i at = absurd at
found_named content name field (g ∷ held) zero at = rw at.0 (refl, refl)
found_named content name field (g ∷ held) (suc i) at = rw at.0 (found_named content name field held i at.1)

-- an update of a name that none has, and of the coverage that has it
updated_none : (content name : List ℕ) (field : ℕ) (area : List Axis) (numbers : List ℤ) (held : List Held) → NoneNamed name held → updated name field area numbers (coverages_of content held) ≡ coverages_of content held
updated_none content name field area numbers [] none = refl
updated_none content name field area numbers (g ∷ held) none = rw none.0 (ap (λ rest. coverage_of content g ∷ rest) (updated_none content name field area numbers held none.1))

pub updated_named : (old new name : List ℕ) (field : ℕ) (area : List Axis) (numbers : List ℤ) (held : List Held) (i : ℕ) (h h' : Held) → IsNamedAt name held i → h ≡ get_or held i h → KeepsAll (indexes_of (remove held i)) old new
    → coverage_of new h' ≡ updated_coverage field area numbers (coverage_of old h) → coverages_of new (set held i h') ≡ updated name field area numbers (coverages_of old held)
updated_named old new name field area numbers [] i h h' at was kept e = absurd at
updated_named old new name field area numbers (g ∷ held) zero h h' at was kept e =
    rw (at.0, updated_none old name field area numbers held at.1, e, was, (store_kept old new held kept).0) refl
updated_named old new name field area numbers (g ∷ held) (suc i) h h' at was kept e =
    let parts = all_kept old new g.fields.items (indexes_of (remove held i)) kept in
    rw (at.0, coverage_kept old new g parts.0, updated_named old new name field area numbers held i h h' at.1 was parts.1 e) refl

-- a removal of a name that none has, and of the coverage that has it
pub deleted_none : (content name : List ℕ) (held : List Held) → NoneNamed name held
    → (deleted name (coverages_of content held) ≡ coverages_of content held) × (indexes_without name (coverages_of content held) (indexes_of held) ≡ indexes_of held)
deleted_none content name [] none = (refl, refl)
deleted_none content name (g ∷ held) none =
    let rest = deleted_none content name held none.1 in
    rw none.0 (ap (λ r. coverage_of content g ∷ r) rest.0, ap (λ (r : List (List Index)). g.fields.items ∷ r) rest.1)

pub deleted_named : (content name : List ℕ) (held : List Held) (i : ℕ) → IsNamedAt name held i
    → (coverages_of content (remove held i) ≡ deleted name (coverages_of content held)) × (indexes_of (remove held i) ≡ indexes_without name (coverages_of content held) (indexes_of held))
deleted_named content name [] i at = absurd at
deleted_named content name (g ∷ held) zero at = let rest = deleted_none content name held at.1 in rw at.0 (sym rest.0, sym rest.1)
deleted_named content name (g ∷ held) (suc i) at =
    let rest = deleted_named content name held i at.1 in
    rw at.0 (ap (λ r. coverage_of content g ∷ r) rest.0, ap (λ (r : List (List Index)). g.fields.items ∷ r) rest.1)
