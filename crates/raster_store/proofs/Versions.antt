-- Decoded tiles are told by the version of their coverage: what changes of blocks, coverages and tiles do to them.
use Rattle.std.proofs.Common.{◌≡◌, ℕ, zero, suc, ◌+◌, ◌<◌, ◌≤◌, nat_eq, List, [], ◌∷◌, ◌++◌, length, get_or, set, take, drop, refl, sym, ap, ◌∙◌, arith, inl, inr, All, IsTrue, subst, cond, Option, Some, None, Contains}
use Rattle.std.specs.Prelude.{ℤ, slice_get}
use Rattle.std.specs.List.{remove}
use Rattle.std.proofs.lemmas.Bool.{cases_lt, ne_eqb}
use Rattle.std.proofs.lemmas.List.{get_or_past}
use Rattle.std.proofs.lemmas.List.Elements.{All-head, All-tail, All-cons, All-push, All-append, All-take, All-drop}
use Rattle.std.proofs.lemmas.List.Sums.{get_or-le-sum_by}
use Rattle.lru.proofs.Splits.{Contains-nil}
use Rattle.arr_core.specs.declared.field.Field.{Field}
use Rattle.arr_core.specs.Stores.{Coverage}
use Rattle.block_file.specs.State.{BlocksState}
use Rattle.tile_store.specs.Listing.{listed}
use Rattle.tile_store.specs.Stored.{IsTileSpelled}
use Rattle.tile_store.proofs.Kept.{tile_kept}
use Rattle.raster_store.specs.declared.held.Held.{Held}
use Rattle.raster_store.specs.declared.snapshot.Snapshot.{Snapshot}
use Rattle.raster_store.specs.declared.reading.TileAt.{TileAt}
use Rattle.raster_store.specs.declared.reading.TileKey.{TileKey}
use Rattle.raster_store.specs.Views.{Index, coverage_in, listed_fields, listed_all}
use Rattle.raster_store.specs.Fetches.{IsDecoded, ArePickedIn, AreTileCells, HasTile, HasRanks, IsSpelledAt, HasTileCount}
use Rattle.raster_store.specs.Decoded.{Known, Kept, nothing, IsKept, NoneAdded, Adds}
use Rattle.raster_store.specs.Holding.{coverages_of, indexes_of, IsWhole, IsHeld, Version, told_by, tile_in, IsTileIn, IsTileOf, Renews, AreOf, AddsOf, AreVersions, AreDecoded}
use Rattle.raster_store.specs.Copying.{IsCopyOf}
use Rattle.raster_store.proofs.Contents.{KeepsFields, KeepsAll, values_as, named_within, apart_none, apart_push}
use Rattle.raster_store.proofs.Readings.{some_weaker, placed, place_within}
use Rattle.raster_store.proofs.Totals.{sums, field_parts, all_parts, listed_none, listed_all-nil, listed_all-cons}

-- a field, and a coverage, list a block no more often than all do
field_listed : (indexes : List Index) (j k : ℕ) → listed (get_or indexes j []) k ≤ listed_fields indexes k
field_listed indexes j k = elim (cases_lt j (length indexes)) [
  | inl lt ↦ omega (arith, (field_parts k indexes j [] lt).0)
  | inr past ↦ omega (arith, ap (λ (i : Index). listed i k) (get_or_past indexes j [] past), listed_none k)
]

member : (held : List Held) (i : ℕ) (d : Held) (k : ℕ) → i < length held → listed_fields (get_or held i d).fields.items k ≤ listed_all (indexes_of held) k
unfolding listed_all
member held i d k lt = omega (arith, sums (λ (f : List Index). listed_fields f k) held, get_or-le-sum_by (λ (h : Held). listed_fields h.fields.items k) held i d lt)

abbrev IsTileSpelledIn : BlocksState → Version → TileKey → Type 0
IsTileSpelledIn s v key = IsSpelledAt (tile_in key.field key.tile) s.content (coverage_in s.content v.0 v.1 ∷ []) (v.1 ∷ [])

-- a tile of a coverage whose blocks hold what they held is spelled where it was
spelled_moved : (s s' : BlocksState) (v : Version) (key : TileKey) → KeepsFields v.1 s.content s'.content → IsTileSpelledIn s v key → IsTileSpelledIn s' v key
spelled_moved s s' v key kept =
    let domain = v.0.domain in
    let index = get_or v.1 key.field [] in
    some_weaker (slice_get v.0.fields key.field) (λ (f : Field). IsTileSpelled f.kind domain index s.content key.tile) (λ (f : Field). IsTileSpelled f.kind domain index s'.content key.tile)
    (λ f was. tile_kept f.kind domain index s.content s'.content key.tile (λ k some. kept k (omega (arith, some, field_listed v.1 key.field k))) was)

-- what is known of it is true
tile_moved : (s s' : BlocksState) (v : Version) (key : TileKey) (known : Known) → s'.honest ≡ s.honest → (IsTrue s.honest → KeepsFields v.1 s.content s'.content) → IsTileIn s v key known → IsTileIn s' v key known
tile_moved s s' v key None honest kept t = λ sure. (let before = rw honest at sure in spelled_moved s s' v key (kept before) (t before))
tile_moved s s' v key (Some cells) honest kept t = record {
  counted = t.counted;
  values = λ sure.
      let before = rw honest at sure in
      let same : coverage_in s'.content v.0 v.1 ≡ coverage_in s.content v.0 v.1 = rw (values_as s.content s'.content v.0.domain v.0.fields v.1 (kept before)).0 refl in
      subst (λ (c : Coverage). AreTileCells (tile_in key.field key.tile) (c ∷ []) cells) (sym same) (t.values before);
  spelled = λ sure. (let before = rw honest at sure in spelled_moved s s' v key (kept before) (t.spelled before));
}

-- those of some coverages
versions_moved : (s s' : BlocksState) (table : ℕ → Version) (next : ℕ) (kept : Kept) (held : List Held) → s'.honest ≡ s.honest → (IsTrue s.honest → KeepsAll (indexes_of held) s.content s'.content) → AreVersions s table next kept held → AreVersions s' table next kept held
versions_moved s s' table next kept held honest keeps a = record {
  like = a.like;
  below = a.below;
  tiles = λ key cells found i d lt e.
      tile_moved s s' (told_by (get_or held i d)) key cells honest (λ sure k some. keeps sure k (omega (arith, some, member held i d k lt))) (a.tiles key cells found i d lt e);
}

versions_added : (s : BlocksState) (table : ℕ → Version) (next : ℕ) (h : Held) (old new : Kept) (held : List Held) → AddsOf s h old new → ((n : ℕ) → h.version ≡ Some n → table n ≡ told_by h) → AreVersions s table next old held → AreVersions s table next new held
versions_added s table next h old new held adds is a = record {
  like = a.like;
  below = a.below;
  tiles = λ key cells found i d lt e. elim (adds key cells found) [
    | inl was ↦ a.tiles key cells was i d lt e
    | inr same ↦
        let told : told_by h ≡ told_by (get_or held i d) = sym (is key.version same.0) ∙ a.like key.version i d lt e in
        subst (λ (w : Version). IsTileIn s w key cells) told same.1
  ];
}

-- a table in which a version is given
abbrev given : (ℕ → Version) → ℕ → Version → ℕ → Version
given table next v n = cond (nat_eq n next) v (table n)

given_below : (table : ℕ → Version) (next : ℕ) (v : Version) (n : ℕ) → n < next → given table next v n ≡ table n
given_below table next v n lt = rw (ne_eqb n next (λ e. omega (arith, e, lt))) refl

given_here : (table : ℕ → Version) (n : ℕ) (v : Version) → given table n v n ≡ v
given_here table n v = grind arith

-- the number behind is no smaller, and what gets a version gets a new one
renews_le : (next : ℕ) (version : Option ℕ) (following : ℕ) → Renews next version following → next ≤ following
renews_le next version following r = elim r [ inl some ↦ omega (arith, some.1) | inr none ↦ omega (arith, none.1) ]

renews_new : (next : ℕ) (version : Option ℕ) (following n : ℕ) → Renews next version following → version ≡ Some n → (n ≡ next) × (following ≡ next + 1)
renews_new next version following n r e = elim r [
  | inl some ↦ (let same : Some n ≡ Some next = sym e ∙ some.0 in let is : n ≡ next = cc in (is, some.1))
  | inr none ↦ absurd (let same : Some n ≡ None = sym e ∙ none.0 in cc)
]

versions_given : (s : BlocksState) (table : ℕ → Version) (next following : ℕ) (v : Version) (kept : Kept) (held : List Held) → next ≤ following → AreVersions s table next kept held → AreVersions s (given table next v) following kept held
versions_given s table next following v kept held le a = record {
  like = λ n i d lt e. given_below table next v n (a.below n i d lt e) ∙ a.like n i d lt e;
  below = λ n i d lt e. omega (arith, a.below n i d lt e, le);
  tiles = a.tiles;
}

All-put : {X : Type 0} (P : X → Type 0) (xs : List X) (i : ℕ) (x : X) → All P (remove xs i) → P x → All P (set xs i x)
All-put P [] i x all p = λ k d l. absurd (omega (arith, l))
All-put P (y ∷ ys) zero x all p = All-cons P x ys p all
All-put P (y ∷ ys) (suc i) x all p = All-cons P y (set ys i x) (All-head P y (remove ys i) all) (All-put P ys i x (All-tail P y (remove ys i) all) p)

All-less : {X : Type 0} (P : X → Type 0) (xs : List X) (i : ℕ) → All P xs → All P (remove xs i)
All-less P xs i all = All-append P (take i xs) (drop (suc i) xs) (All-take P i xs all) (All-drop P (suc i) xs all)

versions_remove : (s : BlocksState) (table : ℕ → Version) (next : ℕ) (kept : Kept) (held : List Held) (i : ℕ) → AreVersions s table next kept held → AreVersions s table next kept (remove held i)
versions_remove s table next kept held i a = record {
  like = λ n. All-less (λ (h : Held). h.version ≡ Some n → table n ≡ told_by h) held i (a.like n);
  below = λ n. All-less (λ (h : Held). h.version ≡ Some n → n < next) held i (a.below n);
  tiles = λ key cells found. All-less (λ (h : Held). h.version ≡ Some key.version → IsTileIn s (told_by h) key cells) held i (a.tiles key cells found);
}

-- one that is written, or comes, has a version of which no tile is kept, or none
record IsNew (s : BlocksState) (table : ℕ → Version) (next following : ℕ) (kept : Kept) (h : Held) : Type 0 where
  pub like : (n : ℕ) → h.version ≡ Some n → given table next (told_by h) n ≡ told_by h
  pub below : (n : ℕ) → h.version ≡ Some n → n < following
  pub tiles : (key : TileKey) (cells : Known) → IsKept key cells kept → h.version ≡ Some key.version → IsTileIn s (told_by h) key cells

is_new : (s : BlocksState) (table : ℕ → Version) (next following : ℕ) (kept : Kept) (h : Held) → ((key : TileKey) (cells : Known) → IsKept key cells kept → key.version < next) → Renews next h.version following → IsNew s table next following kept h
is_new s table next following kept h known is = record {
  like = λ n e. ap (given table next (told_by h)) (renews_new next h.version following n is e).0 ∙ given_here table next (told_by h);
  below = λ n e. let new = renews_new next h.version following n is e in omega (arith, new.0, new.1);
  tiles = λ key cells found e. let new = renews_new next h.version following key.version is e in absurd (omega (arith, new.0, known key cells found));
}

versions_put : (s : BlocksState) (table : ℕ → Version) (next following : ℕ) (kept : Kept) (held : List Held) (i : ℕ) (h : Held) → ((key : TileKey) (cells : Known) → IsKept key cells kept → key.version < next) → Renews next h.version following
    → AreVersions s table next kept (remove held i) → AreVersions s (given table next (told_by h)) following kept (set held i h)
versions_put s table next following kept held i h known is a =
    let b = versions_given s table next following (told_by h) kept (remove held i) (renews_le next h.version following is) a in
    let new = is_new s table next following kept h known is in
    record {
      like = λ n. All-put (λ (g : Held). g.version ≡ Some n → given table next (told_by h) n ≡ told_by g) held i h (b.like n) (new.like n);
      below = λ n. All-put (λ (g : Held). g.version ≡ Some n → n < following) held i h (b.below n) (new.below n);
      tiles = λ key cells found. All-put (λ (g : Held). g.version ≡ Some key.version → IsTileIn s (told_by g) key cells) held i h (b.tiles key cells found) (new.tiles key cells found);
    }

versions_push : (s : BlocksState) (table : ℕ → Version) (next following : ℕ) (kept : Kept) (held : List Held) (h : Held) → ((key : TileKey) (cells : Known) → IsKept key cells kept → key.version < next) → Renews next h.version following
    → AreVersions s table next kept held → AreVersions s (given table next (told_by h)) following kept (held ++ h ∷ [])
versions_push s table next following kept held h known is a =
    let b = versions_given s table next following (told_by h) kept held (renews_le next h.version following is) a in
    let new = is_new s table next following kept h known is in
    record {
      like = λ n. All-push (λ (g : Held). g.version ≡ Some n → given table next (told_by h) n ≡ told_by g) held h (b.like n) (new.like n);
      below = λ n. All-push (λ (g : Held). g.version ≡ Some n → n < following) held h (b.below n) (new.below n);
      tiles = λ key cells found. All-push (λ (g : Held). g.version ≡ Some key.version → IsTileIn s (told_by g) key cells) held h (b.tiles key cells found) (new.tiles key cells found);
    }

-- copies have the versions of what they are copies of
told_as : (h g : Held) → h.signature ≡ g.signature → h.fields.items ≡ g.fields.items → told_by h ≡ told_by g
told_as h g signature fields = rw (signature, fields) refl

versions_picked : (s : BlocksState) (table : ℕ → Version) (next : ℕ) (kept : Kept) (held copies : List Held) → All (IsCopyOf held) copies → AreVersions s table next kept held → AreVersions s table next kept copies
versions_picked s table next kept held copies from a = record {
  like = λ n i d lt e.
      let h = get_or copies i d in
      let p = from i d lt in
      let there : p.from.version ≡ Some n → table n ≡ told_by p.from = subst (λ (g : Held). g.version ≡ Some n → table n ≡ told_by g) (sym p.named.2) (a.like n p.named.0 p.from (within h p)) in
      there (sym p.version ∙ e) ∙ sym (told_as h p.from p.signature p.fields);
  below = λ n i d lt e.
      let h = get_or copies i d in
      let p = from i d lt in
      let there : p.from.version ≡ Some n → n < next = subst (λ (g : Held). g.version ≡ Some n → n < next) (sym p.named.2) (a.below n p.named.0 p.from (within h p)) in
      there (sym p.version ∙ e);
  tiles = λ key cells found i d lt e.
      let h = get_or copies i d in
      let p = from i d lt in
      let there : p.from.version ≡ Some key.version → IsTileIn s (told_by p.from) key cells =
      subst (λ (g : Held). g.version ≡ Some key.version → IsTileIn s (told_by g) key cells) (sym p.named.2) (a.tiles key cells found p.named.0 p.from (within h p)) in
      subst (λ (v : Version). IsTileIn s v key cells) (sym (told_as h p.from p.signature p.fields)) (there (sym p.version ∙ e));
}
  where
    within : (h : Held) (p : IsCopyOf held h) → p.named.0 < length held
    within h p = named_within h.signature.name held p.named.0 p.named.1

-- ---- all that is kept of a store, and of what is held of it for jobs

-- the blocks of coverages, and of all that is held for jobs, hold what they held
abbrev pub KeepsJobs : List Snapshot → BlocksState → BlocksState → Type 0
KeepsJobs xs s s' = All (λ (x : Snapshot). IsTrue s.honest → KeepsAll (indexes_of x.coverages.items) s.content s'.content) xs

jobs_moved : (s s' : BlocksState) (table : ℕ → Version) (next : ℕ) (kept : Kept) (xs : List Snapshot) → s'.honest ≡ s.honest → KeepsJobs xs s s' → All (λ (x : Snapshot). AreVersions s table next kept x.coverages.items) xs → All (λ (x : Snapshot). AreVersions s' table next kept x.coverages.items) xs
jobs_moved s s' table next kept xs honest keeps all = λ k d l. versions_moved s s' table next kept (get_or xs k d).coverages.items honest (keeps k d l) (all k d l)

pub decoded_moved : (s s' : BlocksState) (next : ℕ) (kept : Kept) (held : List Held) (xs : List Snapshot) → s'.honest ≡ s.honest → (IsTrue s.honest → KeepsAll (indexes_of held) s.content s'.content) → KeepsJobs xs s s' → AreDecoded s next kept held xs → AreDecoded s' next kept held xs
decoded_moved s s' next kept held xs honest keeps jobs a = record {
  table = a.table;
  known = a.known;
  own = versions_moved s s' a.table next kept held honest keeps a.own;
  jobs = jobs_moved s s' a.table next kept xs honest jobs a.jobs;
}

-- where the content stays
pub decoded_read : (s s' : BlocksState) (next : ℕ) (kept : Kept) (held : List Held) (xs : List Snapshot) → s'.content ≡ s.content → s'.honest ≡ s.honest → AreDecoded s next kept held xs → AreDecoded s' next kept held xs
decoded_read s s' next kept held xs content honest a = decoded_moved s s' next kept held xs honest (λ sure k some. rw content refl) (λ k d l sure j some. rw content refl) a

nothing_kept : (kept : Kept) → kept ≡ nothing → (key : TileKey) (known : Known) → IsKept key known kept → ⊥
nothing_kept kept is key None found = Contains-nil (Some key) (subst (λ (k : Kept). Contains k.tested (Some key)) is found)
nothing_kept kept is key (Some cells) found = Contains-nil (key, found.0) (subst (λ (k : Kept). Contains k.tiles (key, found.0)) is found.1)

-- no tile, and no coverage
pub decoded_none : (s : BlocksState) (next : ℕ) (kept : Kept) → kept ≡ nothing → AreDecoded s next kept [] []
decoded_none s next kept is = record {
  table = λ n. (record { name = []; domain = []; fields = [] }, []);
  known = λ key cells found. absurd (nothing_kept kept is key cells found);
  own = record { like = λ n i d l. absurd (omega (arith, l)); below = λ n i d l. absurd (omega (arith, l)); tiles = λ key cells found. absurd (nothing_kept kept is key cells found) };
  jobs = λ k d l. absurd (omega (arith, l));
}

-- all tiles are let go
versions_let_go : (s : BlocksState) (table : ℕ → Version) (next : ℕ) (old new : Kept) (held : List Held) → new ≡ nothing → AreVersions s table next old held → AreVersions s table next new held
versions_let_go s table next old new held is v = record {
  like = v.like;
  below = v.below;
  tiles = λ key cells found. absurd (nothing_kept new is key cells found);
}

pub decoded_let_go : (s : BlocksState) (next : ℕ) (old new : Kept) (held : List Held) (xs : List Snapshot) → new ≡ nothing → AreDecoded s next old held xs → AreDecoded s next new held xs
decoded_let_go s next old new held xs is a = record {
  table = a.table;
  known = λ key cells found. absurd (nothing_kept new is key cells found);
  own = versions_let_go s a.table next old new held is a.own;
  jobs = λ k d l. versions_let_go s a.table next old new (get_or xs k d).coverages.items is (a.jobs k d l);
}

-- tiles of a coverage were added
decoded_added : (s : BlocksState) (next : ℕ) (h : Held) (old new : Kept) (held : List Held) (xs : List Snapshot) → AddsOf s h old new → (a : AreDecoded s next old held xs) → ((n : ℕ) → h.version ≡ Some n → a.table n ≡ told_by h) → ((n : ℕ) → h.version ≡ Some n → n < next) → AreDecoded s next new held xs
decoded_added s next h old new held xs adds a is below = record {
  table = a.table;
  known = λ key cells found. elim (adds key cells found) [ inl was ↦ a.known key cells was | inr same ↦ below key.version same.0 ];
  own = versions_added s a.table next h old new held adds is a.own;
  jobs = λ k d l. versions_added s a.table next h old new (get_or xs k d).coverages.items adds is (a.jobs k d l);
}

-- What is kept of one of some coverages are its tiles, and more of its tiles may be.
pub record Serves (s : BlocksState) (next : ℕ) (old : Kept) (held : List Held) (xs : List Snapshot) (h : Held) : Type 0 where
  pub kept : AreOf s h old
  pub more : (new : Kept) → AddsOf s h old new → AreDecoded s next new held xs

serves_of : (s : BlocksState) (next : ℕ) (old : Kept) (held : List Held) (xs : List Snapshot) (a : AreDecoded s next old held xs) (some : List Held) (i : ℕ) (h : Held) → AreVersions s a.table next old some → i < length some → h ≡ get_or some i h → Serves s next old held xs h
serves_of s next old held xs a some i h v within was = record {
  kept = λ key cells found. subst (λ (g : Held). g.version ≡ Some key.version → IsTileIn s (told_by g) key cells) (sym was) (v.tiles key cells found i h within);
  more = λ new adds. decoded_added s next h old new held xs adds a (λ n. subst (λ (g : Held). g.version ≡ Some n → a.table n ≡ told_by g) (sym was) (v.like n i h within)) (λ n. subst (λ (g : Held). g.version ≡ Some n → n < next) (sym was) (v.below n i h within));
}

-- of a coverage of the store, and of one that is held for a job
pub serves_own : (s : BlocksState) (next : ℕ) (old : Kept) (held : List Held) (xs : List Snapshot) (i : ℕ) (h : Held) → AreDecoded s next old held xs → i < length held → h ≡ get_or held i h → Serves s next old held xs h
serves_own s next old held xs i h a within was = serves_of s next old held xs a held i h a.own within was

pub serves_job : (s : BlocksState) (next : ℕ) (old : Kept) (held : List Held) (xs : List Snapshot) (j : ℕ) (x : Snapshot) (i : ℕ) (h : Held) → AreDecoded s next old held xs → j < length xs → x ≡ get_or xs j x → i < length x.coverages.items → h ≡ get_or x.coverages.items i h → Serves s next old held xs h
serves_job s next old held xs j x i h a within is inside was =
    serves_of s next old held xs a x.coverages.items i h (subst (λ (y : Snapshot). AreVersions s a.table next old y.coverages.items) (sym is) (a.jobs j x within)) inside was

pub adds_none : (s : BlocksState) (h : Held) (old new : Kept) → NoneAdded old new → AddsOf s h old new
adds_none s h old new fewer key cells found = inl (fewer key cells found)

-- more is known of a tile, after a fetch
pub adds_then : (s : BlocksState) (h : Held) (key : TileKey) (what : Known) (old mid new : Kept) → AddsOf s h old mid → Adds key what mid new → h.version ≡ Some key.version → IsTileIn s (told_by h) key what → AddsOf s h old new
adds_then s h key what old mid new first adds is tile j known found = elim (adds j known found) [
  | inl was ↦ first j known was
  | inr same ↦ inr (rw same.0 is, rw (same.0, same.1) tile)
]

pub adds_of : (s : BlocksState) (h : Held) (key : TileKey) (what : Known) (old mid new : Kept) → NoneAdded old mid → Adds key what mid new → h.version ≡ Some key.version → IsTileIn s (told_by h) key what → AddsOf s h old new
adds_of s h key what old mid new fewer adds is tile = adds_then s h key what old mid new (adds_none s h old mid fewer) adds is tile

-- ---- coverages come, go and change

pub decoded_push : (s : BlocksState) (next following : ℕ) (kept : Kept) (held : List Held) (xs : List Snapshot) (h : Held) → Renews next h.version following → AreDecoded s next kept held xs → AreDecoded s following kept (held ++ h ∷ []) xs
decoded_push s next following kept held xs h is a = record {
  table = given a.table next (told_by h);
  known = λ key cells found. omega (arith, a.known key cells found, renews_le next h.version following is);
  own = versions_push s a.table next following kept held h a.known is a.own;
  jobs = λ k d l. versions_given s a.table next following (told_by h) kept (get_or xs k d).coverages.items (renews_le next h.version following is) (a.jobs k d l);
}

pub decoded_written : (s s' : BlocksState) (next following : ℕ) (kept : Kept) (held : List Held) (xs : List Snapshot) (i : ℕ) (h : Held) → Renews next h.version following → s'.honest ≡ s.honest
    → (IsTrue s.honest → KeepsAll (indexes_of (remove held i)) s.content s'.content) → KeepsJobs xs s s' → AreDecoded s next kept held xs → AreDecoded s' following kept (set held i h) xs
decoded_written s s' next following kept held xs i h is honest keeps jobs a = record {
  table = given a.table next (told_by h);
  known = λ key cells found. omega (arith, a.known key cells found, renews_le next h.version following is);
  own = versions_put s' a.table next following kept held i h a.known is (versions_moved s s' a.table next kept (remove held i) honest keeps (versions_remove s a.table next kept held i a.own));
  jobs = λ k d l. versions_given s' a.table next following (told_by h) kept (get_or xs k d).coverages.items (renews_le next h.version following is) (jobs_moved s s' a.table next kept xs honest jobs a.jobs k d l);
}

pub decoded_removed : (s : BlocksState) (next : ℕ) (kept : Kept) (held : List Held) (xs : List Snapshot) (i : ℕ) → AreDecoded s next kept held xs → AreDecoded s next kept (remove held i) xs
decoded_removed s next kept held xs i a = record { table = a.table; known = a.known; own = versions_remove s a.table next kept held i a.own; jobs = a.jobs }

pub decoded_held : (s : BlocksState) (next : ℕ) (kept : Kept) (held : List Held) (xs : List Snapshot) (x : Snapshot) → All (IsCopyOf held) x.coverages.items → AreDecoded s next kept held xs → AreDecoded s next kept held (xs ++ x ∷ [])
decoded_held s next kept held xs x from a = record {
  table = a.table;
  known = a.known;
  own = a.own;
  jobs = All-push (λ (y : Snapshot). AreVersions s a.table next kept y.coverages.items) xs x a.jobs (versions_picked s a.table next kept held x.coverages.items from a.own);
}

pub decoded_released : (s : BlocksState) (next : ℕ) (kept : Kept) (held : List Held) (xs : List Snapshot) (i : ℕ) → AreDecoded s next kept held xs → AreDecoded s next kept held (remove xs i)
decoded_released s next kept held xs i a = record { table = a.table; known = a.known; own = a.own; jobs = All-less (λ (y : Snapshot). AreVersions s a.table next kept y.coverages.items) xs i a.jobs }

-- ---- a tile of a coverage by itself

pub record Alone (s : BlocksState) (held : List Held) (at : TileAt) (h : Held) : Type 0 where
  pub within : at.coverage < length held
  pub is_held : IsHeld s (h ∷ [])
  pub tile : HasTile (tile_in at.field at.tile) (coverages_of s.content (h ∷ []))
  pub ranks : (ranks : List ℕ) → HasRanks at ranks (coverages_of s.content held) → HasRanks (tile_in at.field at.tile) ranks (coverages_of s.content (h ∷ []))
  pub count : (values : List ℤ) → HasTileCount at (coverages_of s.content held) values → HasTileCount (tile_in at.field at.tile) (coverages_of s.content (h ∷ [])) values
  pub there : (cells : List ℤ) → IsTileOf s h at.field at.tile cells → IsDecoded s (coverages_of s.content held) (indexes_of held) at cells
  pub picked : (ranks : List ℕ) (cells : List ℤ) → ArePickedIn s (coverages_of s.content (h ∷ [])) (indexes_of (h ∷ [])) (tile_in at.field at.tile) ranks cells → ArePickedIn s (coverages_of s.content held) (indexes_of held) at ranks cells
  pub spelled : IsSpelledAt at s.content (coverages_of s.content held) (indexes_of held) → IsSpelledAt (tile_in at.field at.tile) s.content (coverages_of s.content (h ∷ [])) (indexes_of (h ∷ []))

one_held : (s : BlocksState) (held : List Held) (i : ℕ) (h : Held) → IsHeld s held → i < length held → h ≡ get_or held i h → IsHeld s (h ∷ [])
one_held s held i h is within was =
    let total : (k : ℕ) → listed_all (indexes_of (h ∷ [])) k ≡ listed_fields h.fields.items k = λ k. omega (arith, listed_all-cons k h.fields.items [], listed_all-nil k) in
    record {
      each = All-push IsWhole [] h (λ k d l. absurd (omega (arith, l))) (subst IsWhole (sym was) (is.each i h within));
      apart = apart_push [] h apart_none tt;
      counted = λ k. omega (arith, is.counted k, (all_parts k held i h h within was).0, total k);
      whole = λ sure k some. is.whole sure k (omega (arith, some, (all_parts k held i h h within was).0, total k));
    }

pub alone : (s : BlocksState) (held : List Held) (at : TileAt) (h : Held) → IsHeld s held → HasTile at (coverages_of s.content held) → h ≡ get_or held at.coverage h → Alone s held at h
alone s held at h is has was =
    let within = place_within s.content held at has in
    let p = placed s held at h is has was in
    let found = p.of.facts.at in
    record {
      within = within;
      is_held = one_held s held at.coverage h is within was;
      tile = rw found at has;
      ranks = λ ranks within. rw found at within;
      count = λ values size. rw found at size;
      picked = λ ranks cells t. record { counted = t.counted; values = λ sure. rw found (t.values sure); spelled = λ sure. rw (found, p.indexes) (t.spelled sure) };
      there = λ cells t. record { counted = rw found t.counted; values = λ sure. rw found (t.values sure); spelled = λ sure. rw (found, p.indexes) (t.spelled sure) };
      spelled = λ spelled. rw (found, p.indexes) at spelled;
    }
