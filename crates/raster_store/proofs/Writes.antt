-- A store that is held, and what changes of its coverages and blocks do to it and to the tiles that are kept decoded.
use Rattle.std.proofs.Common.{◌≡◌, ℕ, Bool, true, ◌&&◌, List, [], Contains, refl, sym, ap, ◌∙◌, subst, inl, inr, nat_eq, Result, Ok, Err, OnOk, OnErr, suc, ◌<◌, ◌∷◌, length, get_or, take, drop, map, IsTrue, arith, All, ◌≢◌, None, Option, set}
use Rattle.std.specs.Prelude.{ℤ, Some, replicate}
use Rattle.arr_core.specs.declared.runs.RunList.{RunList}
use Rattle.arr_core.specs.Runs.{cells_of}
use Rattle.std.specs.Map.{lookup, remove_entry}
use Rattle.std.specs.List.{remove}
use Rattle.std.proofs.lemmas.Bool.{eqb-true, and_parts, cases_eq}
use Rattle.std.proofs.lemmas.List.{get_or-set_other, get_or-set_same}
use Rattle.std.proofs.Math.ListN.{length-set}
use Rattle.std.proofs.lemmas.List.Elements.{All-head, All-tail, All-append, All-take, All-drop, All-replicate}
use Rattle.lru.specs.LruCache.{LruCache, lru_cache, promoted, put_entries}
use Rattle.lru.proofs.CallerLemmas.{Contains-lookup, Contains-promoted, Contains-put_entries, Contains-remove_entry}
use Rattle.block_file.specs.State.{BlocksState, none}
use Rattle.block_file.specs.Words.{Recounts, Moves, OnlyHeader}
use Rattle.raster_store.specs.declared.reading.TileKey.{TileKey}
use Rattle.raster_store.specs.contracts.reading.TileKeyPartialEq.TheImpl as tile_eq
use Rattle.raster_store.specs.Views.{RasterView, SnapshotView, coverages_in, listed_fields, listed_all}
use Rattle.raster_store.specs.Decoded.{NoneAdded, Adds}
use Rattle.raster_store.specs.declared.held.Held.{Held}
use Rattle.raster_store.specs.Words.{SameCoverages, Keeps}
use Rattle.raster_store.specs.Calls.{MayAttach, AreListed, AreSameSignatures, signature_of, AreWhole as AreAllWhole}
use Rattle.raster_store.specs.Holding.{coverages_of, coverage_of, indexes_of, signatures_of, IsWhole, IsHeld}
use Rattle.raster_store.proofs.Contents.{apart_none, apart_remove, KeepsAll, store_kept}
use Rattle.raster_store.proofs.Totals.{listed_fields-none, listed_all-nil, all_parts}

abbrev place : ℕ → ℕ → ℕ → TileKey
place c f t = record { version = c; field = f; tile = t }

same_place : (c d f g t u : ℕ) → c ≡ d → f ≡ g → t ≡ u → place c f t ≡ place d g u
same_place c d f g t u e h k = rw (e, h, k) refl

-- whether two tiles are the same
abbrev pub is_at : TileKey → TileKey → Bool
is_at = (tile_eq.ghosts).eq

same_tile : (a b : TileKey) → is_at a b ≡ true → a ≡ b
same_tile a b e =
    let p = and_parts (nat_eq a.version b.version) (nat_eq a.field b.field && nat_eq a.tile b.tile) e in
    let q = and_parts (nat_eq a.field b.field) (nat_eq a.tile b.tile) p.1 in
    same_place a.version b.version a.field b.field a.tile b.tile (eqb-true a.version b.version p.0) (eqb-true a.field b.field q.0) (eqb-true a.tile b.tile q.1)

-- a tile that is looked up is kept
pub looked_up : (at : TileKey) (es : List (TileKey × RunList)) (tile : RunList) → lookup (is_at at) es ≡ Some tile → Contains es (at, tile)
looked_up at es tile h =
    let on = Contains-lookup (is_at at) es tile h in
    subst (λ (k : TileKey). Contains es (k, tile)) (sym (same_tile at on.0 on.2)) on.1

-- with a tile at the front the same are kept
pub promoted_kept : (at : TileKey) (es : List (TileKey × RunList)) (tested : List (Option TileKey)) → NoneAdded (record { tiles = es; tested = tested }) (record { tiles = promoted (is_at at) es; tested = tested })
promoted_kept at es tested j None kept = kept
promoted_kept at es tested j (Some cells) kept = (kept.0, Contains-promoted (is_at at) es (j, kept.0) kept.1, kept.2)

-- without a tile the others are kept
pub popped_kept : (at : TileKey) (es : List (TileKey × RunList)) (tested : List (Option TileKey)) → NoneAdded (record { tiles = es; tested = tested }) (record { tiles = remove_entry (is_at at) es; tested = tested })
popped_kept at es tested j None kept = kept
popped_kept at es tested j (Some cells) kept = (kept.0, Contains-remove_entry (is_at at) es (j, kept.0) kept.1, kept.2)

put_added : (old : LruCache TileKey RunList) (tested : List (Option TileKey)) (at : TileKey) (tile : RunList) (cells : List ℤ) → cells_of tile ≡ cells → Adds at (Some cells) (record { tiles = old.entries; tested = tested }) (record { tiles = put_entries is_at old at tile; tested = tested })
put_added old tested at tile cells is j None kept = inl kept
put_added old tested at tile cells is j (Some others) kept = elim (Contains-put_entries is_at old at tile (j, kept.0) kept.1) [
  | inl was ↦ inl (kept.0, was, kept.2)
  | inr put ↦
      let key : j ≡ at = elim put.1 [ inl same ↦ same | inr was ↦ sym (same_tile at j was.2) ] in
      inr (key, ap Some (sym kept.2 ∙ ap cells_of put.0 ∙ is))
]

-- a tile that was put, or for which there was no memory
pub put_kept : {T E : Type 0} (result : Result T E) (old new : LruCache TileKey RunList) (tested : List (Option TileKey)) (at : TileKey) (tile : RunList) (cells : List ℤ)
    → OnOk result (new ≡ lru_cache (put_entries is_at old at tile) old.cap) → OnErr result (new ≡ old) → cells_of tile ≡ cells → Adds at (Some cells) (record { tiles = old.entries; tested = tested }) (record { tiles = new.entries; tested = tested })
put_kept (Ok put) old new tested at tile cells done refused is = rw done (put_added old tested at tile cells is)
put_kept (Err left) old new tested at tile cells done refused is = rw refused (λ j known kept. inl kept)

-- places without a mark
pub marks_none : (tiles : List (TileKey × RunList)) (tested marks : List (Option TileKey)) (n : ℕ) → marks ≡ replicate n None → NoneAdded (record { tiles = tiles; tested = tested }) (record { tiles = tiles; tested = marks })
marks_none tiles tested marks n is j None kept =
    let empty = λ (m : Option TileKey). m ≡ None in
    let all : All empty marks = subst (λ (l : List (Option TileKey)). All empty l) (sym is) (All-replicate empty n None refl) in
    absurd (let none : None ≡ Some j = sym (all kept.0 (Some j) kept.1) ∙ kept.2 in cc)
marks_none tiles tested marks n is j (Some cells) kept = kept

-- a tile was marked at a place
pub mark_kept : (tiles : List (TileKey × RunList)) (tested : List (Option TileKey)) (place : ℕ) (at : TileKey) → place < length tested → Adds at None (record { tiles = tiles; tested = tested }) (record { tiles = tiles; tested = set tested place (Some at) })
mark_kept tiles tested place at within j None kept = elim (cases_eq kept.0 place) [
  | inl same ↦
      let here : get_or (set tested place (Some at)) place (Some j) ≡ Some at = (let lt : place < length tested = within in rw get_or-set_same) in
      let there : get_or (set tested place (Some at)) place (Some j) ≡ Some j = ap (λ (i : ℕ). get_or (set tested place (Some at)) i (Some j)) (sym same) ∙ kept.2 in
      let both : Some at ≡ Some j = sym here ∙ there in
      let key : j ≡ at = (cc) in
      inr (key, refl)
  | inr other ↦
      let ne : kept.0 ≢ place = other in
      let was : get_or tested kept.0 (Some j) ≡ Some j = (let there = kept.2 in rw get_or-set_other at there) in
      inl (kept.0, omega (arith, kept.1, length-set {A = Option TileKey}), was)
]
mark_kept tiles tested place at within j (Some cells) kept = inl kept

-- a mark that is found
pub mark_found : (tested : List (Option TileKey)) (place : ℕ) (key at : TileKey) → place < length tested → get_or tested place (Some key) ≡ Some key → is_at key at ≡ true → Contains tested (Some at)
mark_found tested place key at within is same =
    let e = same_tile key at same in
    subst (λ (k : TileKey). Contains tested (Some k)) e (place, within, is)

-- what is told of coverages
told : (content : List ℕ) (held : List Held) → map signature_of (coverages_of content held) ≡ signatures_of held
told content [] = refl
told content (g ∷ held) = ap (λ rest. g.signature ∷ rest) (told content held)

pub same_signatures : (content content' : List ℕ) (held new : List Held) → signatures_of new ≡ signatures_of held → AreSameSignatures (coverages_of content held) (coverages_of content' new)
same_signatures content content' held new e = told content' new ∙ e ∙ sym (told content held)

-- a held store is listed
all_listed : (content : List ℕ) (held : List Held) → All IsWhole held
    → (coverages_of content held ≡ coverages_in content (map signature_of (coverages_of content held)) (indexes_of held)) × AreAllWhole (coverages_of content held) (indexes_of held)
all_listed content [] each = (refl, tt)
all_listed content (g ∷ held) each =
    let first = All-head IsWhole g held each in
    let rest = all_listed content held (All-tail IsWhole g held each) in
    (ap (λ r. coverage_of content g ∷ r) rest.0, (first.0, first.1, first.2, rest.1))

pub listed_held : (s : BlocksState) (held : List Held) → IsHeld s held → AreListed s (coverages_of s.content held) (indexes_of held)
listed_held s held is =
    let all = all_listed s.content held is.each in
    record { values = all.0; each = all.1; counted = is.counted; whole = is.whole }

-- a store without coverages
pub held_none : (s : BlocksState) → IsHeld s []
held_none s = record {
  each = λ k d l. absurd (omega arith);
  apart = apart_none;
  counted = λ k. omega (arith, listed_all-nil k);
  whole = λ sure k some. absurd (omega (arith, some, listed_all-nil k));
}

-- what was in use and whole still is, and holds what it held
pub keeps_all : (s s' : BlocksState) (held : List Held) → IsHeld s held → Moves none none s s' → IsTrue s.honest → KeepsAll (indexes_of held) s.content s'.content
keeps_all s s' held is moves sure k some = moves.kept k (omega (arith, some, is.counted k)) (is.whole sure k some)

pub keeps_header : (s s' : BlocksState) (held : List Held) → IsHeld s held → OnlyHeader s s' → IsTrue s.honest → KeepsAll (indexes_of held) s.content s'.content
keeps_header s s' held is only sure k some = only.others sure k (λ e. absurd (let n : s.uses k ≡ 0 = rw e only.unused in omega (arith, some, n, is.counted k))) (is.whole sure k some)

pub held_kept : (s s' : BlocksState) (held : List Held) → IsHeld s held → ((k : ℕ) → s'.uses k ≡ s.uses k) → s'.honest ≡ s.honest → (IsTrue s.honest → KeepsAll (indexes_of held) s.content s'.content) → IsHeld s' held
held_kept s s' held is uses honest kept = record {
  each = is.each;
  apart = is.apart;
  counted = λ k. omega (arith, is.counted k, uses k);
  whole = λ sure k some. (let before = rw honest at sure in rw (kept before k some) (is.whole before k some));
}

-- an empty coverage lists nothing
pub may_empty : (s : BlocksState) (held : List Held) (n : ℕ) → IsHeld s held → MayAttach s (indexes_of held) (replicate n [])
may_empty s held n is = record {
  counted = λ k. omega (arith, is.counted k, listed_fields-none k n);
  whole = λ sure k some. absurd (omega (arith, some, listed_fields-none k n));
}

-- one coverage less, whose blocks were given back
pub held_remove : (s s' : BlocksState) (held : List Held) (i : ℕ) (h : Held) → IsHeld s held → i < length held → h ≡ get_or held i h → Recounts (listed_fields h.fields.items) none s s'
    → IsHeld s' (remove held i) × Recounts (listed_all (indexes_of held)) (listed_all (indexes_of (remove held i))) s s'
held_remove s s' held i h is within was counts = (
  record {
    each = All-append IsWhole (take i held) (drop (suc i) held) (All-take IsWhole i held is.each) (All-drop IsWhole (suc i) held is.each);
    apart = apart_remove held i within is.apart;
    counted = λ k. omega (arith, is.counted k, counts.uses k, (all_parts k held i h h within was).0);
    whole = λ sure k some. rw counts.content (is.whole (rw counts.honest at sure) k (omega (arith, some, (all_parts k held i h h within was).0)));
  },
  record {
    uses = λ k. omega (arith, counts.uses k, (all_parts k held i h h within was).0);
    content = counts.content;
    synced = counts.synced;
    size = counts.size;
    failures = counts.failures;
    overreads = counts.overreads;
    honest = counts.honest;
  },
)

-- a store as callers see it
abbrev pub view_of : {B : Type 0} → (B → BlocksState) → B → List Held → List SnapshotView → ℕ → RasterView B
view_of state blocks held snapshots fetched = record { coverages = coverages_of (state blocks).content held; indexes = indexes_of held; snapshots = snapshots; fetched = fetched; blocks = blocks }

-- the listed blocks hold what they held
pub same_store : {B : Type 0} (state : B → BlocksState) (old new : B) (held : List Held) (xs xs' : List SnapshotView) (fetched : ℕ) → (IsTrue (state old).honest → KeepsAll (indexes_of held) (state old).content (state new).content)
    → SameCoverages state (view_of state old held xs fetched) (view_of state new held xs' fetched) × Keeps state (view_of state old held xs fetched) (view_of state new held xs' fetched)
same_store state old new held xs xs' fetched kept = (
  record {
    signatures = same_signatures (state old).content (state new).content held held refl;
    coverages = λ sure. (store_kept (state old).content (state new).content held (kept sure)).0;
    indexes = refl;
    fetched = refl;
  },
  λ sure intact. (store_kept (state old).content (state new).content held (kept sure)).1 intact,
)
