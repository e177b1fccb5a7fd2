-- A field after a write: its numbers and its tiles.
use Rattle.std.proofs.Common.{◌≡◌, ℕ, suc, ◌+◌, ◌-◌, ◌<◌, ◌≤◌, ◌^◌, List, [], ◌∷◌, ◌++◌, length, get_or, take, map, arith, refl, sym, ◌∙◌, ap, ◌⊎◌, inl, inr, Option, Some, IsTrue, All, sum_by, ℤ}
use Rattle.std.proofs.lemmas.Bool.{cases_eq}
use Rattle.std.proofs.lemmas.List.{length-map, map_push, take_more}
use Rattle.std.proofs.lemmas.List.Elements.{All-push}
use Rattle.std.proofs.lemmas.List.Sums.{sum_by-cons, sum_by_push}
use Rattle.arr_core.specs.declared.cell.FieldType.{FieldType}
use Rattle.arr_core.specs.declared.domain.Axis.{Axis}
use Rattle.arr_core.specs.Domains.{points, rank_of, AreOrdered, IsDomain, IsInside}
use Rattle.arr_core.specs.Stores.{updated_values}
use Rattle.arr_core.specs.Tiles.{tile_boxes, edge_of, IsInTile, tile_box}
use Rattle.arr_core.proofs.Grids.{in-own-tile, length-tile_boxes, count-grid}
use Rattle.arr_core.proofs.Points.{length-points}
use Rattle.arr_core.specs.Meeting.{tile_number}
use Rattle.block_file.specs.State.{BlocksState, block, block_at, times, none}
use Rattle.block_file.specs.Words.{OnlyReads}
use Rattle.block_file.proofs.Times.{times_none}
use Rattle.tile_index.specs.declared.entry.Entry.{Entry}
use Rattle.tile_index.specs.Entries.{IsEntry}
use Rattle.tile_index.specs.Index.{found_at}
use Rattle.tile_store.specs.declared.numbers.Patch.{Patch}
use Rattle.tile_store.specs.declared.update.Fresh.{Fresh}
use Rattle.tile_store.specs.Listing.{listed, tiles_of, IsSound, Takes}
use Rattle.tile_store.proofs.Takes.{reads_whole}
use Rattle.tile_store.specs.Patches.{CoversTile, MeetsTile, IsSpelledFor, numbers_of, values_for, patched, IsPatched}
use Rattle.tile_store.specs.Room.{entry_blocks, tile_blocks, patched_at}
use Rattle.tile_store.specs.Stored.{number_at, field_values, KeepsListed}
use Rattle.tile_store.specs.Written.{IsWritten, AreWritten, AreAfter, IsNewTile}
use Rattle.tile_store.proofs.Cells.{cells_listed, cell_listed, number_in_tile, written_kept, after_kept}
use Rattle.tile_store.proofs.Kept.{cells_kept, padded_kept, tile_kept, keeps_listed}
use Rattle.tile_store.proofs.Listed.{given_push, given_at}
use Rattle.tile_store.proofs.Rows.{inside_cases}

-- what a write leaves of a tile that its box meets
pub record IsAfter (u : Patch) (before after : BlocksState) (old new : List (ℕ × Entry)) (t : ℕ) : Type 0 where
  pub meets : MeetsTile u t
  pub written : IsWritten u.kind after.content (found_at t new) (patched u before old t)
  pub read : CoversTile u t ⊎ IsSpelledFor u before old t

-- and of any tile: one that the box does not meet is as it was
abbrev pub TileAfter : Patch → BlocksState → BlocksState → List (ℕ × Entry) → List (ℕ × Entry) → ℕ → Type 0
TileAfter u before after old new t = IsAfter u before after old new t ⊎ ((MeetsTile u t → ⊥) × (found_at t new ≡ found_at t old))

-- the number at a point after it
number_after : (u : Patch) (old new : List (ℕ × Entry)) (before after : BlocksState) → KeepsListed old before.content after.content → ((t : ℕ) → TileAfter u before after old new t) → (p : List ℤ) → IsInside u.domain.now p
    → number_at u.kind u.domain.now new after.content p ≡ patched_at u.area.now (numbers_of u) (number_at u.kind u.domain.now old before.content) p
number_after u old new before after kept w p inside =
    let t = tile_number u.domain.now p in
    let own : IsInTile u.domain.now t p = in-own-tile u.domain.now p t refl inside in
    let box = tile_box u.domain.now t in
    let was : List ℤ → ℤ = number_at u.kind u.domain.now old before.content in
    number_in_tile u.kind u.domain.now new after.content t p own.0 own.1 ∙ elim (w t) [
      | inl m ↦ m.written.has (rank_of box p) ∙ cell_listed box (patched_at u.area.now (numbers_of u) was) p own.1
      | inr same ↦ elim (inside_cases u.area.now p) [
        | inl i ↦ absurd (same.0 (own.0, (p, own.1, i.1)))
        | inr out ↦ rw (out.0, same.1, cells_kept u.kind old before.content after.content t (found_at t old) kept refl) (sym (number_in_tile u.kind u.domain.now old before.content t p own.0 own.1))
      ]
    ]

-- what is so at each point of a domain is so of the lists
map_inside : (domain : List Axis) (f g : List ℤ → ℤ) → AreOrdered domain → ((p : List ℤ) → IsInside domain p → f p ≡ g p) → map f (points domain) ≡ map g (points domain)
map_inside domain f g ordered same = cells_listed domain g (map f (points domain)) (length-map (points domain) f ∙ length-points domain) ordered (λ p inside. cell_listed domain f p inside ∙ same p inside)

values_after : (u : Patch) (old new : List (ℕ × Entry)) (before after : BlocksState) → AreOrdered u.domain.now → KeepsListed old before.content after.content → ((t : ℕ) → TileAfter u before after old new t)
    → values_for u after new ≡ updated_values u.domain.now u.area.now (numbers_of u) (values_for u before old)
unfolding field_values
values_after u old new before after ordered kept w =
    let was : List ℤ → ℤ = number_at u.kind u.domain.now old before.content in
    map_inside u.domain.now _ _ ordered (λ p inside. rw (cell_listed u.domain.now was p inside) (number_after u old new before after kept w p inside))

-- a tile that was written is spelled
spelled_after : {u : Patch} {before after : BlocksState} {old new : List (ℕ × Entry)} {t : ℕ} → IsAfter u before after old new t → IsSpelledFor u after new t
spelled_after {u = u} {t = t} m e some =
    (let here = m.written.spelled e some in (here.0, here.1 ∙ length-map (points (tile_box u.domain.now t)) _ ∙ length-points (tile_box u.domain.now t)))

pub patched_of : (u : Patch) (old new : List (ℕ × Entry)) (before after : BlocksState) → AreOrdered u.domain.now → KeepsListed old before.content after.content → ((t : ℕ) → TileAfter u before after old new t) → IsPatched u before old after new
patched_of u old new before after ordered kept w = record {
  numbers = values_after u old new before after ordered kept w;
  written = λ t meets. elim (w t) [ inl m ↦ spelled_after m | inr same ↦ absurd (same.0 meets) ];
  others = λ t spelled. elim (w t) [
    | inl m ↦ spelled_after m
    | inr same ↦ λ e some. tile_kept u.kind u.domain.now old before.content after.content t kept spelled e (sym same.1 ∙ some)
  ];
  same = λ t apart. elim (w t) [ inl m ↦ absurd (apart m.meets) | inr same ↦ same.1 ];
  form = λ t meets. elim (w t) [ inl m ↦ m.written.form | inr same ↦ absurd (same.0 meets) ];
  blocks = λ t meets. elim (w t) [ inl m ↦ m.written.size | inr same ↦ absurd (same.0 meets) ];
  padded = λ t was. elim (w t) [
    | inl m ↦ m.written.padded
    | inr same ↦ elim was [
      | inl meets ↦ absurd (same.0 meets)
      | inr padded ↦ λ e some. (let found = sym same.1 ∙ some in padded_kept old before.content after.content t e kept found (padded e found))
    ]
  ];
  read = λ t meets. elim (w t) [ inl m ↦ m.read | inr same ↦ absurd (same.0 meets) ];
}

-- how many blocks the changes have, or how much else that follows from it
pub sizes_written : (weight : ℕ → ℕ) (kind : FieldType) (content : List ℕ) (cells : ℕ → List ℤ) (changes : List (ℕ × Option Entry)) → All (λ (x : ℕ × Option Entry). IsWritten kind content x.1 (cells x.0)) changes
    → sum_by (λ (x : ℕ × Option Entry). weight (entry_blocks x.1)) changes ≡ sum_by (λ t. weight (tile_blocks kind (cells t))) (tiles_of changes)
sizes_written weight kind content cells [] all = refl
sizes_written weight kind content cells (x ∷ xs) all =
    let here : entry_blocks x.1 ≡ tile_blocks kind (cells x.0) = (all 0 x (omega arith)).size in
    let rest = sizes_written weight kind content cells xs (λ i d h. all (suc i) d (omega (arith, h))) in
    omega (arith, ap weight here, rest, sum_by-cons (λ (y : ℕ × Option Entry). weight (entry_blocks y.1)) x xs, sum_by-cons (λ t. weight (tile_blocks kind (cells t))) x.0 (tiles_of xs))

-- what a field lists is kept while blocks are taken
pub keeps_taken : (domain : List Axis) (index : List (ℕ × Entry)) (taken : List ℕ) (old new : BlocksState) → IsSound domain old index → IsTrue old.honest → Takes [] taken old new → KeepsListed index old.content new.content
keeps_taken domain index taken old new sound honest t = keeps_listed domain index none (λ k. times taken k - times [] k) old new sound honest (λ k some. omega (arith, some, sound.counted k)) t.moves

-- what a field lists is whole while blocks are taken, so its tiles are read inside
pub reads_taken : (domain : List Axis) (index : List (ℕ × Entry)) (taken : List ℕ) (start now mid : BlocksState) → IsSound domain start index → Takes [] taken start now → OnlyReads (listed index) now mid → OnlyReads none now mid
reads_taken domain index taken start now mid sound t = reads_whole (listed index) now mid (λ h k some.
    let was : IsTrue start.honest = rw t.moves.honest at h in
    rw (keeps_taken domain index taken start now sound was t k some) (sound.whole was k some))

-- the blocks taken hold what they held while more are taken
still_held : (taken taken' : List ℕ) (start now mid new : BlocksState) → Takes [] taken start now → OnlyReads none now mid → Takes taken taken' mid new → (k : ℕ) → 0 < times taken k → length (block now k) ≡ 4096 → block new k ≡ block now k
still_held taken taken' start now mid new t reads step k some whole =
    let same : block mid k ≡ block now k = ap (λ (c : List ℕ). block_at c k) reads.content in
    let used : 0 < mid.uses k = rw reads.uses (omega (arith, some, t.moves.uses k, times_none k)) in
    step.moves.kept k used (rw same whole) ∙ same

-- one tile more is written
pub more_written : (u : Patch) (start now mid new : BlocksState) (index : List (ℕ × Entry)) (tiles : List ℕ) (i : ℕ) (fresh fresh' : Fresh) (entry : Option Entry) (cells : List ℤ) → i < length tiles → IsSound u.domain.now start index
    → Takes [] fresh.blocks.items start now → OnlyReads none now mid → Takes fresh.blocks.items fresh'.blocks.items mid new → AreWritten u start index (take i tiles) fresh now
    → AreAfter u now index (get_or tiles i 0) cells → IsNewTile u.kind new fresh.blocks.items fresh'.blocks.items cells entry → fresh'.changes.items ≡ fresh.changes.items ++ (get_or tiles i 0, entry) ∷ []
    → AreWritten u start index (take (i + 1) tiles) fresh' new
more_written u start now mid new index tiles i fresh fresh' entry cells h sound t reads step w after n items =
    let tile : ℕ = get_or tiles i 0 in
    let changes = fresh.changes.items in
    let taken = fresh.blocks.items in
    let now_is : now.honest ≡ start.honest = t.moves.honest in
    let new_is : new.honest ≡ start.honest = step.moves.honest ∙ reads.honest ∙ now_is in
    let held = λ (honest : IsTrue start.honest) (k : ℕ) (some : 0 < times taken k). still_held taken fresh'.blocks.items start now mid new t reads step k some (w.whole honest k some) in
    let kept = λ (honest : IsTrue start.honest). keeps_taken u.domain.now index taken start now sound honest t in
    record {
      tiles_are = rw (items, map_push (λ (x : ℕ × Option Entry). x.0) changes (tile, entry), w.tiles_are) (sym (take_more tiles i 0 h));
      entries = rw items (All-push (λ (x : ℕ × Option Entry). (e : Entry) → x.1 ≡ Some e → IsEntry e) changes (tile, entry) w.entries n.is_entry);
      counted = λ k. omega (arith, w.counted k, n.added k, given_push changes fresh'.changes.items tile k entry items);
      size = rw items (omega (arith, n.size, w.size, sum_by_push (λ (x : ℕ × Option Entry). entry_blocks x.1) changes (tile, entry)));
      whole = λ honest k some. elim (cases_eq (times taken k) 0) [
        | inl none ↦ n.whole (rw new_is honest) k (omega (arith, some, none, n.added k))
        | inr old ↦ (let here : 0 < times taken k = omega (arith, old) in rw (held honest k here) (w.whole honest k here))
      ];
      written = λ honest.
          let same : cells ≡ patched u start index tile = after.numbers (rw now_is honest) ∙ after_kept u.kind u.domain.now index start.content now.content u.area.now (numbers_of u) tile (kept honest) in
          rw items (All-push (λ (x : ℕ × Option Entry). IsWritten u.kind new.content x.1 (patched u start index x.0)) changes (tile, entry)
          (λ j d lt. written_kept u.kind now.content new.content _ _ (w.written honest j d lt) (λ k some. held honest k (omega (arith, some, w.counted k, given_at changes j k d lt)))) (rw same at (n.written (rw new_is honest))));
      read = λ honest. rw items (All-push (λ (x : ℕ × Option Entry). CoversTile u x.0 ⊎ IsSpelledFor u start index x.0) changes (tile, entry) (w.read honest) (elim (after.read (rw now_is honest)) [
        | inl covers ↦ inl covers
        | inr spelled ↦ inr (tile_kept u.kind u.domain.now index now.content start.content tile (λ k some. sym (kept honest k some)) spelled)
      ]));
    }

-- a domain has few tiles
pub few_tiles : (domain : List Axis) → IsDomain domain → length (tile_boxes domain) ≤ 2 ^ 24
few_tiles domain is = omega (arith, length-tile_boxes domain, count-grid (edge_of (length domain)) domain, is.few_points)
