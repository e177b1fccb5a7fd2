-- What a write of a patch to a field of a store leaves, done or refused.
use Rattle.std.proofs.Common.{◌≡◌, ℕ, ◌+◌, ◌-◌, ◌<◌, ◌≤◌, ◌^◌, List, [], length, get_or, set, subst, IsTrue, Result, Ok, Err, refl, sym, ap, ◌∙◌, arith, inl, inr}
use Rattle.std.specs.Prelude.{slice_get, OnOk, OnErr, sum_by}
use Rattle.std.specs.List.{remove}
use Rattle.std.proofs.Math.Seq.{map-set_same}
use Rattle.std.proofs.lemmas.Bool.{cases_eq, cases_lt}
use Rattle.std.proofs.lemmas.List.{length-set, set-get_or, get_or_read}
use Rattle.std.proofs.lemmas.List.Elements.{All-set, All-from_recursion, recursion_from_All}
use Rattle.std.proofs.lemmas.List.Sums.{sum_by-set, get_or-le-sum_by}
use Rattle.std.proofs.lemmas.Option.{slice_get-get_or}
use Rattle.arr_core.specs.declared.cell.FieldType.{FieldType}
use Rattle.arr_core.specs.declared.domain.Axis.{Axis}
use Rattle.arr_core.specs.Domains.{IsBoxOf}
use Rattle.arr_core.specs.Stores.{Store, updated}
use Rattle.arr_core.specs.Tiles.{tile_boxes}
use Rattle.block_file.specs.State.{BlocksState, block, none, free_of}
use Rattle.block_file.specs.Words.{Moves}
use Rattle.block_file.proofs.Frames.{moves_as}
use Rattle.tile_index.specs.Bytes.{index_bytes}
use Rattle.tile_index.specs.Index.{IsIndex}
use Rattle.tile_store.specs.declared.fault.Fault.{Fault}
use Rattle.tile_store.specs.declared.numbers.Numbers.{Numbers}
use Rattle.tile_store.specs.declared.numbers.Patch.{Patch}
use Rattle.tile_store.specs.Faults.{Refuses}
use Rattle.tile_store.specs.Listing.{listed, IsBelow, IsSound, Relists}
use Rattle.tile_store.specs.Numbers.{numbers_in}
use Rattle.tile_store.specs.Patches.{Patches, GrowsFor, RefusesPatch}
use Rattle.tile_store.specs.Room.{HasRoom, AreMeeting, tile_blocks, cells_after, new_blocks, room_for}
use Rattle.tile_store.specs.Stored.{IsSpelled}
use Rattle.tile_store.proofs.Kept.{keeps_listed, sound_kept, spelled_kept}
use Rattle.raster_store.specs.declared.held.Held.{Held}
use Rattle.raster_store.specs.Views.{Index, SnapshotView, listed_fields, listed_all, fields_size, metadata_size}
use Rattle.raster_store.specs.Fields.{HasKind, HasPatch, IsRestSize}
use Rattle.raster_store.specs.Holding.{coverages_of, coverage_of, indexes_of, index_at, AreApart, IsNamedAt, IsWhole, IsHeld}
use Rattle.raster_store.specs.Calls.{AreSameSignatures}
use Rattle.raster_store.specs.Fetches.{IsDamagedUnder, IsSpelledOf}
use Rattle.raster_store.specs.Words.{Stays, Keeps, Writes, GrowsToWrite, LacksRoomToWrite}
use Rattle.raster_store.proofs.Contents.{KeepsFields, KeepsAll, store_kept, coverage_updated, intact-set, intact-at, named_within, found_named, updated_named}
use Rattle.raster_store.proofs.Readings.{known_named, named_field, patch_field, indexes_at, kind_gives, kind_has, under_damaged}
use Rattle.raster_store.proofs.Totals.{sum_parts, all_parts, field_parts}
use Rattle.raster_store.proofs.Writes.{view_of, keeps_all, same_signatures}
use Rattle.raster_store.proofs.Tiles.{Exchange, tiles_kept, tiles_written}

-- The field j of the coverage h at a place has x' for its index, and h has become h'. What others list is kept, and the
-- field is sound, and spelled where it was.
pub record Write {B : Type 0} (state : B → BlocksState) (old new : B) (held : List Held) (name : List ℕ) (i j : ℕ) (kind : FieldType) (h h' : Held) (x' : Index) : Type 0 where
  pub is_held : IsHeld (state old) held
  pub at : IsNamedAt name held i
  pub was : h ≡ get_or held i h
  pub of_kind : HasKind h.signature.fields j kind
  pub field : j < length h.fields.items
  pub signature : h'.signature ≡ h.signature
  pub fields : h'.fields.items ≡ set h.fields.items j x'
  pub moves : Moves (listed (index_at h j)) (listed x') (state old) (state new)
  pub sound : IsSound h.signature.domain (state new) x'
  pub spelled : IsTrue (state old).honest → IsSpelled kind h.signature.domain (index_at h j) (state old).content → IsSpelled kind h.signature.domain x' (state new).content

-- done or refused, the field is sound, and its tiles are spelled where they were
outcome : {T E : Type 0} (r : Result T E) (u : Patch) (s s' : BlocksState) (x x' : Index) → IsSound u.domain.now s x → OnOk r (Patches u s x s' x') → OnOk r (IsSound u.domain.now s' x') → OnOk r (Relists x x' s s')
    → OnErr r (x' ≡ x) → OnErr r (Moves none none s s')
    → Moves (listed x) (listed x') s s' × IsSound u.domain.now s' x' × (IsTrue s.honest → IsSpelled u.kind u.domain.now x s.content → IsSpelled u.kind u.domain.now x' s'.content)
unfolding IsSpelled
outcome (Ok t) u s s' x x' before done sound lists same kept = (lists.moves, sound, λ sure spelled tile. (done sure).others tile (spelled tile))
outcome (Err e) u s s' x x' before done sound lists same kept = rw same (
  moves_as none none (listed x) (listed x) s s' (λ k. omega arith) (λ k more. omega (arith, more)) kept,
  sound_kept u.domain.now x s s' before kept,
  λ sure. spelled_kept u.kind u.domain.now x s.content s'.content (keeps_listed u.domain.now x none none s s' before sure (λ k some. omega (arith, some, before.counted k)) kept),
)

module _ {B : Type 0} {state : B → BlocksState} {old new : B} {held : List Held} {name : List ℕ} {i j : ℕ} {kind : FieldType} {h h' : Held} {x' : Index} (w : Write state old new held name i j kind h h' x') where
  place : i < length held
  place = named_within name held i w.at

  same_signature : h'.signature ≡ (get_or held i h).signature
  same_signature = w.signature ∙ ap (λ (y : Held). y.signature) w.was

  -- how often blocks are listed: by the field, and by all others, before and after
  counts : (k : ℕ) → (listed_all (indexes_of held) k ≡ listed_all (indexes_of (remove held i)) k + (listed_fields (remove h.fields.items j) k + listed (index_at h j) k))
      × (listed_all (indexes_of (set held i h')) k ≡ listed_all (indexes_of (remove held i)) k + (listed_fields (remove h.fields.items j) k + listed x' k))
  counts k =
      let all = all_parts k held i h h' place w.was in
      let fields = field_parts k h.fields.items j x' w.field in
      let now : listed_fields h'.fields.items k ≡ listed_fields (set h.fields.items j x') k = ap (λ (x : List Index). listed_fields x k) w.fields in
      (omega (arith, all.0, fields.0), omega (arith, all.0, all.1, fields.0, fields.1, now))

  -- the other coverages, and the other fields, hold what they held
  others : IsTrue (state old).honest → KeepsAll (indexes_of (remove held i)) (state old).content (state new).content × KeepsFields (remove h.fields.items j) (state old).content (state new).content
  others sure =
      let kept : (k : ℕ) → listed (index_at h j) k < (state old).uses k → 0 < listed_all (indexes_of held) k → block (state new) k ≡ block (state old) k = λ k more some. w.moves.kept k more (w.is_held.whole sure k some) in (
        λ k some. kept k (omega (arith, some, (counts k).0, w.is_held.counted k)) (omega (arith, some, (counts k).0)),
        λ k some. kept k (omega (arith, some, (counts k).0, w.is_held.counted k)) (omega (arith, some, (counts k).0)),
      )

  pub held_after : IsIndex x' → IsHeld (state new) (set held i h')
  unfolding AreApart
  held_after index =
      let was = rw (← w.was) at (w.is_held.each i h place) in
      let below = IsBelow (length (tile_boxes h.signature.domain)) in
      let whole : IsWhole h' = rw (w.signature, w.fields) (
        length-set h.fields.items j x' ∙ was.0,
        All-set IsIndex h.fields.items j x' index was.1,
        recursion_from_All below (set h.fields.items j x') (All-set below h.fields.items j x' w.sound.below (All-from_recursion below h.fields.items was.2)),
      ) in
      record {
        each = All-set IsWhole held i h' whole w.is_held.each;
        apart = rw (map-set_same (λ (y : Held). y.signature) held i h' h same_signature) w.is_held.apart;
        counted = λ k. omega (arith, (counts k).0, (counts k).1, w.moves.uses k, w.is_held.counted k);
        whole = λ sure k some. elim (cases_eq (listed x' k) 0) [
          | inl none ↦
              let there : 0 < listed_all (indexes_of held) k = omega (arith, some, none, (counts k).0, (counts k).1) in
              let long = w.is_held.whole (rw w.moves.honest at sure) k there in
              rw (w.moves.kept k (omega (arith, some, none, (counts k).0, (counts k).1, w.is_held.counted k)) long) long
          | inr fresh ↦ w.sound.whole sure k (omega (arith, fresh))
        ];
      }

  pub still_intact_after : (xs xs' : List SnapshotView) (fetched : ℕ) → Keeps state (view_of state old held xs fetched) (view_of state new (set held i h') xs' fetched)
  still_intact_after xs xs' fetched sure intact =
      let kept = others sure in
      let here = intact-at (state old).content held i h place w.was intact in
      intact-set (state old).content (state new).content held i h' kept.0 intact
      ((coverage_updated (state old).content (state new).content h h' j kind x' [] [] w.signature w.fields w.of_kind w.field kept.1).1 here (w.spelled sure))

  told_same : AreSameSignatures (coverages_of (state old).content held) (coverages_of (state new).content (set held i h'))
  told_same = same_signatures (state old).content (state new).content held (set held i h') (map-set_same (λ (y : Held). y.signature) held i h' h same_signature)

  -- the index of the field was exchanged
  exchange : IsTrue (state old).honest → Exchange (state old) (state new).content held name i j kind h h' x'
  exchange sure = record {
    is_held = w.is_held;
    at = w.at;
    was = w.was;
    of_kind = w.of_kind;
    field = w.field;
    signature = w.signature;
    fields = w.fields;
    signatures = told_same;
    coverages = (others sure).0;
    others = (others sure).1;
  }

  -- a refused write
  stays_after : {T E : Type 0} (xs xs' : List SnapshotView) (fetched : ℕ) (r : Result T E) → OnErr r (x' ≡ index_at h j) → OnErr r (Moves none none (state old) (state new)) → OnErr r (Stays state (view_of state old held xs fetched) (view_of state new (set held i h') xs' fetched))
  stays_after xs xs' fetched (Ok t) same kept = tt
  stays_after xs xs' fetched (Err e) unchanged kept =
      let all = λ (sure : IsTrue (state old).honest). keeps_all (state old) (state new) held w.is_held kept sure in
      let fields : h'.fields.items ≡ (get_or held i h).fields.items = w.fields ∙ ap (set h.fields.items j) unchanged ∙ set-get_or h.fields.items j [] ∙ ap (λ (y : Held). y.fields.items) w.was in
      let same : coverages_of (state new).content (set held i h') ≡ coverages_of (state new).content held = map-set_same (coverage_of (state new).content) held i h' h (rw (same_signature, fields) refl) in
      record {
        same = record {
          signatures = told_same;
          coverages = λ sure. same ∙ (store_kept (state old).content (state new).content held (all sure)).0;
          indexes = map-set_same (λ (y : Held). y.fields.items) held i h' h fields;
          fetched = refl;
        };
        moves = kept;
        tiles = λ sure n f tile spelled. subst (λ (s : Store). IsSpelledOf n f tile (state new).content s (indexes_of (set held i h'))) (sym same)
            (subst (λ (x : List (List Index)). IsSpelledOf n f tile (state new).content (coverages_of (state new).content held) x) (sym (map-set_same (λ (y : Held). y.fields.items) held i h' h fields))
            (tiles_kept (state old).content (state new).content held (all sure) n f tile spelled));
      }

  -- how many bytes the other metadata has
  rest_of : (catalogue : ℕ) → (rest : ℕ) × (rest + length (index_bytes (index_at h j)) ≡ metadata_size catalogue (indexes_of held)) × (rest + length (index_bytes x') ≡ metadata_size catalogue (indexes_of (set held i h')))
  unfolding metadata_size fields_size
  rest_of catalogue =
      let size = λ (y : Index). 8 + length (index_bytes y) in
      let all = sum_parts fields_size held i h h' place w.was in
      let some = get_or-le-sum_by size h.fields.items j [] w.field in
      let here = sum_by-set size h.fields.items j x' [] w.field in (
        ((8 + catalogue) + sum_by fields_size (indexes_of held)) - length (index_bytes (index_at h j)),
        omega (arith, some, all.0),
        omega (arith, some, all.0, all.1, here, ap fields_size w.fields),
      )

  done_after : {T E : Type 0} (xs xs' : List SnapshotView) (catalogue rest fetched : ℕ) (u : Patch) (r : Result T E) → u.domain.now ≡ h.signature.domain → u.kind ≡ kind → IsRestSize held i j catalogue rest → IsBoxOf h.signature.domain u.area.now → free_of (state new) < 2 ^ 32
      → OnOk r (Patches u (state old) (index_at h j) (state new) x') → OnOk r (Relists (index_at h j) x' (state old) (state new)) → OnOk r (HasRoom rest x' (state new))
      → OnOk r (Writes state name j u.area.now (numbers_in u.area.now u.numbers.now) catalogue (view_of state old held xs fetched) (view_of state new (set held i h') xs' fetched))
  done_after xs xs' catalogue rest fetched u (Err e) domain same least box small done lists room = tt
  done_after xs xs' catalogue rest fetched u (Ok t) domain same least box small done lists room =
      let all = rest_of catalogue in
      let size = least h all.0 w.was all.1 in
      let stored : IsTrue (state old).honest → coverages_of (state new).content (set held i h') ≡ updated name j u.area.now (numbers_in u.area.now u.numbers.now) (coverages_of (state old).content held) = λ sure.
      (let put = coverage_updated (state old).content (state new).content h h' j kind x' u.area.now (numbers_in u.area.now u.numbers.now) w.signature w.fields w.of_kind w.field (others sure).1 in
      updated_named (state old).content (state new).content name j u.area.now (numbers_in u.area.now u.numbers.now) held i h h' w.at w.was (others sure).0 (put.0 (rw (domain, same) at ((done sure).numbers)))) in
      record {
        coverages = stored;
        signatures = told_same;
        tiles = λ sure. tiles_written state old new (exchange sure) xs xs' fetched u domain same box (done sure) (stored sure);
        moves = moves_as _ _ _ _ (state old) (state new) (λ k. omega (arith, (counts k).0, (counts k).1)) (λ k more. omega (arith, more, (counts k).0)) w.moves;
        once = lists.once;
        room = rw (← all.2) (elim (cases_lt all.0 (2 ^ 64)) [
          | inl below ↦ (let e : rest ≡ all.0 = omega (arith, size, below) in rw e at room)
          | inr above ↦ absurd (let e : rest ≡ 2 ^ 64 - 1 = omega (arith, size, above) in omega (arith, e, small, room))
        ]);
      }

  -- why it is refused
  why_after : {T : Type 0} (xs : List SnapshotView) (catalogue rest fetched : ℕ) (u : Patch) (r : Result T Fault) → u.domain.now ≡ h.signature.domain → u.kind ≡ kind → IsRestSize held i j catalogue rest → RefusesPatch r u rest (state old) (index_at h j)
      → Refuses r (IsDamagedUnder state name j u.area.now (view_of state old held xs fetched)) (LacksRoomToWrite state name j u.area.now (numbers_in u.area.now u.numbers.now) catalogue (view_of state old held xs fetched))
  unfolding IsSpelled
  why_after xs catalogue rest fetched u r domain same least why = record {
    for_damage = λ err sure.
        let d = rw (same, domain) at (why.for_damage err sure) in
        under_damaged (state old) held name j h kind w.is_held (i, w.at, w.was) w.of_kind w.field u.area.now d.0 d.1 d.2 d.3;
    for_room = λ err sure.
        let facts = known_named (state old) held name h w.is_held (i, w.at, w.was) in
        let all = rest_of catalogue in
        let lacks = rw (same, domain) at (why.for_room err sure) in
        let more : rest ≤ all.0 = omega (arith, least h all.0 w.was all.1) in
        let numbers = numbers_in u.area.now u.numbers.now in
        let index : get_or (indexes_of held) i [] ≡ h.fields.items = indexes_at held i h place w.was in
        rw (facts.at, (found_named (state old).content name j held i w.at).1, index, slice_get-get_or h.fields.items j [] w.field)
        (kind_gives (slice_get h.signature.fields j) kind (λ (k : FieldType). (all_rest : ℕ) × (all_rest + length (index_bytes (index_at h j)) ≡ metadata_size catalogue (indexes_of held)) × ((tiles : List ℕ) × AreMeeting h.signature.domain u.area.now tiles
        × (free_of (state old) < room_for (λ tile. tile_blocks k (cells_after k h.signature.domain (index_at h j) (state old).content u.area.now numbers tile)) (index_at h j) tiles all_rest))) w.of_kind
        (all.0, all.1, (lacks.0, lacks.1, omega (arith, more, lacks.2))));
  }

  -- how far the file has grown
  grows_after : (xs xs' : List SnapshotView) (fetched : ℕ) (u : Patch) → u.domain.now ≡ h.signature.domain → u.kind ≡ kind → GrowsFor u (state old) (index_at h j) (state new)
      → GrowsToWrite state name j u.area.now (numbers_in u.area.now u.numbers.now) (view_of state old held xs fetched) (view_of state new (set held i h') xs' fetched)
  grows_after xs xs' fetched u domain same grows sure n needs =
      let facts = known_named (state old) held name h w.is_held (i, w.at, w.was) in
      let numbers = numbers_in u.area.now u.numbers.now in
      let index : get_or (indexes_of held) i [] ≡ h.fields.items = indexes_at held i h place w.was in
      let there = rw (facts.at, (found_named (state old).content name j held i w.at).1, index, slice_get-get_or h.fields.items j [] w.field) at needs in
      let of = kind_has (slice_get h.signature.fields j) kind (λ (k : FieldType). (tiles : List ℕ) × AreMeeting h.signature.domain u.area.now tiles
      × (n ≡ new_blocks (λ tile. tile_blocks k (cells_after k h.signature.domain (index_at h j) (state old).content u.area.now numbers tile)) tiles)) w.of_kind there in
      let most = rw (same, domain) at (grows sure) in
      rw of.2 (most of.0 of.1)

-- all that a write of a patch leaves of a store, as callers see it
pub record Wrote {B T : Type 0} (state : B → BlocksState) (old new : B) (held held' : List Held) (xs xs' : List SnapshotView) (name : List ℕ) (i j : ℕ) (area : List Axis) (numbers : Numbers) (catalogue fetched : ℕ) (r : Result T Fault) : Type 0 where
  pub is_held : IsHeld (state new) held'
  pub kept : IsTrue (state old).honest → KeepsAll (indexes_of (remove held i)) (state old).content (state new).content
  pub intact : Keeps state (view_of state old held xs fetched) (view_of state new held' xs' fetched)
  pub done : OnOk r (Writes state name j area (numbers_in area numbers) catalogue (view_of state old held xs fetched) (view_of state new held' xs' fetched))
  pub same : OnErr r (Stays state (view_of state old held xs fetched) (view_of state new held' xs' fetched))
  pub why : Refuses r (IsDamagedUnder state name j area (view_of state old held xs fetched)) (LacksRoomToWrite state name j area (numbers_in area numbers) catalogue (view_of state old held xs fetched))
  pub grows : GrowsToWrite state name j area (numbers_in area numbers) (view_of state old held xs fetched) (view_of state new held' xs' fetched)

pub wrote : {B T : Type 0} (state : B → BlocksState) (old new : B) (held : List Held) (name : List ℕ) (i j : ℕ) (h h' : Held) (x x' : Index) (u : Patch) (xs xs' : List SnapshotView) (catalogue rest fetched : ℕ) (r : Result T Fault)
    → IsHeld (state old) held → (at : IsNamedAt name held i) → h ≡ get_or held i h → HasPatch name j u.area.now u.numbers.now (coverages_of (state old).content held) → x ≡ get_or h.fields.items j x → u.domain.now ≡ h.signature.domain
    → HasKind h.signature.fields j u.kind → h'.signature ≡ h.signature → h'.fields.items ≡ set h.fields.items j x' → IsIndex x' → IsRestSize held i j catalogue rest → free_of (state new) < 2 ^ 32
    → OnOk r (Patches u (state old) x (state new) x') → OnOk r (IsSound u.domain.now (state new) x') → OnOk r (Relists x x' (state old) (state new)) → OnOk r (HasRoom rest x' (state new))
    → OnErr r (x' ≡ x) → OnErr r (Moves none none (state old) (state new)) → RefusesPatch r u rest (state old) x → GrowsFor u (state old) x (state new)
    → Wrote state old new held (set held i h') xs xs' name i j u.area.now u.numbers.now catalogue fetched r
wrote state old new held name i j h h' x x' u xs xs' catalogue rest fetched r is at was has read domain kind signature fields index least small done sound lists room same kept why grows =
    let t = named_field (state old) held name j h is (i, at, was) (patch_field (coverages_of (state old).content held) name j u.area.now u.numbers.now has) in
    let here : x ≡ index_at h j = get_or_read h.fields.items j x t.indexed read [] in
    let before : IsSound u.domain.now (state old) x = rw (domain, here) t.sound in
    let out = outcome r u (state old) (state new) x x' before done sound lists same kept in
    let w : Write state old new held name i j u.kind h h' x' = record {
      is_held = is;
      at = at;
      was = was;
      of_kind = kind;
      field = t.indexed;
      signature = signature;
      fields = fields;
      moves = rw here at out.0;
      sound = rw domain at out.1;
      spelled = rw (here, domain) at out.2;
    } in
    record {
      is_held = held_after w index;
      kept = λ sure. (others w sure).0;
      intact = still_intact_after w xs xs' fetched;
      done = done_after w xs xs' catalogue rest fetched u r domain refl least (rw t.facts.at at has).0 small (rw here at done) (rw here at lists) room;
      same = stays_after w xs xs' fetched r (rw here at same) kept;
      why = why_after w xs catalogue rest fetched u r domain refl least (rw here at why);
      grows = grows_after w xs xs' fetched u domain refl (rw here at grows);
    }
