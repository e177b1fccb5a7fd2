-- Which blocks are free: those that no index lists and nothing that is held for jobs. A server stays one that can be
-- closed.
use Rattle.std.proofs.Common.{◌≡◌, ℕ, map, zero, suc, ◌+◌, ◌-◌, ◌≤◌, List, [], ◌∷◌, ◌++◌, length, Result, Ok, Err, OnOk, OnErr, refl, sym, ap, ◌∙◌, subst, arith}
use Rattle.std.specs.Prelude.{ℤ, IsErrOf, IsTrue, replicate}
use Rattle.arr_core.specs.declared.domain.Axis.{Axis}
use Rattle.arr_core.specs.declared.signature.Signature.{Signature}
use Rattle.block_file.specs.State.{BlocksState, free_up_to, free_of}
use Rattle.block_file.specs.Uses.{uses_of}
use Rattle.block_file.specs.View.{BlockFileView, state_of}
use Rattle.block_file.specs.Words.{OnlyHeader}
use Rattle.block_file.proofs.Free.{free_same}
use Rattle.catalogue.specs.Bytes.{catalogue_bytes}
use Rattle.catalogue.specs.Signatures.{IsRefused, without}
use Rattle.catalogue.specs.declared.error.InsertError.{InsertError}
use Rattle.catalogue.specs.declared.error.InsertError.TheVariants as insertion
use Rattle.tile_store.specs.declared.fault.Fault.{Fault}
use Rattle.tile_store.specs.declared.fault.Fault.TheVariants as device
use Rattle.tile_store.specs.Faults.{Refuses}
use Rattle.raster_store.specs.Views.{Index, RasterView, SnapshotView, listed_all, listed_snapshots, reserve}
use Rattle.raster_store.specs.Snapshots.{KeepsSnapshots, AreSameSnapshots, Holds, HoldsNone, Releases}
use Rattle.arr_core.specs.Stores.{Store}
use Rattle.raster_store.specs.Calls.{signature_of}
use Rattle.raster_store.specs.Words.{OnlyFetches, SameCoverages, Stays, Creates, LacksRoomToCreate, Writes, Removes}
use Rattle.raster_store.proofs.Totals.{listed_all-push, listed_fields-none}
use Rattle.coverage_server.specs.Layouts.{layout_of}
use Rattle.coverage_server.specs.Room.{LacksRoomToInsert}
use Rattle.coverage_server.specs.Holding.{HoldsFor, ReleasesFor}
use Rattle.coverage_server.specs.Views.{ServerView, IsClosable, IsUnchanged, KeepsHeld, still_of, signatures_of, uses_in, free_in, free_blocks, without_held}
use Rattle.coverage_server.specs.Writing.{device_refusal, insert_refusal, InsertRefused}
use Rattle.coverage_server.proofs.StoreLemmas.{signatures_inserted}
use Rattle.coverage_server.proofs.HeldLemmas.{lists_push, lists_left, copied_lists, same_snapshots, same_after, same_lists, intact_push, intact_left}
use Rattle.coverage_server.proofs.RemovalLemmas.{signatures_deleted, listed_left, no_fewer_free, room_left}

-- a server's view of its cells
abbrev pub shown : RasterView BlockFileView → ServerView
shown cells = record {
  store = cells.coverages;
  indexes = cells.indexes;
  held = cells.snapshots;
  content = cells.blocks.content;
  honest = cells.blocks.honest;
  failures = cells.blocks.failures;
  overreads = cells.blocks.overreads;
  fetched = cells.fetched;
}

-- a server with this catalogue over these cells can be closed
abbrev pub IsReady : List Signature → RasterView BlockFileView → Type 0
IsReady catalogue cells = IsClosable catalogue cells.coverages cells.indexes cells.snapshots (uses_of cells.blocks.marks)

-- where each block is in use as often, as many are free
pub free_alike : (a b : ℕ → ℕ) → ((k : ℕ) → a k ≡ b k) → free_up_to 1048575 a ≡ free_up_to 1048575 b
free_alike a b same = free_same 1048575 b a (λ k above within. ap (λ (n : ℕ). 1 - n) (same k))

-- where each block is in use as often as it is listed, those are free that nothing lists
pub free_unlisted : (uses : ℕ → ℕ) (indexes : List (List Index)) (held : List SnapshotView) → ((k : ℕ) → uses k ≡ uses_in indexes held k) → free_up_to 1048575 uses ≡ free_in indexes held
free_unlisted uses indexes held counted = free_alike uses (uses_in indexes held) counted

pub ready_free : (catalogue : List Signature) (cells : RasterView BlockFileView) → IsReady catalogue cells → free_of (state_of cells.blocks) ≡ free_blocks (shown cells)
ready_free catalogue cells ready = free_unlisted (uses_of cells.blocks.marks) cells.indexes cells.snapshots ready.counted

-- where the coverages, what is held and the uses are as they were
pub same_ready : (catalogue : List Signature) (old new : RasterView BlockFileView) → IsReady catalogue old → SameCoverages state_of old new → AreSameSnapshots old.snapshots new.snapshots
    → ((k : ℕ) → uses_of new.blocks.marks k ≡ uses_of old.blocks.marks k) → IsReady catalogue new
same_ready catalogue old new ready same held uses =
    let alike : (k : ℕ) → uses_in new.indexes new.snapshots k ≡ uses_in old.indexes old.snapshots k =
    λ k. (let a = ap (λ (i : List (List Index)). listed_all i k) same.indexes in let b = same_lists old.snapshots new.snapshots k held in omega (arith, a, b)) in
    let free = free_alike (uses_in new.indexes new.snapshots) (uses_in old.indexes old.snapshots) alike in
    let reserved = ap (λ (i : List (List Index)). reserve (length (catalogue_bytes catalogue)) i) same.indexes in
    let room = ready.room in
    record {
      signatures = ready.signatures ∙ sym same.signatures;
      counted = λ k. uses k ∙ ready.counted k ∙ sym (alike k);
      once = rw same.indexes ready.once;
      room = omega (arith, free, reserved, room);
    }

pub stays_ready : (catalogue : List Signature) (old new : RasterView BlockFileView) → IsReady catalogue old → Stays state_of old new → KeepsSnapshots state_of old new → IsReady catalogue new
stays_ready catalogue old new ready stays held =
    same_ready catalogue old new ready stays.same held.told (λ k. let moved = stays.moves.uses k in omega (arith, moved))

-- after the write of a header, and after a fetch
pub header_ready : (catalogue : List Signature) (old new : RasterView BlockFileView) → IsReady catalogue old → SameCoverages state_of old new
    → OnlyHeader (state_of old.blocks) (state_of new.blocks) → KeepsSnapshots state_of old new → IsReady catalogue new
header_ready catalogue old new ready same only held = same_ready catalogue old new ready same held.told (λ k. ap (λ (uses : ℕ → ℕ). uses k) only.uses)

pub fetches_ready : (catalogue : List Signature) (old new : RasterView BlockFileView) → IsReady catalogue old → OnlyFetches state_of old new → IsReady catalogue new
fetches_ready catalogue old new ready only = record {
  signatures = ready.signatures ∙ ap signatures_of (sym only.coverages);
  counted = λ k. ap (λ (uses : ℕ → ℕ). uses k) only.reads.uses ∙ ready.counted k ∙ ap (λ (i : List (List Index)). uses_in i old.snapshots k) (sym only.indexes)
      ∙ ap (λ (h : List SnapshotView). uses_in new.indexes h k) (sym only.snapshots);
  once = rw only.indexes ready.once;
  room = rw (only.indexes, only.snapshots) ready.room;
}

-- after a write
pub written_ready : (catalogue : List Signature) (name : List ℕ) (field : ℕ) (area : List Axis) (numbers : List ℤ) (size : ℕ) (old new : RasterView BlockFileView)
    → IsReady catalogue old → size ≡ length (catalogue_bytes catalogue) → Writes state_of name field area numbers size old new → KeepsSnapshots state_of old new → IsReady catalogue new
written_ready catalogue name field area numbers size old new ready is w held =
    let counted : (k : ℕ) → uses_of new.blocks.marks k ≡ uses_in new.indexes new.snapshots k =
    λ k. (let moved = w.moves.uses k in let was = ready.counted k in let lists = same_lists old.snapshots new.snapshots k held.told in omega (arith, moved, was, lists)) in
    let free = free_unlisted (uses_of new.blocks.marks) new.indexes new.snapshots counted in
    let room = w.room in
    record {
      signatures = ready.signatures ∙ sym w.signatures;
      counted = counted;
      once = λ k. (let now = counted k in let was = ready.counted k in let one = ready.once k in let more = w.once k in let lists = same_lists old.snapshots new.snapshots k held.told in
          omega (arith, now, was, one, more, lists));
      room = rw (← is) (omega (arith, free, room));
    }

-- after a coverage came
pub created_ready : (catalogue catalogue' : List Signature) (s : Signature) (size : ℕ) (old new : RasterView BlockFileView) → IsReady catalogue old
    → catalogue' ≡ catalogue ++ s ∷ [] → size ≡ length (catalogue_bytes (catalogue ++ s ∷ [])) → Creates state_of s size old new → new.blocks ≡ old.blocks → new.snapshots ≡ old.snapshots
    → IsReady catalogue' new
created_ready catalogue catalogue' s size old new ready more is w same held =
    let listed : (k : ℕ) → listed_all new.indexes k ≡ listed_all old.indexes k =
    λ k. (let pushed = listed_all-push k old.indexes (replicate (length s.fields) []) in let none = listed_fields-none k (length s.fields) in
    ap (λ (i : List (List Index)). listed_all i k) w.indexes ∙ omega (arith, pushed, none)) in
    let counted : (k : ℕ) → uses_of new.blocks.marks k ≡ uses_in new.indexes new.snapshots k =
    λ k. (let uses = ap (λ (b : BlockFileView). uses_of b.marks k) same in let was = ready.counted k in let lists = listed k in let kept = ap (λ (h : List SnapshotView). listed_snapshots h k) held in
    omega (arith, uses, was, lists, kept)) in
    let free = free_unlisted (uses_of new.blocks.marks) new.indexes new.snapshots counted in
    let room = w.room in
    record {
      signatures = more ∙ ap (λ (l : List Signature). l ++ s ∷ []) ready.signatures ∙ sym (signatures_inserted s old.coverages) ∙ ap signatures_of (sym w.coverages);
      counted = counted;
      once = λ k. (let now = listed k in let one = ready.once k in omega (arith, now, one));
      room = rw (more, ← is) (omega (arith, free, room));
    }

-- room is wanting by what the server tells
lacks_room : (catalogue : List Signature) (s : Signature) (size : ℕ) (cells : RasterView BlockFileView) → IsReady catalogue cells
    → size ≡ length (catalogue_bytes (catalogue ++ s ∷ [])) → LacksRoomToCreate state_of s size cells
    → LacksRoomToInsert s cells.coverages (layout_of (shown cells))
lacks_room catalogue s size cells ready is lacks =
    let free = ready_free catalogue cells ready in
    let bytes : size ≡ length (catalogue_bytes (signatures_of cells.coverages ++ s ∷ [])) = is ∙ ap (λ (l : List Signature). length (catalogue_bytes (l ++ s ∷ []))) ready.signatures in
    rw (← bytes) (omega (arith, free, lacks))

-- why the catalogue does not take a signature
pub catalogue_refused : (catalogue : List Signature) (s : Signature) (cells : RasterView BlockFileView) (e : InsertError) → IsReady catalogue cells
    → IsRefused catalogue s e → InsertRefused (shown cells) s (insert_refusal e)
catalogue_refused catalogue s cells insertion.CoverageExists ready is =
    (insertion.CoverageExists, refl, subst (λ (l : List Signature). IsRefused l s insertion.CoverageExists) ready.signatures is)
catalogue_refused catalogue s cells insertion.BadDomain ready is =
    (insertion.BadDomain, refl, subst (λ (l : List Signature). IsRefused l s insertion.BadDomain) ready.signatures is)
catalogue_refused catalogue s cells insertion.BadField ready is =
    (insertion.BadField, refl, subst (λ (l : List Signature). IsRefused l s insertion.BadField) ready.signatures is)
catalogue_refused catalogue s cells insertion.TooManyCoverages ready is =
    (insertion.TooManyCoverages, refl, subst (λ (l : List Signature). IsRefused l s insertion.TooManyCoverages) ready.signatures is)
catalogue_refused catalogue s cells insertion.NoMemory ready is = tt

-- why a coverage does not come
pub create_refused : {T : Type 0} (catalogue : List Signature) (s : Signature) (size : ℕ) (cells : RasterView BlockFileView) (fault : Fault) → IsReady catalogue cells
    → size ≡ length (catalogue_bytes (catalogue ++ s ∷ [])) → Refuses {T = T} (Err fault) ⊥ (LacksRoomToCreate state_of s size cells)
    → (IsErrOf {T = T} (Err fault) device.DiskFault → ⊥) → InsertRefused (shown cells) s (device_refusal fault)
create_refused catalogue s size cells device.NoMemory ready is why disk = tt
create_refused catalogue s size cells device.DiskFault ready is why disk = disk refl
create_refused catalogue s size cells device.NoRoom ready is why disk = lacks_room catalogue s size cells ready is (why.for_room refl)
create_refused catalogue s size cells device.Damaged ready is why disk = why.for_damage refl

-- after one went
pub removed_ready : (name : List ℕ) (catalogue catalogue' : List Signature) (old new : RasterView BlockFileView) → IsReady catalogue old
    → catalogue' ≡ without name catalogue → Removes state_of name old new → IsReady catalogue' new
removed_ready name catalogue catalogue' old new ready left w =
    let fewer : (k : ℕ) → listed_all new.indexes k ≤ listed_all old.indexes k = rw w.indexes (listed_left name old.coverages old.indexes) in
    record {
      signatures = left ∙ ap (without name) ready.signatures ∙ signatures_deleted name old.coverages ∙ ap signatures_of (sym w.coverages);
      counted = λ k. (let recounted = w.recounts.uses k in let was = ready.counted k in let kept = ap (λ (h : List SnapshotView). listed_snapshots h k) w.snapshots in
          omega (arith, recounted, was, kept));
      once = λ k. (let less = fewer k in let one = ready.once k in omega (arith, less, one));
      room = rw (left, w.indexes, w.snapshots) (room_left name old.coverages catalogue old.indexes old.snapshots ready.room);
    }

-- ---- after coverages came to be held, and after they were let go

pub holds_ready : (catalogue : List Signature) (number : ℕ) (names : List (List ℕ)) (old new : RasterView BlockFileView) → IsReady catalogue old → Holds state_of number names old new
    → IsReady catalogue new
holds_ready catalogue number names old new ready h =
    let x = h.snapshot in
    let lists : (k : ℕ) → listed_snapshots new.snapshots k ≡ listed_snapshots old.snapshots k + listed_all x.indexes k =
    λ k. ap (λ (l : List SnapshotView). listed_snapshots l k) h.snapshots ∙ lists_push old.snapshots x k in
    let own : (k : ℕ) → listed_all new.indexes k ≡ listed_all old.indexes k = λ k. ap (λ (i : List (List Index)). listed_all i k) h.same.indexes in
    let free : free_in new.indexes new.snapshots ≡ free_in old.indexes old.snapshots =
    free_same 1048575 (uses_in old.indexes old.snapshots) (uses_in new.indexes new.snapshots)
    (λ k positive within. as_free _ _ _ _ _ (lists k) (own k) (copied_lists old.coverages old.indexes x.coverages x.indexes k h.is.copied)) in
    let reserved = ap (λ (i : List (List Index)). reserve (length (catalogue_bytes catalogue)) i) h.same.indexes in
    let room = ready.room in
    record {
      signatures = ready.signatures ∙ ap signatures_of (sym h.same.coverages);
      counted = λ k. (let more = h.recounts.uses k in let was = ready.counted k in let l = lists k in let o = own k in omega (arith, more, was, l, o));
      once = rw h.same.indexes ready.once;
      room = omega (arith, free, reserved, room);
    }
  where
    as_free : (a b more a' b' : ℕ) → b' ≡ b + more → a' ≡ a → (1 ≤ more → 1 ≤ a) → 1 - (a' + b') ≡ 1 - (a + b)
    as_free a b zero a' b' lists own used = omega (arith, lists, own)
    as_free a b (suc more) a' b' lists own used = (let some = used (omega arith) in omega (arith, lists, own, some))

pub releases_ready : (catalogue : List Signature) (number : ℕ) (old new : RasterView BlockFileView) → IsReady catalogue old → Releases state_of number old new → IsReady catalogue new
releases_ready catalogue number old new ready h =
    let fewer : (k : ℕ) → listed_snapshots new.snapshots k ≤ listed_snapshots old.snapshots k = rw h.snapshots (lists_left number old.snapshots) in
    let own : (k : ℕ) → listed_all new.indexes k ≡ listed_all old.indexes k = λ k. ap (λ (i : List (List Index)). listed_all i k) h.same.indexes in
    let free = no_fewer_free 1048575 (uses_in old.indexes old.snapshots) (uses_in new.indexes new.snapshots) (λ k. (let f = fewer k in let o = own k in omega (arith, f, o))) in
    let reserved = ap (λ (i : List (List Index)). reserve (length (catalogue_bytes catalogue)) i) h.same.indexes in
    let room = ready.room in
    record {
      signatures = ready.signatures ∙ ap signatures_of (sym h.same.coverages);
      counted = λ k. (let moved = h.recounts.uses k in let was = ready.counted k in let o = own k in omega (arith, moved, was, o));
      once = rw h.same.indexes ready.once;
      room = omega (arith, free, reserved, room);
    }

pub none_ready : (catalogue : List Signature) (old new : RasterView BlockFileView) → IsReady catalogue old → HoldsNone state_of old new → IsReady catalogue new
none_ready catalogue old new ready h = record {
  signatures = ready.signatures ∙ ap signatures_of (sym h.same.coverages);
  counted = λ k. ap (λ (s : BlocksState). s.uses k) h.blocks ∙ ready.counted k ∙ ap (λ (i : List (List Index)). uses_in i old.snapshots k) (sym h.same.indexes)
      ∙ ap (λ (l : List SnapshotView). uses_in new.indexes l k) (sym h.snapshots);
  once = rw h.same.indexes ready.once;
  room = rw (h.same.indexes, h.snapshots) ready.room;
}

-- either came
pub either_ready : {T E : Type 0} (r : Result T E) (catalogue : List Signature) (number : ℕ) (names : List (List ℕ)) (old new : RasterView BlockFileView) → IsReady catalogue old
    → OnOk r (Holds state_of number names old new) → OnErr r (HoldsNone state_of old new) → IsReady catalogue new
either_ready (Ok x) catalogue number names old new ready held none = holds_ready catalogue number names old new ready held
either_ready (Err e) catalogue number names old new ready held none = none_ready catalogue old new ready none

-- ---- the same, as the server tells it

others_same : (v w : ServerView) → w.store ≡ v.store → w.indexes ≡ v.indexes → w.content ≡ v.content → w.honest ≡ v.honest → w.failures ≡ v.failures → w.overreads ≡ v.overreads
    → w.fetched ≡ v.fetched → without_held w ≡ without_held v
others_same v w a b c d e o f = rw (a, b, c, d, e, o, f) refl

pub holds_for : (number : ℕ) (names : List (List ℕ)) (old new : RasterView BlockFileView) → Holds state_of number names old new → HoldsFor number names (shown old) (shown new)
holds_for number names old new h = record {
  snapshot = h.snapshot;
  job = h.job;
  is = h.is;
  held = h.snapshots;
  others = others_same (shown old) (shown new) h.same.coverages h.same.indexes h.recounts.content h.recounts.honest h.recounts.failures h.recounts.overreads h.same.fetched;
  sound = λ sound. record {
    honest = rw h.recounts.honest sound.honest;
    intact = rw (h.recounts.content, h.same.coverages, h.same.indexes) sound.intact;
    held = rw (h.recounts.content, h.snapshots) (intact_push old.blocks.content old.snapshots h.snapshot sound.held (h.intact sound.intact));
  };
}

pub holds_none : (old new : RasterView BlockFileView) → HoldsNone state_of old new → shown new ≡ shown old
holds_none old new h =
    let state = h.blocks in
    rw (
      h.same.coverages,
      h.same.indexes,
      h.same.fetched,
      h.snapshots,
      ap (λ (s : BlocksState). s.content) state,
      ap (λ (s : BlocksState). s.honest) state,
      ap (λ (s : BlocksState). s.failures) state,
      ap (λ (s : BlocksState). s.overreads) state,
    ) refl

pub releases_for : (number : ℕ) (old new : RasterView BlockFileView) → Releases state_of number old new → ReleasesFor number (shown old) (shown new)
releases_for number old new h = record {
  held = h.snapshots;
  others = others_same (shown old) (shown new) h.same.coverages h.same.indexes h.recounts.content h.recounts.honest h.recounts.failures h.recounts.overreads h.same.fetched;
  sound = λ sound. record {
    honest = rw h.recounts.honest sound.honest;
    intact = rw (h.recounts.content, h.same.coverages, h.same.indexes) sound.intact;
    held = rw (h.recounts.content, h.snapshots) (intact_left old.blocks.content number old.snapshots sound.held);
  };
}

-- what is held is kept
pub keeps_held : (old new : RasterView BlockFileView) → KeepsSnapshots state_of old new → KeepsHeld (shown old) (shown new)
keeps_held old new k = record { told = k.told; values = k.values }

pub same_kept : (v w : ServerView) → w.held ≡ v.held → KeepsHeld v w
same_kept v w same = record { told = subst (AreSameSnapshots v.held) (sym same) (same_snapshots v.held); values = λ honest. same }

-- ---- what a refusal leaves

pub unchanged : (v w : ServerView) → w ≡ v → IsUnchanged v w
unchanged v w same = subst (IsUnchanged v) (sym same)
    (record { indexes = refl; signatures = refl; store = λ honest. refl; held = record { told = same_snapshots v.held; values = λ honest. refl } })

pub stays_unchanged : (old new : RasterView BlockFileView) → SameCoverages state_of old new → KeepsSnapshots state_of old new → IsUnchanged (shown old) (shown new)
stays_unchanged old new same held = record { indexes = same.indexes; signatures = same.signatures; store = same.coverages; held = keeps_held old new held }

-- one call after another
pub unchanged_after : (u v w : ServerView) → v.honest ≡ u.honest → IsUnchanged u v → IsUnchanged v w → IsUnchanged u w
unchanged_after u v w honest a b =
    let sure : IsTrue u.honest → IsTrue v.honest = λ h. subst IsTrue (sym honest) h in
    record {
      indexes = b.indexes ∙ a.indexes;
      signatures = b.signatures ∙ a.signatures;
      store = λ h. b.store (sure h) ∙ a.store h;
      held = record { told = same_after u.held v.held w.held a.held.told b.held.told; values = λ h. b.held.values (sure h) ∙ a.held.values h };
    }

-- all but the counts is as it was
pub still_unchanged : (v w : ServerView) → still_of w ≡ still_of v → IsUnchanged v w
still_unchanged v w same =
    let store = ap (λ (u : ServerView). u.store) same in
    record {
      indexes = ap (λ (u : ServerView). u.indexes) same;
      signatures = ap (λ (s : Store). map signature_of s) store;
      store = λ honest. store;
      held = same_kept v w (ap (λ (u : ServerView). u.held) same);
    }

pub none_changed : {X E : Type 0} (r : Result X E) (v w : ServerView) → w ≡ v → OnErr r (IsUnchanged v w)
none_changed (Ok x) v w same = tt
none_changed (Err e) v w same = unchanged v w same
