-- A field after the exchange of its index: which blocks it lists, and that it is sound.
use Rattle.std.proofs.Common.{refl, ◌≡◌, ℕ, ◌+◌, ◌-◌, ◌⊎◌, ◌<◌, ◌≤◌, ◌^◌, List, [], length, arith, ◌∙◌, ap, inl, inr, Option, IsTrue, sum_by, Contains}
use Rattle.std.proofs.lemmas.Bool.{cases_eq}
use Rattle.arr_core.specs.Domains.{IsDomain}
use Rattle.arr_core.specs.Tiles.{tile_boxes}
use Rattle.block_file.specs.Format.{chain_blocks}
use Rattle.block_file.specs.State.{BlocksState, block, times, free_of}
use Rattle.block_file.specs.Words.{Moves}
use Rattle.tile_index.specs.declared.entry.Entry.{Entry}
use Rattle.tile_index.specs.Bytes.{index_bytes}
use Rattle.tile_index.specs.Index.{found_at, IsIndex}
use Rattle.tile_index.proofs.Found.{found_is}
use Rattle.tile_store.specs.declared.numbers.Patch.{Patch}
use Rattle.tile_store.specs.declared.update.Fresh.{Fresh}
use Rattle.tile_store.specs.declared.update.Ready.{Ready}
use Rattle.tile_store.specs.Listing.{entry_times, listed, listed_for, given, tiles_of, AreChanges, IsSound, Takes}
use Rattle.tile_store.specs.Patches.{CoversTile, IsSpelledFor, patched, blocks_after, IsPatched, LacksRoom}
use Rattle.tile_store.specs.Room.{AreMeeting, replaced_bytes, given_bytes, HasRoom, listed_bytes}
use Rattle.tile_store.specs.Written.{AreWritten, IsWritten, IsSized, IsReady, CanExchange, Exchanges}
use Rattle.tile_store.proofs.Sums.{Ranked, exchanged_sums, replaced_sums}
use Rattle.tile_store.proofs.Changes.{some_or, change_of, found_listed, changes_of, ranked_changes, ranked_index, below_changed}
use Rattle.std.proofs.lemmas.List.Elements.{All-weaker, All-contains_itself}
use Rattle.tile_store.proofs.Sizes.{size_after, sized_of}
use Rattle.tile_store.proofs.Patched.{patched_of, keeps_taken, few_tiles, sizes_written}
use Rattle.tile_store.proofs.Takes.{exchanged_moves, covers_taken, same_block, free_given}

-- the tiles of a write, with what they become
changes_are : {u : Patch} {s0 s1 : BlocksState} {old : List (ℕ × Entry)} {tiles : List ℕ} {fresh : Fresh} (n : ℕ) → length (tile_boxes u.domain.now) ≤ n → AreMeeting u.domain.now u.area.now tiles → AreWritten u s0 old tiles fresh s1 → AreChanges n fresh.changes.items
changes_are {tiles = tiles} {fresh = fresh} n le meeting written =
    let low = All-weaker (Contains tiles) (λ t. t < n) (λ t h. (let below = ((meeting.exact t).0 h).0 in omega (arith, below, le))) tiles (All-contains_itself tiles) in
    changes_of n fresh.changes.items (rw written.tiles_are meeting.rising) (rw written.tiles_are low) written.entries

pub sized_ready : {u : Patch} {s0 s1 : BlocksState} {old : List (ℕ × Entry)} {tiles : List ℕ} {fresh : Fresh} → IsDomain u.domain.now → IsIndex old → AreMeeting u.domain.now u.area.now tiles → AreWritten u s0 old tiles fresh s1 → IsSized old fresh.changes.items tiles
sized_ready {u = u} {old = old} {tiles = tiles} {fresh = fresh} domain index meeting written =
    sized_of old fresh.changes.items tiles index (changes_are (2 ^ 24) (few_tiles u.domain.now domain) meeting written) written.tiles_are

pub ready_of : (u : Patch) (s0 s1 : BlocksState) (old : List (ℕ × Entry)) (tiles : List ℕ) (r : Ready) → IsDomain u.domain.now → IsIndex old → AreMeeting u.domain.now u.area.now tiles → ((k : ℕ) → times r.replaced.items k ≡ listed_for old tiles k)
    → AreWritten u s0 old tiles r.fresh s1 → Takes [] r.fresh.blocks.items s0 s1 → r.size + replaced_bytes old tiles ≡ length (index_bytes old) + given_bytes r.fresh.changes.items → IsReady u s0 old s1 r
ready_of u s0 s1 old tiles r domain index meeting replaced written takes size = record {
  domain = domain;
  is_index = index;
  meeting = rw written.tiles_are meeting;
  replaced = rw written.tiles_are replaced;
  written = rw written.tiles_are written;
  takes = takes;
  size = rw written.tiles_are size;
}

pub few_changes : {u : Patch} {s0 s1 : BlocksState} {old : List (ℕ × Entry)} {r : Ready} → IsReady u s0 old s1 r → AreChanges (2 ^ 24) r.fresh.changes.items
few_changes {u = u} p = changes_are (2 ^ 24) (few_tiles u.domain.now p.domain) p.meeting p.written

ranked : {u : Patch} {s0 s1 : BlocksState} {old : List (ℕ × Entry)} {r : Ready} → IsReady u s0 old s1 r → Ranked (2 ^ 32) r.fresh.changes.items
ranked {r = r} p = ranked_changes (2 ^ 24) (2 ^ 32) r.fresh.changes.items (omega arith) (few_changes p)

-- the index may be exchanged
pub can_exchange : {u : Patch} {s0 s1 : BlocksState} {old : List (ℕ × Entry)} {r : Ready} → IsSound u.domain.now s0 old → IsReady u s0 old s1 r → CanExchange old r s1
unfolding listed listed_for
can_exchange {u = u} {s0 = s0} {s1 = s1} {old = old} {r = r} sound p = record {
  below = λ k d h. (let low = sound.below k d h in omega (arith, low, few_tiles u.domain.now p.domain));
  changes = few_changes p;
  size = p.size;
  taken = covers_taken r.fresh.blocks.items s0 s1 p.takes;
  replaced = λ k. omega (arith, replaced_sums (λ o. entry_times o k) (2 ^ 32) old r.fresh.changes.items refl (ranked_index old p.is_index) (ranked p), p.replaced k, sound.counted k, p.takes.moves.uses k);
}

sums : {u : Patch} {s0 s1 s2 : BlocksState} {old new : List (ℕ × Entry)} {r : Ready} → IsReady u s0 old s1 r → Exchanges r s1 old s2 new → (k : ℕ) → listed new k + times r.replaced.items k ≡ listed old k + times r.fresh.blocks.items k
unfolding listed listed_for given
sums {old = old} {new = new} {r = r} p x k =
    omega (arith, exchanged_sums (λ o. entry_times o k) (2 ^ 32) old new r.fresh.changes.items refl (ranked_index old p.is_index) (ranked_index new x.is_index) (ranked p) x.changed, p.replaced k, p.written.counted k)

pub moves_exchanged : {u : Patch} {s0 s1 s2 : BlocksState} {old new : List (ℕ × Entry)} {r : Ready} → IsReady u s0 old s1 r → Exchanges r s1 old s2 new → Moves (listed old) (listed new) s0 s2
moves_exchanged {s0 = s0} {s1 = s1} {s2 = s2} {old = old} {new = new} {r = r} p x = exchanged_moves r.fresh.blocks.items r.replaced.items (listed old) (listed new) s0 s1 s2 p.takes x.given_back (sums p x)

pub sound_exchanged : {u : Patch} {s0 s1 s2 : BlocksState} {old new : List (ℕ × Entry)} {r : Ready} → IsSound u.domain.now s0 old → IsReady u s0 old s1 r → Exchanges r s1 old s2 new → IsSound u.domain.now s2 new
sound_exchanged {u = u} {s0 = s0} {s1 = s1} {s2 = s2} {old = old} {new = new} {r = r} sound p x =
    let n : ℕ = length (tile_boxes u.domain.now) in
    let frame = moves_exchanged p x in
    record {
      below = below_changed n old new r.fresh.changes.items x.is_index.pairs.rising sound.below (changes_are n (omega arith) p.meeting p.written).below x.changed;
      counted = λ k. omega (arith, frame.uses k, sound.counted k);
      whole = λ honest k some.
          let was : IsTrue s0.honest = rw frame.honest at honest in
          elim (cases_eq (times r.fresh.blocks.items k) 0) [
            | inl unfresh ↦
                let before : 0 < listed old k = omega (arith, some, unfresh, sums p x k) in
                let whole : length (block s0 k) ≡ 4096 = sound.whole was k before in
                rw (same_block s1 s2 k x.given_back.content ∙ p.takes.moves.kept k (omega (arith, before, sound.counted k)) whole) whole
            | inr taken ↦ rw (same_block s1 s2 k x.given_back.content) (p.written.whole was k (omega (arith, taken)))
          ];
    }

pub patched_exchanged : {u : Patch} {s0 s1 s2 : BlocksState} {old new : List (ℕ × Entry)} {r : Ready} → IsSound u.domain.now s0 old → IsReady u s0 old s1 r → Exchanges r s1 old s2 new → IsTrue s0.honest → IsPatched u s0 old s2 new
patched_exchanged {u = u} {s0 = s0} {s1 = s1} {s2 = s2} {old = old} {new = new} {r = r} sound p x honest =
    let kept = keeps_taken u.domain.now old r.fresh.blocks.items s0 s1 sound honest p.takes in
    let changes = r.fresh.changes.items in
    patched_of u old new s0 s2 p.domain.ordered (λ k some. same_block s1 s2 k x.given_back.content ∙ kept k some) (λ t. elim (some_or (found_at t changes)) [
      | inl c ↦ inl (record {
        meets = (p.meeting.exact t).0 (found_listed t changes c.0 c.1);
        written = rw (x.changed t, c.1, x.given_back.content) (found_is (λ (y : ℕ × Option Entry). IsWritten u.kind s1.content y.1 (patched u s0 old y.0)) t changes c.0 (p.written.written honest) c.1);
        read = found_is (λ (y : ℕ × Option Entry). CoversTile u y.0 ⊎ IsSpelledFor u s0 old y.0) t changes c.0 (p.written.read honest) c.1;
      })
      | inr none ↦ inr (λ meets. (let c = change_of (2 ^ 24) t changes (few_changes p) ((p.meeting.exact t).1 meets) in let found = c.1 in cc), rw none at (x.changed t))
    ])

-- room for the metadata is left
pub room_left : {u : Patch} {s0 s1 s2 : BlocksState} {old new : List (ℕ × Entry)} {r : Ready} (rest : ℕ) → IsReady u s0 old s1 r → Exchanges r s1 old s2 new → chain_blocks (rest + r.size) ≤ free_of s1 → HasRoom rest new s2
room_left {s1 = s1} {s2 = s2} {old = old} {new = new} {r = r} rest p x fits =
    let is = size_after r old new p.is_index x.is_index (few_changes p) x.changed p.size in
    omega (arith, ap (λ (m : ℕ). chain_blocks (rest + m)) is, fits, free_given (times r.replaced.items) s1 s2 x.given_back)

-- or it is wanting
pub room_lacks : {u : Patch} {s0 s1 : BlocksState} {old : List (ℕ × Entry)} {r : Ready} (rest : ℕ) → IsReady u s0 old s1 r → free_of s1 < chain_blocks (rest + r.size) → LacksRoom u rest s0 old
room_lacks {u = u} {s0 = s0} {s1 = s1} {old = old} {r = r} rest p short honest =
    let blocks : ℕ → ℕ = blocks_after u s0 old in
    let changes = r.fresh.changes.items in
    let tiles = tiles_of changes in
    let taken : length r.fresh.blocks.items ≡ sum_by blocks tiles = p.written.size ∙ sizes_written (λ n. n) u.kind s1.content (patched u s0 old) changes (p.written.written honest) in
    let given_is : given_bytes changes ≡ sum_by (λ t. listed_bytes (blocks t)) tiles = sizes_written listed_bytes u.kind s1.content (patched u s0 old) changes (p.written.written honest) in
    let size : r.size ≡ (length (index_bytes old) + sum_by (λ t. listed_bytes (blocks t)) tiles) - replaced_bytes old tiles = omega (arith, p.size, given_is) in
    (tiles, p.meeting, omega (arith, p.takes.free, taken, short, ap (λ (m : ℕ). chain_blocks (rest + m)) size))
