-- How far the write of a patch grows a file.
use Rattle.std.proofs.Common.{◌≡◌, ℕ, zero, suc, ◌+◌, ◌<◌, ◌≤◌, ◌∙◌, ap, IsTrue, ℤ, List, [], ◌∷◌, length, take, get_or, sum_by, Contains, arith, refl, sym}
use Rattle.std.specs.List.{AllPairs}
use Rattle.std.proofs.lemmas.List.Kept.{AllPairs-from_increasing}
use Rattle.std.proofs.lemmas.List.Sums.{sum_by_more_le}
use Rattle.arr_core.specs.declared.domain.Axis.{Axis}
use Rattle.block_file.specs.State.{BlocksState}
use Rattle.tile_store.specs.declared.numbers.Patch.{Patch}
use Rattle.tile_store.specs.declared.update.Fresh.{Fresh}
use Rattle.tile_store.specs.Listing.{Index, IsSound, Takes}
use Rattle.tile_store.specs.Patches.{GrowsFor, numbers_of, patched, blocks_after}
use Rattle.tile_store.specs.Room.{AreMeeting, tile_blocks}
use Rattle.tile_store.specs.Written.{AreAfter, AreWritten, TakesFew}
use Rattle.tile_store.proofs.Cells.{after_kept}
use Rattle.tile_store.proofs.Patched.{keeps_taken, sizes_written}

abbrev Rise : List ℕ → Type 0
Rise xs = AllPairs (λ a b. a < b) xs

rise_tail : (x : ℕ) (xs : List ℕ) → Rise (x ∷ xs) → Rise xs
rise_tail x xs rise i j d lt le = rise (suc i) (suc j) d (omega arith) (omega (arith, le))

-- the first of rising numbers is the least
least : (x : ℕ) (xs : List ℕ) (n k : ℕ) → Rise (x ∷ xs) → k < length (x ∷ xs) → get_or (x ∷ xs) k n ≡ n → x ≤ n
least x xs n zero rise lt is = omega (arith, is)
least x xs n (suc k) rise lt is = omega (arith, rise 0 (suc k) n (omega arith) lt, is)

-- and a greater one stands behind it
later : (x : ℕ) (xs : List ℕ) (n k : ℕ) → x < n → k < length (x ∷ xs) → get_or (x ∷ xs) k n ≡ n → Contains xs n
later x xs n zero above lt is = absurd (omega (arith, above, is))
later x xs n (suc k) above lt is = (k, omega (arith, lt), is)

rest_in : (x y : ℕ) (xs ys : List ℕ) → x ≡ y → Rise (x ∷ xs) → ((n : ℕ) → Contains (x ∷ xs) n → Contains (y ∷ ys) n) → (n : ℕ) → Contains xs n → Contains ys n
rest_in x y xs ys same rise to n c =
    let above : y < n = omega (arith, same, rise 0 (suc c.0) n (omega arith) (omega (arith, c.1)), c.2) in
    let there = to n (suc c.0, omega (arith, c.1), c.2) in
    later y ys n there.0 above there.1 there.2

-- rising lists of the same numbers are one
same_rising : (xs ys : List ℕ) → Rise xs → Rise ys → ((n : ℕ) → Contains xs n → Contains ys n) → ((n : ℕ) → Contains ys n → Contains xs n) → xs ≡ ys
same_rising [] [] rx ry to from = refl
same_rising [] (y ∷ ys) rx ry to from = let none = from y (0, omega arith, refl) in absurd (omega (arith, none.1))
same_rising (x ∷ xs) [] rx ry to from = let none = to x (0, omega arith, refl) in absurd (omega (arith, none.1))
same_rising (x ∷ xs) (y ∷ ys) rx ry to from =
    let a = to x (0, omega arith, refl) in
    let b = from y (0, omega arith, refl) in
    let same : x ≡ y = omega (arith, least y ys x a.0 ry a.1 a.2, least x xs y b.0 rx b.1 b.2) in
    let rest : xs ≡ ys = same_rising xs ys (rise_tail x xs rx) (rise_tail y ys ry) (rest_in x y xs ys same rx to) (rest_in y x ys xs (sym same) ry from) in
    rw (same, rest) refl

-- a box meets one list of tiles
meeting_same : (domain area : List Axis) (xs ys : List ℕ) → AreMeeting domain area xs → AreMeeting domain area ys → xs ≡ ys
meeting_same domain area xs ys a b =
    same_rising xs ys (AllPairs-from_increasing xs a.rising) (AllPairs-from_increasing ys b.rising) (λ n c. (b.exact n).1 ((a.exact n).0 c)) (λ n c. (a.exact n).1 ((b.exact n).0 c))

-- what was not written has not grown
pub grows_unwritten : (u : Patch) (index : Index) (old new : BlocksState) → new.content ≡ old.content → GrowsFor u old index new
grows_unwritten u index old new same honest tiles meeting = rw same (omega arith)

-- the tiles were written to the blocks taken
pub grows_for : (u : Patch) (index : Index) (taken tiles : List ℕ) (s0 s1 s2 : BlocksState) → AreMeeting u.domain.now u.area.now tiles → Takes [] taken s0 s1 → TakesFew u s0 index tiles taken → s2.content ≡ s1.content → GrowsFor u s0 index s2
grows_for u index taken tiles s0 s1 s2 meeting takes few same honest others also =
    rw (same, meeting_same u.domain.now u.area.now others tiles also meeting) (omega (arith, takes.grows, few honest))

pub grows_still : (u : Patch) (index : Index) (s0 s1 s2 : BlocksState) → GrowsFor u s0 index s1 → s2.content ≡ s1.content → GrowsFor u s0 index s2
grows_still u index s0 s1 s2 grows same = rw same grows

-- the tiles that were written have taken as many blocks as their new cells need
pub tiles_done : (u : Patch) (s0 s1 : BlocksState) (index : Index) (tiles : List ℕ) (fresh : Fresh) → IsTrue s0.honest → AreWritten u s0 index tiles fresh s1 → length fresh.blocks.items ≡ sum_by (blocks_after u s0 index) tiles
tiles_done u s0 s1 index tiles fresh honest w =
    w.size ∙ sizes_written (λ n. n) u.kind s1.content (patched u s0 index) fresh.changes.items (w.written honest) ∙ ap (sum_by (blocks_after u s0 index)) w.tiles_are

-- the cells of the tile after them need as many as they did before
pub tile_needs : (u : Patch) (s0 s1 : BlocksState) (index : Index) (taken : List ℕ) (tile : ℕ) (cells : List ℤ) → IsSound u.domain.now s0 index → IsTrue s0.honest → Takes [] taken s0 s1 → AreAfter u s1 index tile cells
    → tile_blocks u.kind cells ≡ blocks_after u s0 index tile
tile_needs u s0 s1 index taken tile cells sound honest takes after =
    let kept = keeps_taken u.domain.now index taken s0 s1 sound honest takes in
    ap (λ (l : List ℤ). tile_blocks u.kind l) (after.numbers (rw takes.moves.honest honest) ∙ after_kept u.kind u.domain.now index s0.content s1.content u.area.now (numbers_of u) tile kept)

-- so with the tile after them they have taken no more than all together need
pub takes_few : (u : Patch) (s0 s1 : BlocksState) (index : Index) (tiles taken : List ℕ) (i more : ℕ) (fresh : Fresh) → i < length tiles → AreWritten u s0 index (take i tiles) fresh s1
    → (IsTrue s0.honest → more ≤ blocks_after u s0 index (get_or tiles i 0)) → length taken ≤ length fresh.blocks.items + more → TakesFew u s0 index tiles taken
takes_few u s0 s1 index tiles taken i more fresh inside w few le honest =
    omega (arith, sum_by_more_le (blocks_after u s0 index) tiles i 0 inside, tiles_done u s0 s1 index (take i tiles) fresh honest w, few honest, le)
