-- How many bytes the entries of an index take, before and after changes.
use Rattle.std.proofs.Common.{flat_map, ◌≡◌, ℕ, zero, suc, ◌+◌, ◌*◌, ◌<◌, ◌≤◌, ◌^◌, All, List, [], ◌∷◌, length, get_or, arith, refl, sym, ◌∙◌, ap, subst, Option, Some, length-append, sum_by}
use Rattle.std.proofs.lemmas.List.{length-map}
use Rattle.std.proofs.lemmas.List.Sums.{sum_by-cons, sum_by-le}
use Rattle.std.proofs.lemmas.List.Concat.{length-flat_map}
use Rattle.tile_index.specs.declared.entry.Entry.{Entry}
use Rattle.tile_index.specs.Bytes.{number_bytes, entry_bytes, index_bytes}
use Rattle.file_bytes.specs.declared.form.Form.{Form}
use Rattle.file_bytes.specs.declared.form.Form.TheVariants.{Runs, Raw}
use Rattle.file_bytes.specs.Limits.{blocks_filled}
use Rattle.tile_index.specs.Entries.{IsEntry, most_bytes}
use Rattle.tile_index.specs.Index.{found_at, changed_at, IsPair, IsIndex}
use Rattle.tile_index.proofs.Between.{few-between}
use Rattle.tile_index.proofs.Codes.{entry_length, index-parts}
use Rattle.tile_index.proofs.Found.{found_is}
use Rattle.tile_store.specs.Listing.{tiles_of, AreChanges}
use Rattle.tile_store.specs.Room.{entry_blocks, listed_bytes}
use Rattle.tile_store.specs.declared.update.Ready.{Ready}
use Rattle.tile_store.specs.Written.{IsSized, IsSizeWith}
use Rattle.tile_store.proofs.Sums.{exchanged_sums, replaced_sums}
use Rattle.tile_store.proofs.Changes.{ranked_index, ranked_changes}

-- what a listed pair takes
abbrev pub pair_bytes : ℕ × Entry → ℕ
pair_bytes x = listed_bytes (length x.1.blocks)

pub listed_some : (n : ℕ) → 1 ≤ n → listed_bytes n ≡ 8 + 4 * n
listed_some zero h = absurd (omega (arith, h))
listed_some (suc n) h = refl

-- how many bytes the forms have at most
most-most : (form : Form) → (32768 ≤ most_bytes form) × (most_bytes form ≤ 40960)
most-most Runs = (omega arith, omega arith)
most-most Raw = (omega arith, omega arith)

-- an entry has 1 to 10 blocks
pub entry_few : (e : Entry) → IsEntry e → (1 ≤ length e.blocks) × (length e.blocks ≤ 10)
entry_few e is =
    let most = (most-most e.form).1 in
    (omega (arith, is.some, is.few, is.filled), omega (arith, is.some, is.few, is.filled, most))

pub entry_bytes_are : (e : Entry) → IsEntry e → listed_bytes (length e.blocks) ≡ 8 + 4 * length e.blocks
entry_bytes_are e is = listed_some (length e.blocks) (entry_few e is).0

pub entry_small : (e : Entry) → IsEntry e → listed_bytes (length e.blocks) ≤ 48
entry_small e is = (let few = (entry_few e is).1 in omega (arith, entry_bytes_are e is, few))

number_long : (n : ℕ) → length (number_bytes n) ≡ 4
number_long n = refl

entries_long : (index : List (ℕ × Entry)) → All IsPair index → sum_by (λ (x : ℕ × Entry). length (entry_bytes x)) index ≡ sum_by pair_bytes index
entries_long [] h = refl
entries_long (x ∷ xs) h =
    omega (arith, sum_by-cons (λ (y : ℕ × Entry). length (entry_bytes y)) x xs, sum_by-cons pair_bytes x xs, entries_long xs (λ i d lt. h (suc i) d (omega (arith, lt))), entry_length x, entry_bytes_are x.1 (h 0 x (omega arith)).1)

-- how many bytes an index is written in
pub index_long : (index : List (ℕ × Entry)) → IsIndex index → length (index_bytes index) ≡ 4 + sum_by pair_bytes index
index_long index is =
    omega (arith, ap length (index-parts index), length-append (number_bytes (length index)) (flat_map entry_bytes index), number_long (length index), length-flat_map entry_bytes index, entries_long index is.pairs.each)

pub found_entry : (index : List (ℕ × Entry)) (t : ℕ) (e : Entry) → IsIndex index → found_at t index ≡ Some e → IsEntry e
found_entry index t e is some = (found_is IsPair t index e is.pairs.each some).1

-- an entry that was made of bytes and blocks
pub made_entry : (x e : Entry) (size : ℕ) (ks : List ℕ) → Some x ≡ Some e → x.length ≡ size → x.blocks ≡ ks → 1 ≤ size → size ≤ 32768 → length ks ≡ blocks_filled size → All (λ b. b < 2 ^ 32) ks → IsEntry e
made_entry x e size ks is len blocks some few filled numbers =
    let same : x ≡ e = cc in
    let most = (most-most x.form).0 in
    subst IsEntry same (record {
      some = omega (arith, len, some);
      few = omega (arith, len, few, most);
      filled = ap length blocks ∙ filled ∙ ap blocks_filled (sym len);
      numbers = subst (λ (l : List ℕ). All (λ b. b < 2 ^ 32) l) (sym blocks) numbers;
    })

pub sized_of : (old : List (ℕ × Entry)) (changes : List (ℕ × Option Entry)) (tiles : List ℕ) → IsIndex old → AreChanges (2 ^ 24) changes → tiles_of changes ≡ tiles → IsSized old changes tiles
sized_of old changes tiles index are is =
    let ranked = ranked_changes (2 ^ 24) (2 ^ 32) changes (omega arith) are in
    let count = few-between 0 (2 ^ 24) changes (ranked_changes (2 ^ 24) (2 ^ 24) changes (omega arith) are) in
    let each : All (λ (x : ℕ × Entry). pair_bytes x ≤ 48) old = λ i d h. entry_small (get_or old i d).1 (index.pairs.each i d h).1 in
    record {
      entries = are.entries;
      few = omega arith;
      few_tiles = omega (arith, length-map changes (λ (x : ℕ × Option Entry). x.0), ap length is);
      less = rw (← is) (omega (arith, replaced_sums (λ o. listed_bytes (entry_blocks o)) (2 ^ 32) old changes refl (ranked_index old index) ranked, index_long old index));
      short = omega (arith, index_long old index, sum_by-le pair_bytes 48 old each, index.few);
    }

-- the size of the new index
pub size_after : (r : Ready) (old new : List (ℕ × Entry)) → IsIndex old → IsIndex new → AreChanges (2 ^ 24) r.fresh.changes.items → ((t : ℕ) → found_at t new ≡ changed_at t r.fresh.changes.items old)
    → IsSizeWith old r → r.size ≡ length (index_bytes new)
size_after r old new index index' are gives bytes =
    let ranked = ranked_changes (2 ^ 24) (2 ^ 32) r.fresh.changes.items (omega arith) are in
    let sums = exchanged_sums (λ o. listed_bytes (entry_blocks o)) (2 ^ 32) old new r.fresh.changes.items refl (ranked_index old index) (ranked_index new index') ranked gives in
    omega (arith, bytes, sums, index_long old index, index_long new index')
