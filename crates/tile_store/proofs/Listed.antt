-- How often indexes and changes list blocks.
use Rattle.std.proofs.Common.{inl, inr, ◌≡◌, ℕ, ◌+◌, ◌<◌, ◌≤◌, Option, List, [], ◌∷◌, ◌++◌, length, get_or, take, arith, ◌==◌}
use Rattle.std.proofs.lemmas.Bool.{cases_Bool}
use Rattle.std.proofs.lemmas.List.Sums.{sum_by-cons, sum_by-take-le, sum_by_more, sum_by_push, get_or-le-sum_by}
use Rattle.block_file.specs.State.{BlocksState, times}
use Rattle.block_file.specs.Words.{Covers}
use Rattle.tile_index.specs.declared.entry.Entry.{Entry}
use Rattle.tile_index.specs.Index.{found_at}
use Rattle.tile_store.specs.Listing.{entry_times, listed, listed_for, given}

-- a tile has a block no more often than its index lists it
pub listed_found : (t : ℕ) (index : List (ℕ × Entry)) (k : ℕ) → entry_times (found_at t index) k ≤ listed index k
unfolding listed
listed_found t [] k = omega arith
listed_found t (x ∷ xs) k = elim (cases_Bool (t == x.0)) [
  | inl e ↦ rw e (omega (arith, sum_by-cons (λ (y : ℕ × Entry). times y.1.blocks k) x xs))
  | inr e ↦ rw e (omega (arith, listed_found t xs k, sum_by-cons (λ (y : ℕ × Entry). times y.1.blocks k) x xs))
]

pub found_covered : (index : List (ℕ × Entry)) (s : BlocksState) (t : ℕ) (entry : Option Entry) → entry ≡ found_at t index → Covers s (listed index) → Covers s (entry_times entry)
found_covered index s t entry is covers k = rw is (omega (arith, listed_found t index k, covers k))

pub found_times : (index : List (ℕ × Entry)) (t : ℕ) (entry : Option Entry) → entry ≡ found_at t index → (k : ℕ) → entry_times entry k ≤ listed index k
found_times index t entry is k = rw is (listed_found t index k)

-- one more entry
pub listed_part : (entries : List (ℕ × Entry)) (i : ℕ) (x : ℕ × Entry) (k : ℕ) → i < length entries → x ≡ get_or entries i x → listed (take (i + 1) entries) k ≡ listed (take i entries) k + times x.1.blocks k
unfolding listed
listed_part entries i x k h is = rw (← is) at (sum_by_more (λ (y : ℕ × Entry). times y.1.blocks k) entries i x h)

pub listed_front : (entries : List (ℕ × Entry)) (i k : ℕ) → listed (take i entries) k ≤ listed entries k
unfolding listed
listed_front entries i k = sum_by-take-le (λ (x : ℕ × Entry). times x.1.blocks k) entries i

-- the blocks of one more tile
pub listed_for_step : (index : List (ℕ × Entry)) (tiles : List ℕ) (i k : ℕ) (blocks blocks' : List ℕ) (o : Option Entry) → i < length tiles → o ≡ found_at (get_or tiles i 0) index → times blocks k ≡ listed_for index (take i tiles) k
    → times blocks' k ≡ times blocks k + entry_times o k → times blocks' k ≡ listed_for index (take (i + 1) tiles) k
unfolding listed_for
listed_for_step index tiles i k blocks blocks' o h is so_far added =
    omega (arith, so_far, rw is at added, sum_by_more (λ (t : ℕ). entry_times (found_at t index) k) tiles i 0 h)

-- the blocks that changes give
pub given_push : (xs ys : List (ℕ × Option Entry)) (t k : ℕ) (change : Option Entry) → ys ≡ xs ++ (t, change) ∷ [] → given ys k ≡ given xs k + entry_times change k
unfolding given
given_push xs ys t k change is = rw is (sum_by_push (λ (x : ℕ × Option Entry). entry_times x.1 k) xs (t, change))

pub given_at : (changes : List (ℕ × Option Entry)) (i k : ℕ) (d : ℕ × Option Entry) → i < length changes → entry_times (get_or changes i d).1 k ≤ given changes k
unfolding given
given_at changes i k d h = get_or-le-sum_by (λ (x : ℕ × Option Entry). entry_times x.1 k) changes i d h
