-- Rising numbers: the place of each, by a search and by a table.
use Rattle.std.proofs.Common.{◌≡◌, ◌⊎◌, ⊎_elim, ℕ, ◌+◌, ◌-◌, ◌<◌, ◌≤◌, ℤ, pos, ◌≤ℤ◌, ◌<ℤ◌, ◌+ℤ◌, List, [], ◌∷◌, ◌++◌, length, get_or, set, take, refl, sym, ap, ◌∙◌, subst, arith, Some, None, Err, Less, Greater}
use Rattle.std.specs.Prelude.{replicate, slice_get}
use Rattle.std.specs.Ordering.{int_cmp, ordering_reverse, is_lt}
use Rattle.std.specs.List.Sorted.{IsStrictlySortedBy, IsSortedBy, IsBinarySearchResult, IsPartitionPoint}
use Rattle.std.proofs.lemmas.Int.{ints}
use Rattle.std.proofs.lemmas.Cmp.{int_cmp_total, int_ranked}
use Rattle.std.proofs.lemmas.Map.Keys.{Less-from_sorted}
use Rattle.std.proofs.lemmas.List.{get_or-replicate, length-replicate, take_more, get_or-take, length-take-le}
use Rattle.std.proofs.lemmas.Option.{slice_get_within}
use Rattle.std.proofs.lemmas.List.Sorted.{searchable_from_sorted}
use Rattle.wcps_mean.specs.declared.cell.Outcome.{Outcome}
use Rattle.wcps_mean.specs.declared.cell.Outcome.TheVariants.{Value, Fault}
use Rattle.wcps_mean.specs.Condensers.{values}
use Rattle.tile_kernel.specs.Keyed.{number_at, IsPlaceOf, IsTable, AreSlots}
use Rattle.tile_kernel.proofs.Places.{outcome_there}
use Rattle.tile_kernel.proofs.Keys.{table_more}

below_or : (a b : ℕ) → (a < b) ⊎ (b ≤ a)
below_or a b = grind arith

-- each is below those after it
pub rises : (xs : List ℤ) (i j : ℕ) → IsStrictlySortedBy int_cmp xs → i < j → j < length xs → number_at xs i <ℤ number_at xs j
rises xs i j h lt within = int_ranked (number_at xs i) (number_at xs j) Less (sym (Less-from_sorted int_cmp xs i j (pos 0) h lt within))

-- two places with one number are one
pub same_place : (xs : List ℤ) (i j : ℕ) → IsStrictlySortedBy int_cmp xs → i < length xs → j < length xs → number_at xs i ≡ number_at xs j → i ≡ j
same_place xs i j h li lj e =
    ⊎_elim
    (λ (lt : i < j). let up = rises xs i j h lt lj in absurd (omega (arith, ints, up, e)))
    (λ (le : j ≤ i).
    ⊎_elim
    (λ (lt : j < i). let up = rises xs j i h lt li in absurd (omega (arith, ints, up, e)))
    (λ (ge : i ≤ j). omega arith)
    (below_or j i))
    (below_or i j)

-- the first is not above any, and the last is not below any
pub not_above : (xs : List ℤ) (i j : ℕ) → IsStrictlySortedBy int_cmp xs → i ≤ j → j < length xs → number_at xs i ≤ℤ number_at xs j
not_above xs i j h le lt =
    ⊎_elim
    (λ (b : i < j). let up = rises xs i j h b lt in omega (arith, ints, up))
    (λ (b : j ≤ i). let same : number_at xs i ≡ number_at xs j = ap (number_at xs) (let e : i ≡ j = omega arith in e) in omega (arith, ints, same))
    (below_or i j)

-- ---- by a search

pub found : (xs : List ℤ) (z : ℤ) (k : ℕ) → IsStrictlySortedBy int_cmp xs → k < length xs → number_at xs k ≡ z → IsPlaceOf z xs (Some k)
found xs z k h lt e j l = (
  (λ (q : number_at xs j ≡ z). ap Some (same_place xs k j h lt l (e ∙ sym q))),
  (λ (w : Some k ≡ Some j). let same : k ≡ j = cc in ap (number_at xs) (sym same) ∙ e),
)

adjacent : (xs : List ℤ) → IsStrictlySortedBy int_cmp xs → IsSortedBy (λ x y. is_lt (int_cmp x y)) xs
adjacent xs h k d le lt =
    let up = Less-from_sorted int_cmp xs k (k + 1) d h (omega arith) lt in
    ap is_lt (int_cmp_total.antisymm (get_or xs (k + 1) d) (get_or xs k d) ∙ ap ordering_reverse up)

pub missed : (xs : List ℤ) (z : ℤ) (i : ℕ) → IsStrictlySortedBy int_cmp xs → IsBinarySearchResult (λ y. int_cmp y z) xs (Err i) → IsPlaceOf z xs None
missed xs z i h r k l =
    let parts : IsPartitionPoint (λ y. int_cmp y z ≡ Less) (λ y. int_cmp y z ≡ Greater) xs i = r (searchable_from_sorted int_cmp_total (λ x. x) xs z (adjacent xs h)) in
    let same : number_at xs k ≡ z → ⊥ = λ q. ⊎_elim
    (λ (lt : k < i). let o = int_ranked (number_at xs k) z Less (sym (parts.0 k (pos 0) (omega arith) lt)) in omega (arith, ints, o, q))
    (λ (le : i ≤ k). let o = int_ranked (number_at xs k) z Greater (sym (parts.1 k (pos 0) le l)) in omega (arith, ints, o, q))
    (below_or k i) in
    ((λ (q : number_at xs k ≡ z). absurd (same q)), (λ w. cc))

-- ---- by a table

-- a table of no number
pub no_table : (low : ℤ) (n : ℕ) (table : List ℕ) → table ≡ replicate n 0 → IsTable low table []
no_table low n table e = record {
  there = λ k l. absurd (omega arith);
  back = λ i l some. let long : length table ≡ n = ap length e ∙ length-replicate n 0 in let none : get_or table i 0 ≡ 0 = ap (λ t. get_or t i 0) e ∙ get_or-replicate n i 0 0 (omega (arith, long, l)) in absurd (omega (arith, none, some));
}

pub no_slots : (low : ℤ) (n : ℕ) (table : List ℕ) → table ≡ replicate n 0 → AreSlots low table []
unfolding IsStrictlySortedBy
no_slots low n table e = record { rising = tt; tabled = λ _. no_table low n table e }

-- one more of rising numbers in a table of those before it
pub table_next : (low : ℤ) (table : List ℕ) (numbers : List ℤ) (k i : ℕ) → IsStrictlySortedBy int_cmp numbers → k < length numbers → IsTable low table (take k numbers) → i < length table → number_at numbers k ≡ low +ℤ pos i
    → IsTable low (set table i (k + 1)) (take (k + 1) numbers)
table_next low table numbers k i h lt t within at =
    subst (IsTable low (set table i (k + 1))) (sym (take_more numbers k (pos 0) lt)) (table_more low (number_at numbers k) table (take k numbers) i (k + 1) t within at free (omega (arith, long)))
  where
    long : length (take k numbers) ≡ k
    long = length-take-le k numbers (omega arith)

    free : get_or table i 0 ≡ 0
    free = ⊎_elim
        (λ (some : 0 < get_or table i 0).
        let b = t.back i within some in
        let j : get_or table i 0 - 1 < k = omega (arith, b.0, long, some) in
        let up = rises numbers (get_or table i 0 - 1) k h j lt in
        let here : number_at numbers (get_or table i 0 - 1) ≡ low +ℤ pos i = sym (get_or-take k numbers (get_or table i 0 - 1) (pos 0) j) ∙ b.1 in
        absurd (omega (arith, ints, up, here, at)))
        (λ (none : get_or table i 0 ≤ 0). omega (arith, none))
        (below_or 0 (get_or table i 0))

-- ---- the values of a column

values-append : (a b : List Outcome) → values (a ++ b) ≡ values a ++ values b
values-append [] b = refl
values-append (Value z ∷ a) b = ap (λ l. z ∷ l) (values-append a b)
values-append (Fault f ∷ a) b = values-append a b

pub few_values : (os : List Outcome) → length (values os) ≤ length os
few_values [] = omega arith
few_values (Value z ∷ os) = let n = few_values os in omega arith
few_values (Fault f ∷ os) = let n = few_values os in omega arith

-- one more place of a column
pub next_values : (os : List Outcome) (k : ℕ) (o : Outcome) → slice_get os k ≡ Some o → values (take (k + 1) os) ≡ values (take k os) ++ values (o ∷ [])
next_values os k o there =
    ap values (take_more os k (Value (pos 0)) (slice_get_within os k o there) ∙ ap (λ (p : Outcome). take k os ++ p ∷ []) (outcome_there os k o there)) ∙ values-append (take k os) (o ∷ [])
