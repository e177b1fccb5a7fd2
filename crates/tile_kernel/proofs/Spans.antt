-- Windows by rows and then by columns.
use Rattle.std.proofs.Common.{◌≡◌, ℕ, zero, suc, ◌+◌, ◌-◌, ◌*◌, ◌<◌, ◌≤◌, ◌≢◌, arith, ℤ, List, [], ◌∷◌, ◌++◌, length, map, refl, sym, ap, ◌∙◌, subst, mul-le-mul_right, le_antisymm, get_or, set, inl, inr, get_or-set_same, get_or-set_other}
use Rattle.std.specs.List.{flat_map, range_with_len}
use Rattle.std.proofs.lemmas.List.{append-nil, append_assoc}
use Rattle.std.proofs.lemmas.List.FromFn.{map-range_with_len_more}
use Rattle.std.proofs.lemmas.List.Sorted.{IsPermutation-refl}
use Rattle.std.proofs.lemmas.Bool.{cases_lt}
use Rattle.wcps_text.specs.declared.operator.Aggregate.{Aggregate}
use Rattle.wcps_mean.specs.declared.cell.Outcome.{Outcome}
use Rattle.wcps_mean.specs.declared.cell.Outcome.TheVariants.{Value}
use Rattle.wcps_mean.specs.Condensers.{values, combined}
use Rattle.tile_kernel.specs.declared.windows.Span.{Span}
use Rattle.tile_kernel.specs.declared.windows.Grid.{Grid}
use Rattle.tile_kernel.specs.Told.{Told, outcomes}
use Rattle.tile_kernel.specs.Joins.{HoldsOfBoth}
use Rattle.tile_kernel.specs.Condensing.{CombinesTo}
use Rattle.tile_kernel.specs.Windows.{cells_across, KeepsAcross}

-- ---- the values of a list, as they stand

values_listed : (zs : List ℤ) → values (outcomes (map (λ (z : ℤ). let t : Told = (0, Value z) in t) zs)) ≡ zs
values_listed [] = refl
values_listed (z ∷ zs) = ap (λ l. z ∷ l) (values_listed zs)

pub combined_of : (op : Aggregate) (keeps : List ℤ → Type 0) (o : Outcome) (zs : List ℤ) → CombinesTo op keeps o → keeps zs → o ≡ combined op zs
combined_of op keeps o zs f k =
    let told : List Told = map (λ (z : ℤ). let t : Told = (0, Value z) in t) zs in
    let e : values (outcomes told) ≡ zs = values_listed zs in
    f told told (IsPermutation-refl told) (subst keeps (sym e) k) ∙ ap (combined op) e

-- ---- one more item of a span

one_more : (f : ℕ → ℤ) (from k : ℕ) (x : ℤ) → from ≤ k → x ≡ f k → map f (range_with_len from (k + 1 - from)) ≡ map f (range_with_len from (k - from)) ++ x ∷ []
one_more f from k x le e =
    let n : k + 1 - from ≡ (k - from) + 1 = omega arith in
    ap (λ n. map f (range_with_len from n)) n ∙ map-range_with_len_more f from (k - from) k (omega arith) ∙ ap (λ y. map f (range_with_len from (k - from)) ++ y ∷ []) (sym e)

pub one_cell_more : (P Q R : List ℤ → Type 0) (f : ℕ → ℤ) (from k : ℕ) (x : ℤ) → from ≤ k → x ≡ f k → HoldsOfBoth P Q R → P (map f (range_with_len from (k - from))) → Q (x ∷ []) → R (map f (range_with_len from (k + 1 - from)))
one_cell_more P Q R f from k x le e both p q = subst R (sym (one_more f from k x le e)) (both (map f (range_with_len from (k - from))) (x ∷ []) p q)

flat_more : (h : ℕ → List ℤ) (a n : ℕ) → flat_map h (range_with_len a (n + 1)) ≡ flat_map h (range_with_len a n) ++ h (a + n)
flat_more h a zero = append-nil (h a) ∙ ap h (omega arith)
flat_more h a (suc n) =
    let m : suc n + 1 ≡ suc (n + 1) = omega arith in
    let s : a + 1 + n ≡ a + suc n = omega arith in
    ap (λ k. flat_map h (range_with_len a k)) m ∙ ap (λ l. h a ++ l) (flat_more h (a + 1) n) ∙ ap (λ k. h a ++ (flat_map h (range_with_len (a + 1) n) ++ h k)) s ∙ sym (append_assoc (h a) (flat_map h (range_with_len (a + 1) n)) (h (a + suc n)))

pub one_row_more : (P Q R : List ℤ → Type 0) (h : ℕ → List ℤ) (from k : ℕ) → from ≤ k → HoldsOfBoth P Q R → P (flat_map h (range_with_len from (k - from))) → Q (h k) → R (flat_map h (range_with_len from (k + 1 - from)))
one_row_more P Q R h from k le both p q =
    let n : k + 1 - from ≡ (k - from) + 1 = omega arith in
    let at : from + (k - from) ≡ k = omega arith in
    subst R (sym (ap (λ n. flat_map h (range_with_len from n)) n ∙ flat_more h from (k - from) ∙ ap (λ m. flat_map h (range_with_len from (k - from)) ++ h m) at)) (both (flat_map h (range_with_len from (k - from))) (h k) p q)

-- ---- how many values a summary has counted

pub few_more : (row from a b width : ℕ) → from ≤ row → a ≤ (row - from) * width → b ≤ width → a + b ≤ (row + 1 - from) * width
few_more row from a b width le h k =
    let e : row + 1 - from ≡ (row - from) + 1 = omega arith in
    let p : (row + 1 - from) * width ≡ (row - from) * width + width = ap (λ n. n * width) e ∙ omega arith in
    omega arith

pub few_in_all : (row from to width n : ℕ) → row < to → to * width ≤ n → (row + 1 - from) * width ≤ n
few_in_all row from to width n lt h =
    let le : row + 1 - from ≤ to = omega arith in
    let p : (row + 1 - from) * width ≤ to * width = mul-le-mul_right width le in
    omega arith

pub place_within : (row to place width : ℕ) → row < to → place < width → row * width + place < to * width
place_within row to place width lt l =
    let le : row + 1 ≤ to = omega arith in
    let p : (row + 1) * width ≤ to * width = mul-le-mul_right width le in
    omega arith

-- ---- rows of summaries

-- a place is told by its number in the whole: a row's places are one after the other
row_at_most : (row other k j n : ℕ) → j < n → row * n + k ≡ other * n + j → row ≤ other
row_at_most row other k j n b e = elim (cases_lt other row) [
  | inl l ↦ let m : (other + 1) * n ≤ row * n = mul-le-mul_right n (let l' : other + 1 ≤ row = omega arith in l') in absurd (omega arith)
  | inr l ↦ l
]

pub next_kept : {S : Type 0} (keeps : S → List ℤ → Type 0) (counted : S → ℕ) (g : Grid) (across : List Span) (row place : ℕ) (kept : List S) (s : S) → place < length across → row * length across + place < length kept
    → ((e : Span) → keeps s (cells_across g (get_or across place e) row)) → counted s ≤ g.width
    → KeepsAcross keeps counted g across (row * length across + place) kept → KeepsAcross keeps counted g across (row * length across + (place + 1)) (set kept (row * length across + place) s)
next_kept {S} keeps counted g across row place kept s within room here few before = λ r k d e lt below.
    let n = length across in
    let at = row * n + place in
    let P : S → ℕ → ℕ → Type 0 = λ x r k. keeps x (cells_across g (get_or across k e) r) × (counted x ≤ g.width) in
    elim (cases_lt (r * n + k) at) [
      | inl l ↦ let ne : r * n + k ≢ at = omega arith in
          subst (λ x. P x r k) (sym (get_or-set_other kept at (r * n + k) s d ne)) (before r k d e lt l)
      | inr q ↦
          let same : r * n + k ≡ row * n + place = omega arith in
          let rows : r ≡ row = le_antisymm (row_at_most r row k place n within same) (row_at_most row r place k n lt (sym same)) in
          let products : r * n ≡ row * n = ap (λ r. r * n) rows in
          let places : k ≡ place = omega arith in
          subst (λ i. P (get_or (set kept at s) i d) r k) (sym same)
          (subst (λ x. P x r k) (sym (get_or-set_same kept at s d room))
          (subst (λ r. P s r k) (sym rows) (subst (λ k. P s row k) (sym places) (here e, few))))
    ]
