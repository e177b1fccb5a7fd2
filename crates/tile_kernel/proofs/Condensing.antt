-- What condensers keep, in whatever order points are told.
use Rattle.std.proofs.Common.{◌≡◌, ℕ, ◌+◌, ◌<◌, ℤ, ◌+ℤ◌, arith, below_more, get_or, List, [], ◌∷◌, ◌++◌, length, map, length-append, refl, sym, ap, ◌∙◌, subst, Option, Some, None, Bool}
use Rattle.std.specs.List.Sorted.{IsPermutation}
use Rattle.std.proofs.lemmas.List.{append-nil, map-append, length-map, get_or_append_left, get_or_push}
use Rattle.std.proofs.lemmas.List.Sorted.{All-permutation, Contains-permutation, IsPermutation-refl, IsPermutation-trans, IsPermutation-append, IsPermutation-append_comm}
use Rattle.wcps_text.specs.declared.operator.Aggregate.{Aggregate}
use Rattle.wcps_mean.specs.declared.product.Product as product
use Rattle.wcps_mean.specs.declared.cell.PointFault.{PointFault}
use Rattle.wcps_mean.specs.declared.cell.Outcome.{Outcome}
use Rattle.wcps_mean.specs.declared.cell.Outcome.TheVariants.{Value, Fault}
use Rattle.wcps_mean.specs.Condensers.{first_fault, values, total, every, any, trues, fault_or, combined, condensed}
use Rattle.wcps_mean.specs.Best.{greatest_of, least_of}
use Rattle.wcps_mean.specs.Magnitudes.{cap}
use Rattle.wcps_mean.specs.declared.running.Running.{Running}
use Rattle.wcps_mean.specs.Feeding.{Keeps, Fed}
use Rattle.wcps_mean.specs.Products.{StandsFor}
use Rattle.tile_kernel.specs.Told.{Told, outcomes, IsValue, StandsFrom, IsFirst, AreRising, ComesTo}
use Rattle.tile_kernel.specs.declared.accumulator.Accumulator.{Accumulator}
use Rattle.tile_kernel.specs.Standing.{Stands}
use Rattle.tile_kernel.specs.Joins.{HoldsOfBoth, HoldsWith}
use Rattle.tile_kernel.specs.Condensing.{CombinesTo, StandsForBoth, IsKept, IsKeptOf, ComesToBoth}
use Rattle.tile_kernel.proofs.Faults.{fault_in_order, fault_of_one, left_alone, same_fault}
use Rattle.tile_kernel.proofs.Merges.{values-append, total-append, keeps_permuted}
use Rattle.tile_kernel.proofs.Orders.{length-permuted, total-permuted, trues-permuted, every-permuted, any-permuted, has_zero-permuted, sign-permuted, size-permuted, greatest-permuted, least-permuted}

-- ---- summaries

pub total_unordered : (sum : ℤ) (count : ℕ) (told other : List Told) → IsPermutation told other → (sum ≡ total (values (outcomes told))) × (count ≡ length (values (outcomes told))) → (sum ≡ total (values (outcomes other))) × (count ≡ length (values (outcomes other)))
total_unordered sum count told other p h = (h.0 ∙ total-permuted told other p, h.1 ∙ length-permuted told other p)

pub factors_unordered : (q : product.Product) (told other : List Told) → IsPermutation told other → StandsFor q (values (outcomes told)) → StandsFor q (values (outcomes other))
factors_unordered q told other p h = record {
  zero_kept = h.zero_kept ∙ has_zero-permuted told other p;
  sign_kept = h.sign_kept ∙ sign-permuted told other p;
  size_kept = h.size_kept ∙ ap cap (size-permuted told other p);
}

pub greatest_unordered : (best : Option ℤ) (told other : List Told) → IsPermutation told other → best ≡ greatest_of (values (outcomes told)) → best ≡ greatest_of (values (outcomes other))
greatest_unordered best told other p h = h ∙ greatest-permuted told other p

pub least_unordered : (best : Option ℤ) (told other : List Told) → IsPermutation told other → best ≡ least_of (values (outcomes told)) → best ≡ least_of (values (outcomes other))
least_unordered best told other p h = h ∙ least-permuted told other p

pub every_unordered : (all : Bool) (told other : List Told) → IsPermutation told other → all ≡ every (values (outcomes told)) → all ≡ every (values (outcomes other))
every_unordered all told other p h = h ∙ every-permuted told other p

pub any_unordered : (some : Bool) (told other : List Told) → IsPermutation told other → some ≡ any (values (outcomes told)) → some ≡ any (values (outcomes other))
any_unordered some told other p h = h ∙ any-permuted told other p

pub trues_unordered : (n : ℕ) (told other : List Told) → IsPermutation told other → n ≡ trues (values (outcomes told)) → n ≡ trues (values (outcomes other))
trues_unordered n told other p h = h ∙ trues-permuted told other p

pub totals_joined : (a b r : ℤ) (m n : ℕ) (zs ws : List ℤ) → r ≡ a +ℤ b → (a ≡ total zs) × (m ≡ length zs) → (b ≡ total ws) × (n ≡ length ws) → (r ≡ total (zs ++ ws)) × (m + n ≡ length (zs ++ ws))
totals_joined a b r m n zs ws e h g = (
  e ∙ ap (λ z. z +ℤ b) h.0 ∙ ap (λ z. total zs +ℤ z) g.0 ∙ sym (total-append zs ws),
  ap (λ k. k + n) h.1 ∙ ap (λ k. length zs + k) g.1 ∙ sym (length-append zs ws),
)

no_fault : (zs : List ℤ) → first_fault (map Value zs) ≡ None
no_fault [] = refl
no_fault (z ∷ zs) = no_fault zs

values_back : (zs : List ℤ) → values (map Value zs) ≡ zs
values_back [] = refl
values_back (z ∷ zs) = ap (λ l. z ∷ l) (values_back zs)

-- a running condenser that was given the sum and the number of values
pub summed : (op : Aggregate) (r : Running) (o : Outcome) (sum : ℤ) (count : ℕ) → r.op ≡ op → r.count ≡ count → r.fault ≡ None → ((zs : List ℤ) → (sum ≡ total zs) × (count ≡ length zs) → Keeps op r zs) → ((outs : List Outcome) → Fed r outs → o ≡ condensed r.op outs)
    → CombinesTo op (λ zs. (sum ≡ total zs) × (count ≡ length zs)) o
summed op r o sum count a n f keep end told ordered p h =
    let zs = values (outcomes ordered) in
    let k = total_unordered sum count told ordered p h in
    let kept : Keeps op r (values (map Value (values (outcomes ordered)))) = subst (Keeps op r) (sym (values_back (values (outcomes ordered)))) (keep (values (outcomes ordered)) k) in
    end (map Value zs) (record {
      counted = n ∙ k.1 ∙ sym (length-map zs Value);
      faulted = f ∙ sym (no_fault zs);
      kept = subst (λ q. Keeps q r (values (map Value (values (outcomes ordered))))) (sym a) kept;
    })
    ∙ ap (λ q. condensed q (map Value zs)) a ∙ ap (λ g. fault_or g (combined op (values (map Value zs)))) (no_fault zs) ∙ ap (combined op) (values_back zs)

-- ---- with the fault at the least place

first_unordered : (fault : Option PointFault) (place : ℕ) (told other : List Told) → IsPermutation told other → IsFirst fault place told → IsFirst fault place other
first_unordered None place told other p h = All-permutation (λ (t : Told). IsValue t.1) told other p h
first_unordered (Some f) place told other p h = (Contains-permutation told other (place, Fault f) p h.0, All-permutation (λ (t : Told). StandsFrom place t.0 t.1) told other p h.1)

-- as an accumulator
pub stands_as : {S : Type 0} (keeps : S → List ℤ → Type 0) (op : Aggregate) (s : S) (a : Accumulator) (fault : Option PointFault) (place : ℕ) (told : List Told) → ((zs : List ℤ) → keeps s zs → Keeps op a.running zs) → a.running.op ≡ op → a.running.count ≡ length told → a.running.fault ≡ fault → a.place ≡ place → IsKeptOf keeps s fault place told → Stands a told
stands_as keeps op s a fault place told kept o n f e h = record {
  counted = n;
  faulted = same_fault a.running.fault fault a.place place told f e (first_unordered fault place h.0 told h.1 h.2.faulted);
  kept = subst (λ q. Keeps q a.running (values (outcomes told))) (sym o) (keeps_permuted op a.running h.0 told h.1 (kept (values (outcomes h.0)) h.2.kept));
}

pub kept_value : {S : Type 0} (keeps : S → List ℤ → Type 0) (s : S) (place : ℕ) (z : ℤ) → keeps s (z ∷ []) → IsKeptOf keeps s None place ((place, Value z) ∷ [])
kept_value keeps s place z h = ((place, Value z) ∷ [], IsPermutation-refl ((place, Value z) ∷ []), record { faulted = fault_of_one place (Value z); kept = h })

pub kept_fault : {S : Type 0} (keeps : S → List ℤ → Type 0) (s : S) (place : ℕ) (f : PointFault) → keeps s [] → IsKeptOf keeps s (Some f) place ((place, Fault f) ∷ [])
kept_fault keeps s place f h = ((place, Fault f) ∷ [], IsPermutation-refl ((place, Fault f) ∷ []), record { faulted = fault_of_one place (Fault f); kept = h })

values_of : (told more : List Told) → values (outcomes (told ++ more)) ≡ values (outcomes told) ++ values (outcomes more)
values_of told more = ap values (map-append (λ (t : Told). t.1) told more) ∙ values-append (outcomes told) (outcomes more)

kept_merged : {S : Type 0} (keeps : S → List ℤ → Type 0) (a b c : S) (af bf cf : Option PointFault) (p q r : ℕ) → HoldsOfBoth (IsFirst af p) (IsFirst bf q) (IsFirst cf r) → HoldsOfBoth (keeps a) (keeps b) (keeps c)
    → (told more : List Told) → IsKept keeps a af p told → IsKept keeps b bf q more → IsKept keeps c cf r (told ++ more)
kept_merged keeps a b c af bf cf p q r first both told more h g = record {
  faulted = first told more h.faulted g.faulted;
  kept = subst (keeps c) (sym (values_of told more)) (both (values (outcomes told)) (values (outcomes more)) h.kept g.kept);
}

-- of both, in either order
pub merged : {S : Type 0} (keeps : S → List ℤ → Type 0) (a b c : S) (af bf cf : Option PointFault) (p q r : ℕ) → HoldsOfBoth (IsFirst af p) (IsFirst bf q) (IsFirst cf r) → HoldsOfBoth (keeps a) (keeps b) (keeps c)
    → (told more : List Told) → IsKeptOf keeps a af p told → IsKeptOf keeps b bf q more → IsKeptOf keeps c cf r (told ++ more)
merged keeps a b c af bf cf p q r first both told more h g =
    (h.0 ++ g.0, IsPermutation-append h.0 told g.0 more h.1 g.1, kept_merged keeps a b c af bf cf p q r first both h.0 g.0 h.2 g.2)

pub merged_turned : {S : Type 0} (keeps : S → List ℤ → Type 0) (a b c : S) (af bf cf : Option PointFault) (p q r : ℕ) → HoldsOfBoth (IsFirst af p) (IsFirst bf q) (IsFirst cf r) → HoldsOfBoth (keeps a) (keeps b) (keeps c)
    → (told more : List Told) → IsKeptOf keeps b bf q told → IsKeptOf keeps a af p more → IsKeptOf keeps c cf r (told ++ more)
merged_turned keeps a b c af bf cf p q r first both told more h g =
    let m = merged keeps a b c af bf cf p q r first both more told g h in
    (m.0, IsPermutation-trans m.0 (more ++ told) (told ++ more) m.1 (IsPermutation-append_comm more told), m.2)

-- ---- one point more

pub with_value : {S : Type 0} (keeps : S → List ℤ → Type 0) (a b : S) (fault : Option PointFault) (p place : ℕ) (z : ℤ) → HoldsWith z (keeps a) (keeps b) → (told : List Told) → IsKeptOf keeps a fault p told → IsKeptOf keeps b fault p (told ++ (place, Value z) ∷ [])
with_value keeps a b fault p place z more told h =
    let one : List Told = (place, Value z) ∷ [] in (
      h.0 ++ one,
      IsPermutation-append h.0 told one one h.1 (IsPermutation-refl one),
      record { faulted = left_alone fault p h.0 one h.2.faulted (fault_of_one place (Value z)); kept = subst (keeps b) (sym (values_of h.0 one)) (more (values (outcomes h.0)) h.2.kept) },
    )

pub with_fault : {S : Type 0} (keeps : S → List ℤ → Type 0) (s : S) (fault first : Option PointFault) (p q place : ℕ) (f : PointFault) → HoldsOfBoth (IsFirst fault p) (IsFirst (Some f) place) (IsFirst first q) → (told : List Told) → IsKeptOf keeps s fault p told
    → IsKeptOf keeps s first q (told ++ (place, Fault f) ∷ [])
with_fault keeps s fault first p q place f both told h =
    let one : List Told = (place, Fault f) ∷ [] in (
      h.0 ++ one,
      IsPermutation-append h.0 told one one h.1 (IsPermutation-refl one),
      record { faulted = both h.0 one h.2.faulted (fault_of_one place (Fault f)); kept = subst (keeps s) (sym (values_of h.0 one ∙ append-nil (values (outcomes h.0)))) h.2.kept },
    )

-- ---- the end

finished : (op : Aggregate) (fault : Option PointFault) (o : Outcome) (told ordered : List Told) (place : ℕ) → IsFirst fault place told → IsPermutation told ordered → AreRising ordered → o ≡ fault_or fault (combined op (values (outcomes ordered))) → o ≡ fault_or (first_fault (outcomes ordered)) (combined op (values (outcomes ordered)))
finished op fault o told ordered place h p r e = e ∙ ap (λ f. fault_or f (combined op (values (outcomes ordered)))) (fault_in_order fault place told ordered h p r)

pub finished_fault : {S : Type 0} (keeps : S → List ℤ → Type 0) (op : Aggregate) (s : S) (f : PointFault) (place : ℕ) (told : List Told) → IsKeptOf keeps s (Some f) place told → ComesTo op told (Fault f)
finished_fault keeps op s f place told h = λ ordered a. finished op (Some f) (Fault f) h.0 ordered place h.2.faulted (IsPermutation-trans h.0 told ordered h.1 a.same) a.rising refl

pub finished_value : {S : Type 0} (keeps : S → List ℤ → Type 0) (op : Aggregate) (s : S) (place : ℕ) (o : Outcome) → CombinesTo op (keeps s) o → (told : List Told) → IsKeptOf keeps s None place told → ComesTo op told o
finished_value keeps op s place o end told h = λ ordered a.
    let p = IsPermutation-trans h.0 told ordered h.1 a.same in
    finished op None o h.0 ordered place h.2.faulted p a.rising (end h.0 ordered p h.2.kept)

pub in_any_order : {C : Type 0} (op : Aggregate) (stands : C → List Told → Type 0) (a b c : C) (o : Outcome) → StandsForBoth stands a b c → ((told : List Told) → stands c told → ComesTo op told o) → ComesToBoth op stands a b o
in_any_order op stands a b c o both end told more all h g p = λ ordered q.
    end (told ++ more) (both told more h g) ordered (record { same = IsPermutation-trans (told ++ more) all ordered p q.same; rising = q.rising })

-- ---- a list that is made item by item

-- one more item behind others
pub each_pushed : {X : Type 0} (xs : List X) (x : X) (n : ℕ) (P : ℕ → X → Type 0) → length xs ≡ n → ((k : ℕ) (d : X) → k < n → P k (get_or xs k d)) → P n x → (k : ℕ) (d : X) → k < n + 1 → P k (get_or (xs ++ x ∷ []) k d)
each_pushed {X} xs x n P e before here k d l =
    below_more (λ k. (d : X) → P k (get_or (xs ++ x ∷ []) k d)) n
    (λ k l d. subst (P k) (sym (get_or_append_left xs (x ∷ []) d k (omega (arith, l, e)))) (before k d l))
    (λ d. subst (P n) (sym (get_or_push xs x d n e)) here)
    k l d

-- a list with a place has an item
pub by_some_item : {X P : Type 0} (xs : List X) (k : ℕ) → k < length xs → (X → P) → P
by_some_item [] k l f = absurd (omega (arith, l))
by_some_item (x ∷ xs) k l f = f x
