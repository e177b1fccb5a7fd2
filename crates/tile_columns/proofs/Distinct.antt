-- The different numbers of a list: how many there are does not go by their order.
use Rattle.std.proofs.Common.{◌≡◌, ◌≢◌, ℕ, ◌+◌, ◌<◌, ◌≤◌, inl, inr, List, [], ◌∷◌, ◌++◌, length, length-append, get_or, take, drop, map, refl, sym, ap, ◌∙◌, subst, arith, cond, Bool, true, false}
use Rattle.std.specs.Prelude.{nat_eq, ◌||◌}
use Rattle.std.specs.Cmp.{nat_eq_equiv}
use Rattle.std.specs.List.{list_any, All, IsDistinct}
use Rattle.std.specs.List.Sorted.{IsPermutation}
use Rattle.std.proofs.lemmas.Bool.{false≢true}
use Rattle.std.proofs.lemmas.Bool.Decides.{eqb_tells}
use Rattle.std.proofs.lemmas.List.{take-append-drop, take-take, get_or-take, length-take-le}
use Rattle.std.proofs.lemmas.List.Elements.{All-nil, All-push, All-head, All-tail, All-map, All-from_get_or}
use Rattle.std.proofs.lemmas.List.Folds.{list_any-append, list_any_none}
use Rattle.std.proofs.lemmas.List.Sorted.{list_any-IsPermutation}
use Rattle.std.proofs.lemmas.Map.Keys.{IsDistinct-push}
use Rattle.std.proofs.lemmas.Map.Made.{length-from_same_keys}
use Rattle.plan_ir.specs.Units.{added, distinct_after, distinct}
use Rattle.tile_columns.proofs.Gathers.{distinct_step, grows, added_new}

flipped : (m n : ℕ) → nat_eq m n ≡ nat_eq n m
flipped m n = elim (eqb_tells m n) [
  | inl h ↦ elim (eqb_tells n m) [ inl g ↦ h.0 ∙ sym g.0 | inr g ↦ absurd (g.1 (sym h.1)) ]
  | inr h ↦ elim (eqb_tells n m) [ inl g ↦ absurd (h.1 (sym g.1)) | inr g ↦ h.0 ∙ sym g.0 ]
]

flipped_any : (n : ℕ) (ns : List ℕ) → list_any (λ m. nat_eq m n) ns ≡ list_any (nat_eq n) ns
flipped_any n [] = refl
flipped_any n (m ∷ ns) = ap (λ b. b || list_any (λ k. nat_eq k n) ns) (flipped m n) ∙ ap (λ b. nat_eq n m || b) (flipped_any n ns)

or_false : (a : Bool) → (a || false) ≡ a
or_false true = refl
or_false false = refl

or_assoc : (a b c : Bool) → ((a || b) || c) ≡ (a || (b || c))
or_assoc true b c = refl
or_assoc false b c = refl

or_known : (a b : Bool) → a ≡ true → a ≡ (a || b)
or_known true b e = refl
or_known false b e = absurd (false≢true e)

-- ---- a number is among the different ones exactly if it is in the list

has_added : (seen : List ℕ) (n q : ℕ) (b : Bool) → list_any (λ m. nat_eq m n) seen ≡ b → list_any (nat_eq q) (cond b seen (seen ++ n ∷ [])) ≡ (list_any (nat_eq q) seen || nat_eq q n)
has_added seen n q true e = elim (eqb_tells q n) [
  | inl h ↦ or_known (list_any (nat_eq q) seen) (nat_eq q n) (ap (λ k. list_any (nat_eq k) seen) h.1 ∙ sym (flipped_any n seen) ∙ e)
  | inr h ↦ sym (ap (λ b. list_any (nat_eq q) seen || b) h.0 ∙ or_false (list_any (nat_eq q) seen))
]
has_added seen n q false e = list_any-append (nat_eq q) seen (n ∷ []) ∙ ap (λ b. list_any (nat_eq q) seen || b) (or_false (nat_eq q n))

has_after : (seen ns : List ℕ) (q : ℕ) → list_any (nat_eq q) (distinct_after seen ns) ≡ (list_any (nat_eq q) seen || list_any (nat_eq q) ns)
has_after seen [] q = sym (or_false (list_any (nat_eq q) seen))
has_after seen (n ∷ ns) q =
    has_after (added seen n) ns q
    ∙ ap (λ b. b || list_any (nat_eq q) ns) (has_added seen n q (list_any (λ m. nat_eq m n) seen) refl)
    ∙ or_assoc (list_any (nat_eq q) seen) (nat_eq q n) (list_any (nat_eq q) ns)

-- ---- each stands there once

once_added : (seen : List ℕ) (n : ℕ) (b : Bool) → list_any (λ m. nat_eq m n) seen ≡ b → IsDistinct nat_eq seen → IsDistinct nat_eq (cond b seen (seen ++ n ∷ []))
once_added seen n true e h = h
once_added seen n false e h = IsDistinct-push nat_eq_equiv seen n h (sym (flipped_any n seen) ∙ e)

once_after : (seen ns : List ℕ) → IsDistinct nat_eq seen → IsDistinct nat_eq (distinct_after seen ns)
once_after seen [] h = h
once_after seen (n ∷ ns) h = once_after (added seen n) ns (once_added seen n (list_any (λ m. nat_eq m n) seen) refl h)

once : (ns : List ℕ) → IsDistinct nat_eq (distinct ns)
unfolding IsDistinct
once ns = once_after [] ns tt

-- a list and the same in another order have as many different numbers
pub as_many_permuted : (xs ys : List ℕ) → IsPermutation xs ys → length (distinct ys) ≡ length (distinct xs)
as_many_permuted xs ys p = length-from_same_keys nat_eq_equiv (distinct ys) (distinct xs) (once ys) (once xs)
    (λ q. has_after [] ys q ∙ sym (list_any-IsPermutation (nat_eq q) xs ys p) ∙ sym (has_after [] xs q))

-- ---- what holds of all numbers holds of the different ones

all_added : (P : ℕ → Type 0) (seen : List ℕ) (n : ℕ) (b : Bool) → All P seen → P n → All P (cond b seen (seen ++ n ∷ []))
all_added P seen n true h p = h
all_added P seen n false h p = All-push P seen n h p

all_after : (P : ℕ → Type 0) (seen ns : List ℕ) → All P seen → All P ns → All P (distinct_after seen ns)
all_after P seen [] h all = h
all_after P seen (n ∷ ns) h all = all_after P (added seen n) ns (all_added P seen n (list_any (λ m. nat_eq m n) seen) h (All-head P n ns all)) (All-tail P n ns all)

pub all_different : (P : ℕ → Type 0) (ns : List ℕ) → All P ns → All P (distinct ns)
all_different P ns all = all_after P [] ns (All-nil P) all

-- one of the different numbers that a function gives
pub all_listed : {X : Type 0} (P : ℕ → Type 0) (f : X → ℕ) (xs : List X) (seen : List ℕ) (k n : ℕ) → All (λ x. P (f x)) xs → seen ≡ distinct (map f xs) → k < length seen → n ≡ get_or seen k n → P n
all_listed P f xs seen k n all e lt h =
    let d = all_different P (map f xs) (All-map P f xs all) in
    subst P (sym h) (subst (λ l. P (get_or l k n)) (sym e) (d k n (subst (λ (l : List ℕ). k < length l) e lt)))

-- ---- more of a list

after_append : (seen xs ys : List ℕ) → distinct_after seen (xs ++ ys) ≡ distinct_after (distinct_after seen xs) ys
after_append seen [] ys = refl
after_append seen (x ∷ xs) ys = after_append (added seen x) xs ys

-- more of a list has no fewer different numbers
more_of : (ns : List ℕ) (i j : ℕ) → i ≤ j → length (distinct (take i ns)) ≤ length (distinct (take j ns))
more_of ns i j le =
    let whole : take i ns ++ drop i (take j ns) ≡ take j ns = ap (λ l. l ++ drop i (take j ns)) (sym (take-take i j ns le)) ∙ take-append-drop i (take j ns) in
    let e : length (distinct (take j ns)) ≡ length (distinct_after (distinct (take i ns)) (drop i (take j ns))) = ap (λ l. length (distinct l)) (sym whole) ∙ ap length (after_append [] (take i ns) (drop i (take j ns))) in
    omega (arith, e, grows (distinct (take i ns)) (drop i (take j ns)))

unlike : (m n : ℕ) → m ≢ n → nat_eq m n ≡ false
unlike m n h = elim (eqb_tells m n) [ inl e ↦ absurd (h e.1) | inr e ↦ e.0 ]

-- a number that is none of those before is one more
pub one_more_different : (ns : List ℕ) (i j : ℕ) → i < j → j ≤ length ns → ((k : ℕ) → k < i → get_or ns k 0 ≢ get_or ns i 0) → length (distinct (take i ns)) + 1 ≤ length (distinct (take j ns))
one_more_different ns i j lt le other =
    let seen = distinct (take i ns) in
    let n = get_or ns i 0 in
    let l : length (take i ns) ≡ i = length-take-le i ns (omega arith) in
    let none : All (λ m. nat_eq m n ≡ false) (take i ns) =
    All-from_get_or (λ m. nat_eq m n ≡ false) (take i ns) 0 (λ k h. let b : k < i = omega (arith, h, l) in ap (λ m. nat_eq m n) (get_or-take i ns k 0 b) ∙ unlike (get_or ns k 0) n (other k b)) in
    let new : list_any (λ m. nat_eq m n) seen ≡ false = list_any_none (λ m. nat_eq m n) seen (all_different (λ m. nat_eq m n ≡ false) (take i ns) none) in
    let step : added seen n ≡ distinct (take (i + 1) ns) = distinct_step ns seen (added seen n) i (omega arith) refl refl in
    let e : length (seen ++ n ∷ []) ≡ length (distinct (take (i + 1) ns)) = ap length (added_new seen n new ∙ step) in
    omega (arith, e, length-append seen (n ∷ []), more_of ns (i + 1) j (omega arith))
