-- What does not depend on the order of a list.
use Rattle.std.proofs.Common.{◌≡◌, ℕ, zero, suc, ◌+◌, ◌*◌, ◌<◌, arith, List, [], ◌∷◌, length, get_or, set, refl, sym, ap, ◌∙◌, ℤ, ◌+ℤ◌, Bool, true, false, ◌&&◌, ◌||◌, cond, mul_assoc, mul_comm}
use Rattle.std.specs.List.{swap}
use Rattle.std.specs.List.Sorted.{IsPermutation}
use Rattle.std.proofs.lemmas.List.Sorted.{IsPermutation-keeps}
use Rattle.std.proofs.lemmas.Int.{ints}
use Rattle.wcps_mean.specs.declared.cell.Outcome.{Outcome}
use Rattle.wcps_mean.specs.declared.cell.Outcome.TheVariants.{Value, Fault}
use Rattle.arr_core.specs.Cells.{truth_of}
use Rattle.wcps_mean.specs.Cells.{differ}
use Rattle.wcps_mean.specs.Condensers.{values, total, every, any, trues}
use Rattle.wcps_mean.specs.Best.{greatest_of, least_of}
use Rattle.wcps_mean.specs.Magnitudes.{is_zero, is_negative, magnitude_of, has_zero_of, sign_of, size_of}
use Rattle.tile_kernel.specs.Told.{Told, outcomes}
use Rattle.tile_kernel.proofs.Bests.{top_more, bottom_more, greatest_of-cons, least_of-cons, top_exchange, bottom_exchange}

abbrev folded : {X B : Type 0} → (X → B → B) → B → List X → B
folded f e [] = e
folded f e (x ∷ xs) = f x (folded f e xs)

abbrev Exchanges : {X B : Type 0} → (X → B → B) → Type 0
Exchanges {X} {B} f = (x y : X) (b : B) → f x (f y b) ≡ f y (f x b)

exchanged : {X B : Type 0} (f : X → B → B) → Exchanges f → (e : B) (xs : List X) (j : ℕ) (x d : X) → j < length xs → f (get_or xs j d) (folded f e (set xs j x)) ≡ f x (folded f e xs)
exchanged f h e [] j x d lt = absurd (omega arith)
exchanged f h e (y ∷ ys) zero x d lt = h y x (folded f e ys)
exchanged f h e (y ∷ ys) (suc j) x d lt = h (get_or ys j d) y (folded f e (set ys j x)) ∙ ap (f y) (exchanged f h e ys j x d (omega arith)) ∙ h y x (folded f e ys)

swapped : {X B : Type 0} (f : X → B → B) → Exchanges f → (e : B) (xs : List X) (i j : ℕ) (d : X) → i < length xs → j < length xs → folded f e (set (set xs i (get_or xs j d)) j (get_or xs i d)) ≡ folded f e xs
swapped f h e [] i j d p q = absurd (omega arith)
swapped f h e (y ∷ ys) zero zero d p q = refl
swapped f h e (y ∷ ys) zero (suc j) d p q = exchanged f h e ys j y d (omega arith)
swapped f h e (y ∷ ys) (suc i) zero d p q = exchanged f h e ys i y d (omega arith)
swapped f h e (y ∷ ys) (suc i) (suc j) d p q = ap (f y) (swapped f h e ys i j d (omega arith) (omega arith))

swap_kept : {X B : Type 0} (f : X → B → B) → Exchanges f → (e : B) (xs : List X) (i j : ℕ) → i < length xs → j < length xs → folded f e (swap xs i j) ≡ folded f e xs
swap_kept f h e [] i j p q = absurd (omega arith)
swap_kept f h e (y ∷ ys) i j p q = swapped f h e (y ∷ ys) i j y p q

permuted : {X B : Type 0} (f : X → B → B) → Exchanges f → (e : B) (xs ys : List X) → IsPermutation xs ys → folded f e ys ≡ folded f e xs
permuted f h e xs ys p = IsPermutation-keeps xs (λ l. folded f e l ≡ folded f e xs) refl (λ l i j a b k. swap_kept f h e l i j a b ∙ k) ys p

-- ---- values of points that were told

abbrev on_value : {B : Type 0} → (ℤ → B → B) → Outcome → B → B
on_value h (Value z) b = h z b
on_value h (Fault f) b = b

value_exchanges : {B : Type 0} (h : ℤ → B → B) → Exchanges h → (o p : Outcome) (b : B) → on_value h o (on_value h p b) ≡ on_value h p (on_value h o b)
value_exchanges h e (Value x) (Value y) b = e x y b
value_exchanges h e (Value x) (Fault g) b = refl
value_exchanges h e (Fault f) (Value y) b = refl
value_exchanges h e (Fault f) (Fault g) b = refl

value_first : {B : Type 0} (h : ℤ → B → B) (g : List ℤ → B) → ((z : ℤ) (zs : List ℤ) → g (z ∷ zs) ≡ h z (g zs)) → (o : Outcome) (outs : List Outcome) → g (values (o ∷ outs)) ≡ on_value h o (g (values outs))
value_first h g c (Value z) outs = c z (values outs)
value_first h g c (Fault f) outs = refl

values_folded : {B : Type 0} (h : ℤ → B → B) (g : List ℤ → B) → ((z : ℤ) (zs : List ℤ) → g (z ∷ zs) ≡ h z (g zs)) → (told : List Told) → g (values (outcomes told)) ≡ folded (λ (t : Told) (b : B). on_value h t.1 b) (g []) told
values_folded {B} h g c [] = refl
values_folded {B} h g c (t ∷ told) = value_first h g c t.1 (outcomes told) ∙ ap (on_value h t.1) (values_folded h g c told)

-- what goes over values one by one, in whatever order
values_permuted : {B : Type 0} (h : ℤ → B → B) (g : List ℤ → B) → ((z : ℤ) (zs : List ℤ) → g (z ∷ zs) ≡ h z (g zs)) → Exchanges h → (told more : List Told) → IsPermutation told more → g (values (outcomes told)) ≡ g (values (outcomes more))
values_permuted {B} h g c e told more p =
    values_folded h g c told
    ∙ sym (permuted (λ (t : Told) (b : B). on_value h t.1 b) (λ s t b. value_exchanges h e s.1 t.1 b) (g []) told more p)
    ∙ sym (values_folded h g c more)

or_exchange : (a b c : Bool) → a || (b || c) ≡ b || (a || c)
or_exchange true true c = refl
or_exchange true false c = refl
or_exchange false true c = refl
or_exchange false false c = refl

and_exchange : (a b c : Bool) → a && (b && c) ≡ b && (a && c)
and_exchange true true c = refl
and_exchange true false c = refl
and_exchange false true c = refl
and_exchange false false c = refl

differ_exchange : (a b c : Bool) → differ a (differ b c) ≡ differ b (differ a c)
differ_exchange true true c = refl
differ_exchange true false c = refl
differ_exchange false true c = refl
differ_exchange false false c = refl

times_exchange : (a b c : ℕ) → a * (b * c) ≡ b * (a * c)
times_exchange a b c = sym (mul_assoc a b c) ∙ ap (λ k. k * c) (mul_comm a b) ∙ mul_assoc b a c

pub total-permuted : (told more : List Told) → IsPermutation told more → total (values (outcomes told)) ≡ total (values (outcomes more))
total-permuted = values_permuted (λ z b. z +ℤ b) total (λ z zs. refl) (λ x y b. omega (arith, ints))

pub length-permuted : (told more : List Told) → IsPermutation told more → length (values (outcomes told)) ≡ length (values (outcomes more))
length-permuted = values_permuted (λ z b. suc b) length (λ z zs. refl) (λ x y b. refl)

pub trues-permuted : (told more : List Told) → IsPermutation told more → trues (values (outcomes told)) ≡ trues (values (outcomes more))
trues-permuted = values_permuted (λ z b. cond (truth_of z) 1 0 + b) trues (λ z zs. refl) (λ x y b. omega arith)

pub every-permuted : (told more : List Told) → IsPermutation told more → every (values (outcomes told)) ≡ every (values (outcomes more))
every-permuted = values_permuted (λ z b. truth_of z && b) every (λ z zs. refl) (λ x y b. and_exchange (truth_of x) (truth_of y) b)

pub any-permuted : (told more : List Told) → IsPermutation told more → any (values (outcomes told)) ≡ any (values (outcomes more))
any-permuted = values_permuted (λ z b. truth_of z || b) any (λ z zs. refl) (λ x y b. or_exchange (truth_of x) (truth_of y) b)

pub has_zero-permuted : (told more : List Told) → IsPermutation told more → has_zero_of (values (outcomes told)) ≡ has_zero_of (values (outcomes more))
has_zero-permuted = values_permuted (λ z b. is_zero z || b) has_zero_of (λ z zs. refl) (λ x y b. or_exchange (is_zero x) (is_zero y) b)

pub sign-permuted : (told more : List Told) → IsPermutation told more → sign_of (values (outcomes told)) ≡ sign_of (values (outcomes more))
sign-permuted = values_permuted (λ z b. differ (is_negative z) b) sign_of (λ z zs. refl) (λ x y b. differ_exchange (is_negative x) (is_negative y) b)

pub size-permuted : (told more : List Told) → IsPermutation told more → size_of (values (outcomes told)) ≡ size_of (values (outcomes more))
size-permuted = values_permuted (λ z b. magnitude_of z * b) size_of (λ z zs. refl) (λ x y b. times_exchange (magnitude_of x) (magnitude_of y) b)

pub greatest-permuted : (told more : List Told) → IsPermutation told more → greatest_of (values (outcomes told)) ≡ greatest_of (values (outcomes more))
greatest-permuted = values_permuted top_more greatest_of greatest_of-cons top_exchange

pub least-permuted : (told more : List Told) → IsPermutation told more → least_of (values (outcomes told)) ≡ least_of (values (outcomes more))
least-permuted = values_permuted bottom_more least_of least_of-cons bottom_exchange
