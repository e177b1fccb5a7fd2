-- The test of a domain decides whether it is one.
use Rattle.std.proofs.Common.{ℕ, ◌≤◌, ◌^◌, List, [], ◌∷◌, length, Decides, Contains, refl, arith, ℤ, ◌≤ℤ◌}
use Rattle.std.specs.Prelude.{nat_le, int_le}
use Rattle.std.specs.Str.{bytes_eq}
use Rattle.std.specs.List.{list_any}
use Rattle.std.specs.Cmp.Lexicographic.{nat_list_eq_equiv}
use Rattle.std.proofs.lemmas.Bool.Decides.{Decides-and, Decides-not, Decides-like, nat_tests}
use Rattle.std.proofs.lemmas.Map.Views.{Contains-from_any, list_any-from_Contains}
use Rattle.std.proofs.lemmas.Slice.Eq.{bytes_eq-Decides}
use Rattle.std.proofs.lemmas.Int.{ints}
use Rattle.arr_core.specs.declared.domain.Axis.{Axis}
use Rattle.arr_core.specs.Names.{AreDistinct}
use Rattle.arr_core.specs.Domains.{count, names_of, AreOrdered, IsDomain}
use Rattle.wcps_types.specs.Boxes.{are_distinct, are_ordered, is_domain}

Decides-leb : (a b : ℕ) → Decides (nat_le a b) (a ≤ b)
Decides-leb a b = (λ h. grind (arith, nat_tests), λ h. grind (arith, nat_tests))

Decides-int_le : (a b : ℤ) → Decides (int_le a b) (a ≤ℤ b)
Decides-int_le a b = (λ h. grind (arith, ints), λ h. grind (arith, ints))

Decides-Contains : (x : List ℕ) (xs : List (List ℕ)) → Decides (list_any (bytes_eq x) xs) (Contains xs x)
Decides-Contains x xs = (Contains-from_any {eq = bytes_eq} (λ y z. (bytes_eq-Decides y z).0) x xs, list_any-from_Contains {eq = bytes_eq} nat_list_eq_equiv x xs)

Decides-distinct : (xs : List (List ℕ)) → Decides (are_distinct xs) (AreDistinct xs)
Decides-distinct [] = (λ _. tt, λ _. refl)
Decides-distinct (x ∷ xs) = Decides-and _ _ (Decides-not _ (Decides-Contains x xs)) (Decides-distinct xs)

Decides-ordered : (axes : List Axis) → Decides (are_ordered axes) (AreOrdered axes)
Decides-ordered [] = (λ _. tt, λ _. refl)
Decides-ordered (a ∷ axes) = Decides-and _ _ (Decides-int_le a.lo a.hi) (Decides-ordered axes)

pub Decides-domain : (axes : List Axis) → Decides (is_domain axes) (IsDomain axes)
Decides-domain axes =
    let parts = Decides-and _ _ (Decides-and _ _ (Decides-leb (length axes) 6) (Decides-distinct (names_of axes))) (Decides-and _ _ (Decides-ordered axes) (Decides-leb (count axes) (2 ^ 24))) in
    Decides-like (is_domain axes) (λ p. record { few_axes = p.0.0; distinct = p.0.1; ordered = p.1.0; few_points = p.1.1 }) (λ (d : IsDomain axes). ((d.few_axes, d.distinct), (d.ordered, d.few_points))) parts
