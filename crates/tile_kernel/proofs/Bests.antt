-- The greatest and the least of values.
use Rattle.std.proofs.Common.{◌≡◌, arith, List, [], ◌∷◌, ◌++◌, refl, sym, ap, ◌∙◌, ℤ, ◌≤ℤ◌, ◌<ℤ◌, Option, Some, None, ◌⊎◌, inl, inr}
use Rattle.std.proofs.lemmas.Int.{ints, by_lt_z}
use Rattle.wcps_text.specs.declared.operator.Aggregate.TheVariants.{Greatest, Least}
use Rattle.wcps_mean.specs.Condensers.{larger, smaller, greatest, least}
use Rattle.wcps_mean.specs.Best.{greatest_of, least_of}
use Rattle.tile_kernel.specs.Joins.{best_both}

-- ---- the larger of two

larger_high : (x y : ℤ) → x ≤ℤ y → larger x y ≡ y
larger_high x y h = grind (arith, ints)

larger_low : (x y : ℤ) → y <ℤ x → larger x y ≡ x
larger_low x y h = grind (arith, ints)

record IsLarger (m x y : ℤ) : Type 0 where
  left : x ≤ℤ m
  right : y ≤ℤ m
  one : (m ≡ x) ⊎ (m ≡ y)

larger_is : (x y : ℤ) → IsLarger (larger x y) x y
larger_is x y = by_lt_z y x
    (λ l. let e = larger_low x y l in record { left = omega (arith, ints); right = omega (arith, ints); one = inl e })
    (λ l. let e = larger_high x y l in record { left = omega (arith, ints); right = omega (arith, ints); one = inr e })

larger_one : (m n x y : ℤ) → IsLarger m x y → x ≤ℤ n → y ≤ℤ n → m ≤ℤ n
larger_one m n x y h a b = elim h.one [ inl e ↦ omega (arith, ints) | inr e ↦ omega (arith, ints) ]

larger_comm : (x y : ℤ) → larger x y ≡ larger y x
larger_comm x y =
    let a = larger_is x y in
    let b = larger_is y x in
    let p = larger_one (larger x y) (larger y x) x y a b.right b.left in
    let q = larger_one (larger y x) (larger x y) y x b a.right a.left in
    omega (arith, ints)

larger_assoc : (x y z : ℤ) → larger (larger x y) z ≡ larger x (larger y z)
larger_assoc x y z =
    let a = larger_is x y in
    let b = larger_is (larger x y) z in
    let c = larger_is y z in
    let d = larger_is x (larger y z) in
    let i : larger x y ≤ℤ larger x (larger y z) = larger_one (larger x y) (larger x (larger y z)) x y a d.left (omega (arith, ints, c.left, d.right)) in
    let p = larger_one (larger (larger x y) z) (larger x (larger y z)) (larger x y) z b i (omega (arith, ints, c.right, d.right)) in
    let j : larger y z ≤ℤ larger (larger x y) z = larger_one (larger y z) (larger (larger x y) z) y z c (omega (arith, ints, a.right, b.left)) b.right in
    let q = larger_one (larger x (larger y z)) (larger (larger x y) z) x (larger y z) d (omega (arith, ints, a.left, b.left)) j in
    omega (arith, ints)

greatest_pull : (z w : ℤ) (ws : List ℤ) → greatest (larger z w) ws ≡ larger z (greatest w ws)
greatest_pull z w [] = refl
greatest_pull z w (v ∷ ws) = ap (λ m. greatest m ws) (larger_assoc z w v) ∙ greatest_pull z (larger w v) ws

-- with one value before the others
abbrev pub top_more : ℤ → Option ℤ → Option ℤ
top_more z None = Some z
top_more z (Some m) = Some (larger z m)

pub greatest_of-cons : (z : ℤ) (zs : List ℤ) → greatest_of (z ∷ zs) ≡ top_more z (greatest_of zs)
greatest_of-cons z [] = refl
greatest_of-cons z (w ∷ ws) = ap Some (greatest_pull z w ws)

pub top_exchange : (x y : ℤ) (b : Option ℤ) → top_more x (top_more y b) ≡ top_more y (top_more x b)
top_exchange x y None = ap Some (larger_comm x y)
top_exchange x y (Some m) = ap Some (sym (larger_assoc x y m) ∙ ap (λ n. larger n m) (larger_comm x y) ∙ larger_assoc y x m)

top_of_more : (z : ℤ) (a b : Option ℤ) → top_more z (best_both Greatest a b) ≡ best_both Greatest (top_more z a) b
top_of_more z None None = refl
top_of_more z None (Some y) = refl
top_of_more z (Some x) None = refl
top_of_more z (Some x) (Some y) = ap Some (sym (larger_assoc z x y))

pub greatest_of-append : (zs ws : List ℤ) → greatest_of (zs ++ ws) ≡ best_both Greatest (greatest_of zs) (greatest_of ws)
greatest_of-append [] ws = refl
greatest_of-append (z ∷ zs) ws =
    greatest_of-cons z (zs ++ ws) ∙ ap (top_more z) (greatest_of-append zs ws) ∙ top_of_more z (greatest_of zs) (greatest_of ws)
    ∙ ap (λ o. best_both Greatest o (greatest_of ws)) (sym (greatest_of-cons z zs))

-- ---- the smaller of two

smaller_high : (x y : ℤ) → x ≤ℤ y → smaller x y ≡ x
smaller_high x y h = grind (arith, ints)

smaller_low : (x y : ℤ) → y <ℤ x → smaller x y ≡ y
smaller_low x y h = grind (arith, ints)

record IsSmaller (m x y : ℤ) : Type 0 where
  left : m ≤ℤ x
  right : m ≤ℤ y
  one : (m ≡ x) ⊎ (m ≡ y)

smaller_is : (x y : ℤ) → IsSmaller (smaller x y) x y
smaller_is x y = by_lt_z y x
    (λ l. let e = smaller_low x y l in record { left = omega (arith, ints); right = omega (arith, ints); one = inr e })
    (λ l. let e = smaller_high x y l in record { left = omega (arith, ints); right = omega (arith, ints); one = inl e })

smaller_one : (m n x y : ℤ) → IsSmaller m x y → n ≤ℤ x → n ≤ℤ y → n ≤ℤ m
smaller_one m n x y h a b = elim h.one [ inl e ↦ omega (arith, ints) | inr e ↦ omega (arith, ints) ]

smaller_comm : (x y : ℤ) → smaller x y ≡ smaller y x
smaller_comm x y =
    let a = smaller_is x y in
    let b = smaller_is y x in
    let p = smaller_one (smaller x y) (smaller y x) x y a b.right b.left in
    let q = smaller_one (smaller y x) (smaller x y) y x b a.right a.left in
    omega (arith, ints)

smaller_assoc : (x y z : ℤ) → smaller (smaller x y) z ≡ smaller x (smaller y z)
smaller_assoc x y z =
    let a = smaller_is x y in
    let b = smaller_is (smaller x y) z in
    let c = smaller_is y z in
    let d = smaller_is x (smaller y z) in
    let i : smaller x (smaller y z) ≤ℤ smaller x y = smaller_one (smaller x y) (smaller x (smaller y z)) x y a d.left (omega (arith, ints, c.left, d.right)) in
    let p = smaller_one (smaller (smaller x y) z) (smaller x (smaller y z)) (smaller x y) z b i (omega (arith, ints, c.right, d.right)) in
    let j : smaller (smaller x y) z ≤ℤ smaller y z = smaller_one (smaller y z) (smaller (smaller x y) z) y z c (omega (arith, ints, a.right, b.left)) b.right in
    let q = smaller_one (smaller x (smaller y z)) (smaller (smaller x y) z) x (smaller y z) d (omega (arith, ints, a.left, b.left)) j in
    omega (arith, ints)

least_pull : (z w : ℤ) (ws : List ℤ) → least (smaller z w) ws ≡ smaller z (least w ws)
least_pull z w [] = refl
least_pull z w (v ∷ ws) = ap (λ m. least m ws) (smaller_assoc z w v) ∙ least_pull z (smaller w v) ws

-- with one value before the others
abbrev pub bottom_more : ℤ → Option ℤ → Option ℤ
bottom_more z None = Some z
bottom_more z (Some m) = Some (smaller z m)

pub least_of-cons : (z : ℤ) (zs : List ℤ) → least_of (z ∷ zs) ≡ bottom_more z (least_of zs)
least_of-cons z [] = refl
least_of-cons z (w ∷ ws) = ap Some (least_pull z w ws)

pub bottom_exchange : (x y : ℤ) (b : Option ℤ) → bottom_more x (bottom_more y b) ≡ bottom_more y (bottom_more x b)
bottom_exchange x y None = ap Some (smaller_comm x y)
bottom_exchange x y (Some m) = ap Some (sym (smaller_assoc x y m) ∙ ap (λ n. smaller n m) (smaller_comm x y) ∙ smaller_assoc y x m)

bottom_of_more : (z : ℤ) (a b : Option ℤ) → bottom_more z (best_both Least a b) ≡ best_both Least (bottom_more z a) b
bottom_of_more z None None = refl
bottom_of_more z None (Some y) = refl
bottom_of_more z (Some x) None = refl
bottom_of_more z (Some x) (Some y) = ap Some (sym (smaller_assoc z x y))

pub least_of-append : (zs ws : List ℤ) → least_of (zs ++ ws) ≡ best_both Least (least_of zs) (least_of ws)
least_of-append [] ws = refl
least_of-append (z ∷ zs) ws =
    least_of-cons z (zs ++ ws) ∙ ap (bottom_more z) (least_of-append zs ws) ∙ bottom_of_more z (least_of zs) (least_of ws)
    ∙ ap (λ o. best_both Least o (least_of ws)) (sym (least_of-cons z zs))
