-- Where a line stood a cell before.
use Rattle.std.proofs.Common.{◌≡◌, ℕ, ◌+◌, ◌-◌, ◌*◌, ◌/◌, ◌%◌, ◌<◌, ◌≤◌, inl, inr, sym, ap, ◌∙◌, arith, mod-lt, eq-zero-or-pos}
use Rattle.std.proofs.lemmas.Nat.{div-add-mod', div-mul-add, mod-mul-add}

-- within a group of f
within : (n f : ℕ) → 0 < f → 0 < n % f → ((n - 1) % f ≡ n % f - 1) × ((n - 1) / f ≡ n / f)
within n f pos some =
    let e : n / f * f + (n % f - 1) ≡ n - 1 = omega (arith, div-add-mod' n f) in
    let less : n % f - 1 < f = omega (arith, mod-lt n pos) in
    (sym (ap (λ (m : ℕ). m % f) e) ∙ mod-mul-add (n / f) f (n % f - 1) less, sym (ap (λ (m : ℕ). m / f) e) ∙ div-mul-add (n / f) f (n % f - 1) less)

-- the groups before a place where one begins are some
positive : (n f : ℕ) → 0 < n → n % f ≡ 0 → 0 < n / f
positive n f some z =
    elim (eq-zero-or-pos (n / f)) [
      | inl e ↦ let none : n / f * f ≡ 0 = ap (λ (q : ℕ). q * f) e ∙ omega arith in absurd (omega (arith, div-add-mod' n f, none))
      | inr g ↦ g
    ]

-- where a group of f begins
begin : (n f p : ℕ) → 0 < f → (p + 1) * f ≡ n → ((n - 1) % f ≡ f - 1) × ((n - 1) / f ≡ p)
begin n f p pos h =
    let e : p * f + (f - 1) ≡ n - 1 = omega (arith, h) in
    (sym (ap (λ (m : ℕ). m % f) e) ∙ mod-mul-add p f (f - 1) (omega arith), sym (ap (λ (m : ℕ). m / f) e) ∙ div-mul-add p f (f - 1) (omega arith))

begins : (n f : ℕ) → 0 < f → 0 < n → n % f ≡ 0 → ((n - 1) % f ≡ f - 1) × ((n - 1) / f ≡ n / f - 1)
begins n f pos some z =
    let more = positive n f some z in
    let q : n / f - 1 + 1 ≡ n / f = omega arith in
    begin n f (n / f - 1) pos (ap (λ (k : ℕ). k * f) q ∙ omega (arith, div-add-mod' n f))

pub before-field : (w f l x y : ℕ) → 0 < f → x ≡ w % f → y ≡ w / f % l → 0 < x → (x - 1 ≡ (w - 1) % f) × (y ≡ (w - 1) / f % l)
before-field w f l x y pos ex ey some =
    let b = within w f pos (omega (arith, ex)) in
    (ap (λ (k : ℕ). k - 1) ex ∙ sym b.0, ey ∙ ap (λ (q : ℕ). q % l) (sym b.1))

pub before-point : (w f l x y : ℕ) → 0 < f → 0 < l → 0 < w → x ≡ w % f → y ≡ w / f % l → x ≤ 0 → 0 < y → (f - 1 ≡ (w - 1) % f) × (y - 1 ≡ (w - 1) / f % l)
before-point w f l x y pos long some ex ey none more =
    let b = begins w f pos some (omega (arith, ex)) in
    let c = within (w / f) l long (omega (arith, ey)) in
    (sym b.0, ap (λ (k : ℕ). k - 1) ey ∙ sym c.0 ∙ ap (λ (q : ℕ). q % l) (sym b.1))

pub before-line : (w f l x y : ℕ) → 0 < f → 0 < l → 0 < w → x ≡ w % f → y ≡ w / f % l → x ≤ 0 → y ≤ 0 → (f - 1 ≡ (w - 1) % f) × (l - 1 ≡ (w - 1) / f % l)
before-line w f l x y pos long some ex ey none end =
    let b = begins w f pos some (omega (arith, ex)) in
    let c = begins (w / f) l long (positive w f some (omega (arith, ex))) (omega (arith, ey)) in
    (sym b.0, sym c.0 ∙ ap (λ (q : ℕ). q % l) (sym b.1))
