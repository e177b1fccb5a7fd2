-- Quotients and remainders of one place after the other.
use Rattle.std.proofs.Common.{◌≡◌, ℕ, ◌+◌, ◌*◌, ◌/◌, ◌%◌, ◌<◌, ◌≤◌, sym, ap, ◌∙◌, arith, ℤ, pos, ◌+ℤ◌}
use Rattle.std.proofs.lemmas.Nat.{div-add-mod', div-mul-add, mod-mul-add, mod_below}
use Rattle.std.proofs.Math.Nat.{add-mul}
use Rattle.arr_core.specs.Domains.{gap}
use Rattle.tile_columns.specs.Frames.{turn}

-- the same coordinate once more
pub stays : (p e : ℕ) → p % e + 1 < e → ((p + 1) / e ≡ p / e) × ((p + 1) % e ≡ p % e + 1)
stays p e lt =
    let whole : p + 1 ≡ p / e * e + (p % e + 1) = omega (arith, div-add-mod' p e) in
    (ap (λ n. n / e) whole ∙ div-mul-add (p / e) e (p % e + 1) lt, ap (λ n. n % e) whole ∙ mod-mul-add (p / e) e (p % e + 1) lt)

-- the next coordinate
pub goes_on : (p e : ℕ) → 0 < e → e ≤ p % e + 1 → ((p + 1) / e ≡ p / e + 1) × ((p + 1) % e ≡ 0)
goes_on p e some le =
    let below = mod_below p e some in
    let more : (p / e + 1) * e ≡ p / e * e + e = omega (arith, add-mul (p / e) 1 e) in
    let whole : p + 1 ≡ (p / e + 1) * e + 0 = omega (arith, div-add-mod' p e, more) in
    (ap (λ n. n / e) whole ∙ div-mul-add (p / e + 1) e 0 some, ap (λ n. n % e) whole ∙ mod-mul-add (p / e + 1) e 0 some)

-- where the coordinates stand at the next place: the same one again
pub turned_same : (place every m step times : ℕ) → step ≡ (place / every) % m → times ≡ place % every → times + 1 < every → (step ≡ ((place + 1) / every) % m) × (times + 1 ≡ (place + 1) % every)
turned_same place every m step times s t lt =
    let n = stays place every (omega (arith, t)) in
    (s ∙ ap (λ q. q % m) (sym n.0), ap (λ x. x + 1) t ∙ sym n.1)

-- the one above
pub turned_up : (place every last step times : ℕ) → step ≡ (place / every) % (last + 1) → times ≡ place % every → times < every → every ≤ times + 1 → step < last → (step + 1 ≡ ((place + 1) / every) % (last + 1)) × (0 ≡ (place + 1) % every)
turned_up place every last step times s t below le lt =
    let n = goes_on place every (omega arith) (omega (arith, t)) in
    let u = stays (place / every) (last + 1) (omega (arith, s)) in
    (ap (λ x. x + 1) s ∙ sym u.1 ∙ ap (λ q. q % (last + 1)) (sym n.0), sym n.1)

-- the first one again
pub turned_over : (place every last step times : ℕ) → step ≡ (place / every) % (last + 1) → times ≡ place % every → times < every → every ≤ times + 1 → last ≤ step → (0 ≡ ((place + 1) / every) % (last + 1)) × (0 ≡ (place + 1) % every)
turned_over place every last step times s t below le lt =
    let n = goes_on place every (omega arith) (omega (arith, t)) in
    let u = goes_on (place / every) (last + 1) (omega arith) (omega (arith, s)) in
    (sym u.1 ∙ ap (λ q. q % (last + 1)) (sym n.0), sym n.1)

-- at the first place
pub turn_start : (every last : ℕ) → 0 < every → (0 ≡ (0 / every) % (last + 1)) × (0 ≡ 0 % every)
turn_start every last some =
    let more : 0 < last + 1 = omega arith in
    let none : 0 ≡ 0 * every + 0 = omega arith in
    let quotient : 0 / every ≡ 0 = ap (λ n. n / every) none ∙ div-mul-add 0 every 0 some in
    let rest : 0 % every ≡ 0 = ap (λ n. n % every) none ∙ mod-mul-add 0 every 0 some in
    let again : 0 ≡ 0 * (last + 1) + 0 = omega arith in
    (sym (ap (λ q. q % (last + 1)) (quotient ∙ again) ∙ mod-mul-add 0 (last + 1) 0 more), sym rest)

-- the coordinate at a place
pub turn_here : (lo hi : ℤ) (every place last step : ℕ) → step ≡ (place / every) % (last + 1) → last ≡ gap lo hi → lo +ℤ pos step ≡ turn lo hi every place
turn_here lo hi every place last step s l = ap (λ q. lo +ℤ pos q) (s ∙ ap (λ m. (place / every) % (m + 1)) l)
