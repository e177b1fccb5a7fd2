-- Bytes and the numbers that they read as, the lowest byte first.
use Rattle.std.proofs.Common.{◌≡◌, ℕ, zero, suc, ◌+◌, ◌*◌, ◌^◌, ◌/◌, ◌%◌, ◌<◌, List, [], ◌∷◌, ◌++◌, length, drop, slice_index, refl, sym, ap, ◌∙◌, arith, pow-suc}
use Rattle.std.proofs.Math.Nat.{div-div-eq-div-mul}
use Rattle.std.proofs.Math.Seq.{drop-append_seam}
use Rattle.std.specs.Int.{byte_at, bytes_low_first}
use Rattle.byteorder.specs.Endian.{little_from, little_bytes, little_number}
use Rattle.byteorder.specs.Numbers.{little_from-cons, little_number-reads_back, length-bytes_low_first}

-- the lowest byte stands in front of the bytes of what is left of the number
byte_at-cons : (i b y : ℕ) → b < 256 → byte_at (suc i) (b + 256 * y) ≡ byte_at i y
byte_at-cons zero b y h = omega arith
byte_at-cons (suc i) b y h =
    let q : (b + 256 * y) / 256 ≡ y = omega arith in
    let e : (b + 256 * y) / 256 ^ suc (suc i) ≡ y / 256 ^ suc i =
    ap (λ (p : ℕ). (b + 256 * y) / p) (pow-suc 256 (suc i)) ∙ ap (λ (p : ℕ). (b + 256 * y) / p) (omega arith) ∙ sym (div-div-eq-div-mul (b + 256 * y) 256 (256 ^ suc i)) ∙ ap (λ (p : ℕ). p / 256 ^ suc i) q in
    ap (λ (p : ℕ). p % 256) e

low_first-cons : (k i b y : ℕ) → b < 256 → bytes_low_first (suc i) k (b + 256 * y) ≡ bytes_low_first i k y
low_first-cons zero i b y h = refl
low_first-cons (suc k) i b y h =
    rw (byte_at-cons i b y h, low_first-cons k (suc i) b y h) refl

-- the bytes of the number that n bytes read as are those bytes
pub bytes-number : (n : ℕ) (xs : List ℕ) → length xs ≡ n → ((k : ℕ) → slice_index xs k < 256) → little_bytes n (little_number n xs) ≡ xs
bytes-number zero [] e h = refl
bytes-number zero (x ∷ xs) e h = absurd (omega arith)
bytes-number (suc n) [] e h = absurd (omega arith)
bytes-number (suc n) (x ∷ xs) e h =
    let small : x < 256 = h 0 in
    let moved = little_from-cons 0 n x xs in
    let ih = bytes-number n xs (omega arith) (λ k. h (suc k)) in
    let front : (x + 256 * little_from 0 n xs) % 256 ≡ x = omega arith in
    rw (moved, front, low_first-cons n 0 x (little_from 0 n xs) small, ih) refl

-- two numbers of n bytes whose bytes begin one list are one number, and the same bytes follow
pub same-numbers : (n x y : ℕ) (a b : List ℕ) → x < 256 ^ n → y < 256 ^ n → little_bytes n x ++ a ≡ little_bytes n y ++ b → (x ≡ y) × (a ≡ b)
same-numbers n x y a b hx hy e =
    let lx = length-bytes_low_first 0 n x in
    let ly = length-bytes_low_first 0 n y in
    let dx : drop n (little_bytes n x ++ a) ≡ a = ap (λ (k : ℕ). drop k (little_bytes n x ++ a)) (sym lx) ∙ drop-append_seam (little_bytes n x) a in
    let dy : drop n (little_bytes n y ++ b) ≡ b = ap (λ (k : ℕ). drop k (little_bytes n y ++ b)) (sym ly) ∙ drop-append_seam (little_bytes n y) b in
    (sym (little_number-reads_back n x a hx) ∙ ap (little_from 0 n) e ∙ little_number-reads_back n y b hy, sym dx ∙ ap (drop n) e ∙ dy)
