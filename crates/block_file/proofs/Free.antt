-- How many blocks are free.
use Rattle.std.proofs.Common.{◌≡◌, ◌≢◌, ℕ, ◌+◌, ◌-◌, ◌<◌, ◌≤◌, inl, inr, zero, suc, List, [], ◌∷◌, length, arith, refl, ap, sym}
use Rattle.std.proofs.lemmas.Bool.{cases_eq}
use Rattle.block_file.specs.State.{free_up_to, one, times}
use Rattle.block_file.proofs.Times.{one_same, one_other, times_none, times-cons}

pub free_none : (uses : ℕ → ℕ) → free_up_to 0 uses ≡ 0
unfolding free_up_to
free_none uses = refl

pub free-suc : (n : ℕ) (uses : ℕ → ℕ) → free_up_to (suc n) uses ≡ free_up_to n uses + (1 - uses (suc n))
unfolding free_up_to
free-suc n uses = refl

pub free_le : (n : ℕ) (uses : ℕ → ℕ) → free_up_to n uses ≤ n
free_le zero uses = omega (arith, free_none uses)
free_le (suc n) uses = omega (arith, free-suc n uses, free_le n uses)

-- where the same blocks are free
pub free_same : (n : ℕ) (old new : ℕ → ℕ) → ((k : ℕ) → 0 < k → k ≤ n → 1 - new k ≡ 1 - old k) → free_up_to n new ≡ free_up_to n old
free_same zero old new same = omega (arith, free_none old, free_none new)
free_same (suc n) old new same =
    omega (arith, free-suc n old, free-suc n new, free_same n old new (λ k a b. same k a (omega arith)), same (suc n) (omega arith) (omega arith))

-- where all blocks but one are used as before
pub free_one : (n k : ℕ) (old new : ℕ → ℕ) → 0 < k → k ≤ n → ((j : ℕ) → j ≢ k → new j ≡ old j) → free_up_to n new + (1 - old k) ≡ free_up_to n old + (1 - new k)
free_one zero k old new above le others = absurd (omega arith)
free_one (suc n) k old new above le others = elim (cases_eq k (suc n)) [
  | inl e ↦ rw e (omega (arith, free-suc n old, free-suc n new, free_same n old new (λ j a b. ap (λ m. 1 - m) (others j (omega arith)))))
  | inr ne ↦ omega (arith, free-suc n old, free-suc n new, free_one n k old new above (omega arith) others, others (suc n) (omega arith))
]

-- one use more of a block that was free
free_more : (n b : ℕ) (uses : ℕ → ℕ) → 0 < b → b ≤ n → uses b ≡ 0 → free_up_to n (λ k. uses k + one b k) + 1 ≡ free_up_to n uses
free_more n b uses above le free =
    omega (arith, free, one_same b, free_one n b uses (λ k. uses k + one b k) above le (λ j ne. omega (arith, one_other b j (λ e. ne (sym e)))))

-- the blocks behind the first m are all free
pub free_past : (m n : ℕ) (uses : ℕ → ℕ) → m ≤ n → ((k : ℕ) → m < k → k ≤ n → uses k ≡ 0) → free_up_to n uses ≡ free_up_to m uses + (n - m)
free_past m zero uses le free = let e : m ≡ 0 = omega arith in rw e (omega arith)
free_past m (suc n) uses le free = elim (cases_eq m (suc n)) [
  | inl e ↦ rw e (omega arith)
  | inr ne ↦ omega (arith, free-suc n uses, free_past m n uses (omega arith) (λ k a b. free k a (omega arith)), free (suc n) (omega arith) (omega arith))
]

-- no block up to n is free
pub free_zero : (n : ℕ) (uses : ℕ → ℕ) → ((k : ℕ) → 0 < k → k ≤ n → 0 < uses k) → free_up_to n uses ≡ 0
free_zero zero uses used = free_none uses
free_zero (suc n) uses used = omega (arith, free-suc n uses, free_zero n uses (λ k a b. used k a (omega arith)), used (suc n) (omega arith) (omega arith))

-- free blocks are put in use, each once
pub free_listed : (n : ℕ) (ks : List ℕ) (old new : ℕ → ℕ) → ((k : ℕ) → new k ≡ old k + times ks k) → ((k : ℕ) → times ks k ≤ 1)
    → ((k : ℕ) → 0 < times ks k → (0 < k) × (k ≤ n) × (old k ≡ 0)) → free_up_to n new + length ks ≡ free_up_to n old
free_listed n [] old new counts once free =
    omega (arith, free_same n old new (λ k a b. omega (arith, counts k, times_none k)))
free_listed n (b ∷ ks) old new counts once free =
    let here = free b (omega (arith, times-cons b ks b, one_same b)) in
    let rest = free_listed n ks (λ k. old k + one b k) new (λ k. omega (arith, counts k, times-cons b ks k)) (λ k. omega (arith, once k, times-cons b ks k))
    (λ k h. let of = free k (omega (arith, times-cons b ks k)) in (of.0, of.1, omega (arith, of.2, once k, times-cons b ks k))) in
    omega (arith, rest, free_more n b old here.0 here.1 here.2)

-- so many blocks, none of them twice, are free
pub free_enough : (n m : ℕ) (block : ℕ → ℕ) (uses : ℕ → ℕ) → ((i : ℕ) → i < m → (0 < block i) × (block i ≤ n) × (uses (block i) ≡ 0))
    → ((i j : ℕ) → i < m → j < m → block i ≡ block j → i ≡ j) → m ≤ free_up_to n uses
free_enough n zero block uses free distinct = omega arith
free_enough n (suc m) block uses free distinct =
    let last = free m (omega arith) in
    let apart : (i : ℕ) → i < m → block m ≢ block i = λ i lt e. let same = distinct m i (omega arith) (omega arith) e in omega arith in
    let rest = free_enough n m block (λ k. uses k + one (block m) k)
    (λ i lt. let of = free i (omega arith) in (of.0, of.1, omega (arith, of.2, one_other (block m) (block i) (apart i lt))))
    (λ i j hi hj. distinct i j (omega arith) (omega arith)) in
    omega (arith, rest, free_more n (block m) uses last.0 last.1 last.2)
