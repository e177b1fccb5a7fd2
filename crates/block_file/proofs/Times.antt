-- How often a block stands in a list.
use Rattle.std.proofs.Common.{◌≡◌, ◌≢◌, ℕ, ◌+◌, ◌<◌, ◌≤◌, List, [], ◌∷◌, ◌++◌, zero, suc, length, get_or, take, drop, arith, refl}
use Rattle.std.proofs.lemmas.Grind.{common_steps}
use Rattle.std.proofs.lemmas.List.Sums.{sum_by-cons, sum_by_push, sum_by-append}
use Rattle.block_file.specs.State.{one, times}

pub one_same : (b : ℕ) → one b b ≡ 1
one_same b = grind (arith, common_steps)

pub one_other : (b k : ℕ) → b ≢ k → one b k ≡ 0
one_other b k ne = grind (arith, common_steps)

pub times_none : (k : ℕ) → times [] k ≡ 0
unfolding times
times_none k = refl

pub times-cons : (b : ℕ) (ks : List ℕ) (k : ℕ) → times (b ∷ ks) k ≡ one b k + times ks k
unfolding times
times-cons b ks k = sum_by-cons (λ c. one c k) b ks

pub times_push : (ks : List ℕ) (b k : ℕ) → times (ks ++ b ∷ []) k ≡ times ks k + one b k
unfolding times
times_push ks b k = sum_by_push (λ c. one c k) ks b

pub times_append : (xs ys : List ℕ) (k : ℕ) → times (xs ++ ys) k ≡ times xs k + times ys k
unfolding times
times_append xs ys k = sum_by-append (λ c. one c k) xs ys

pub times_more : (ks : List ℕ) (i k : ℕ) → i < length ks → times (take (i + 1) ks) k ≡ times (take i ks) k + one (get_or ks i 0) k
times_more ks i k h = grind (arith, common_steps, times_push (take i ks) (get_or ks i 0) k)

pub times_split : (ks : List ℕ) (i k : ℕ) → times (take i ks) k + times (drop i ks) k ≡ times ks k
times_split ks i k = grind (arith, common_steps, times_append (take i ks) (drop i ks) k)

-- the part from a place on has the block there once more than the part behind it
pub times_drop : (ks : List ℕ) (i k : ℕ) → i < length ks → times (drop i ks) k ≡ one (get_or ks i 0) k + times (drop (i + 1) ks) k
times_drop ks i k h = omega (arith, times_split ks i k, times_split ks (i + 1) k, times_more ks i k h)

-- before a block's place it stands once less at least
pub times_before : (ks : List ℕ) (i : ℕ) → i < length ks → times (take i ks) (get_or ks i 0) < times ks (get_or ks i 0)
times_before ks i h =
    let k : ℕ = get_or ks i 0 in
    omega (arith, times_split ks i k, times_drop ks i k h, one_same k)

pub one_times : (ks : List ℕ) (i : ℕ) → i < length ks → (k : ℕ) → one (get_or ks i 0) k ≤ times ks k
one_times ks i h k = omega (arith, times_split ks i k, times_drop ks i k h)

pub times_at : (ks : List ℕ) (i : ℕ) → i < length ks → 0 < times ks (get_or ks i 0)
times_at ks i h = omega (arith, times_before ks i h)

-- where each block stands at most once, a block has one place
pub one_place : (ks : List ℕ) (i j : ℕ) → ((k : ℕ) → times ks k ≤ 1) → i < length ks → j < length ks → get_or ks i 0 ≡ get_or ks j 0 → i ≡ j
one_place ks zero zero once hi hj e = refl
one_place [] i j once hi hj e = absurd (omega arith)
one_place (b ∷ ks) zero (suc j) once hi hj e = absurd (omega (arith, once b, times-cons b ks b, one_same b, let at = times_at ks j (omega arith) in let at' : 0 < times ks b = rw e at in at'))
one_place (b ∷ ks) (suc i) zero once hi hj e = absurd (omega (arith, once b, times-cons b ks b, one_same b, let at = times_at ks i (omega arith) in let at' : 0 < times ks b = rw (← e) at in at'))
one_place (b ∷ ks) (suc i) (suc j) once hi hj e =
    let rest : i ≡ j = one_place ks i j (λ k. omega (arith, once k, times-cons b ks k)) (omega arith) (omega arith) e in
    omega arith
