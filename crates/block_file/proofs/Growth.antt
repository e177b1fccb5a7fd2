-- Blocks that are taken lie among the first, so what is written into them makes a file no longer than it has to be.
use Rattle.std.proofs.Common.{◌≡◌, ℕ, zero, suc, ◌+◌, ◌-◌, ◌*◌, ◌<◌, ◌≤◌, inl, inr, List, length, get_or, arith, refl}
use Rattle.std.proofs.lemmas.Bool.{cases_eq}
use Rattle.disk_face.specs.Disk.{Torn}
use Rattle.block_file.specs.State.{BlocksState, free_up_to, times, none}
use Rattle.block_file.specs.Words.{Recounts, AreLowestFree}
use Rattle.block_file.specs.Growth.{occupied, AreWithin, EndsWith, GrowsBy}
use Rattle.block_file.proofs.Free.{free-suc, free_zero, free_listed}
use Rattle.block_file.proofs.Times.{times_at}

-- behind the first m blocks no more are free than there are
free_behind : (m n : ℕ) (uses : ℕ → ℕ) → m ≤ n → free_up_to n uses ≤ free_up_to m uses + (n - m)
free_behind m zero uses le = let e : m ≡ 0 = omega arith in rw e (omega arith)
free_behind m (suc n) uses le = elim (cases_eq m (suc n)) [
  | inl e ↦ rw e (omega arith)
  | inr ne ↦ omega (arith, free-suc n uses, free_behind m n uses (omega arith))
]

-- the lowest free blocks lie among as many blocks as are not free, and as many as they are
pub lowest_within : (n : ℕ) (ks : List ℕ) (s : BlocksState) → AreLowestFree n ks s → AreWithin (occupied s + n) ks
lowest_within n ks s lowest k some =
    let here = lowest.free k some in
    let within = here.within in
    let new : ℕ → ℕ = λ j. s.uses j + times ks j in
    let taken = free_listed (s.size - 1) ks s.uses new (λ j. refl) lowest.once (λ j h. let free = lowest.free j h in let inside = free.within in (free.above_zero, omega arith, free.unused)) in
    let full = free_zero k new (λ j above le. used j above le within) in
    omega (arith, lowest.count, taken, full, free_behind k (s.size - 1) new (omega arith), within)
  where
    used : (j : ℕ) → 0 < j → j ≤ k → k < s.size → 0 < s.uses j + times ks j
    used j above le within = elim (cases_eq (s.uses j) 0) [
      | inr ne ↦ omega (arith, ne)
      | inl unused ↦ elim (cases_eq (times ks j) 0) [
        | inr ne ↦ omega (arith, ne)
        | inl none ↦ absurd (omega (arith, lowest.lowest k j some (record { above_zero = above; within = omega arith; unused = unused }) none))
      ]
    ]

-- one of the blocks was written, or was not
pub ends_more : (ks : List ℕ) (i : ℕ) (c0 c1 c2 : List ℕ) → i < length ks → EndsWith ks c0 c1 → Torn (4096 * get_or ks i 0) 4096 c1 c2 → EndsWith ks c0 c2
ends_more ks i c0 c1 c2 inside ends torn n below = omega (arith, ends n below, torn.no_longer, below (get_or ks i 0) (times_at ks i inside))

-- the lowest free blocks were taken, and written
pub grows_taken : (n : ℕ) (ks : List ℕ) (s0 s1 s2 : BlocksState) → AreLowestFree n ks s0 → s1.content ≡ s0.content → EndsWith ks s1.content s2.content → GrowsBy n s0 s2
grows_taken n ks s0 s1 s2 lowest same ends =
    let least = ends (occupied s0 + n) (lowest_within n ks s0 lowest) in
    rw same at least

-- and given back
pub grows_given : (n m : ℕ) (ks : List ℕ) (s0 s1 s2 s3 : BlocksState) → n ≡ m → AreLowestFree n ks s0 → Recounts none (times ks) s0 s1 → EndsWith ks s1.content s2.content → Recounts (times ks) none s2 s3 → GrowsBy m s0 s3
grows_given n m ks s0 s1 s2 s3 many lowest taken ends given =
    let grows = grows_taken n ks s0 s1 s2 lowest taken.content ends in
    rw (given.content, ← many) grows
