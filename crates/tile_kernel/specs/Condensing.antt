-- Condensers of points of one box.
use Rattle.std.specs.Prelude.{◌≡◌, ℕ, ◌+◌, ◌<◌, ◌≤◌, length, slice_index_or, ℤ, List, ◌++◌, Option}
use Rattle.std.specs.List.Sorted.{IsPermutation}
use Rattle.wcps_mean.specs.declared.cell.PointFault.{PointFault}
use Rattle.wcps_mean.specs.declared.cell.Outcome.{Outcome}
use Rattle.wcps_mean.specs.Condensers.{values, combined}
use Rattle.wcps_text.specs.declared.operator.Aggregate.{Aggregate}
use Rattle.tile_kernel.specs.declared.accumulator.Accumulator.{Accumulator}
use Rattle.tile_kernel.specs.Told.{Told, outcomes, IsFirst, ComesTo}
use Rattle.tile_kernel.specs.Standing.{Stands, EachStands}

-- what stands for points stands for them in whatever order they are told
abbrev pub IsUnordered : {C : Type 0} → (C → List Told → Type 0) → Type 0
IsUnordered stands = (c : _) (told other : List Told) → IsPermutation told other → stands c told → stands c other

-- kept of points' values, in whatever order they are told, it gives their combination
abbrev pub CombinesTo : Aggregate → (List ℤ → Type 0) → Outcome → Type 0
CombinesTo op keeps o = (told ordered : List Told) → IsPermutation told ordered → keeps (values (outcomes told))
    → o ≡ combined op (values (outcomes ordered))

-- one stands for the points of two others together
abbrev pub StandsForBoth : {C : Type 0} → (C → List Told → Type 0) → C → C → C → Type 0
StandsForBoth stands a b both = (told more : List Told) → stands a told → stands b more → stands both (told ++ more)

-- the fault at the least place, and what is kept of the values
pub record IsKept {S : Type 0} (keeps : S → List ℤ → Type 0) (s : S) (fault : Option PointFault) (place : ℕ)
    (told : List Told) : Type 0 where
  pub faulted : IsFirst fault place told
  pub kept : keeps s (values (outcomes told))

-- the same, of points that were told in some other order
abbrev pub IsKeptOf : {S : Type 0} → (S → List ℤ → Type 0) → S → Option PointFault → ℕ → List Told → Type 0
IsKeptOf keeps s fault place told = (list : List Told) × IsPermutation list told × IsKept keeps s fault place list

-- it stands for whatever so many points have this
abbrev pub StandsForAll : ℕ → (List Told → Type 0) → Accumulator → Type 0
StandsForAll n have a = (told : List Told) → length told ≡ n → have told → Stands a told

-- in whatever order the points of two are told, it comes to what the condenser makes of them in row-major order
abbrev pub ComesToBoth : {C : Type 0} → Aggregate → (C → List Told → Type 0) → C → C → Outcome → Type 0
ComesToBoth op stands a b o = (told more all : List Told) → stands a told → stands b more
    → IsPermutation (told ++ more) all → ComesTo op all o

-- each condenser in a list stands for points of its own
abbrev pub EachStandsFor : {C : Type 0} → (C → List Told → Type 0) → List C → (ℕ → List Told) → Type 0
EachStandsFor stands condensers told =
    (k : ℕ) (d : _) → k < length condensers → stands (slice_index_or condensers k d) (told k)

-- each takes in points of its own
abbrev pub EachIsTold : {C : Type 0} → (C → List Told → Type 0) → List C → List C → (ℕ → List Told) → Type 0
EachIsTold stands before after more =
    (told : ℕ → List Told) → EachStandsFor stands before told → EachStandsFor stands after (λ k. told k ++ more k)

-- each counts at most n values more
abbrev pub EachCountsMore : {C : Type 0} → (C → ℕ) → ℕ → List C → List C → Type 0
EachCountsMore counted n before after =
    (k : ℕ) (d : _) → k < length before → counted (slice_index_or after k d) ≤ counted (slice_index_or before k d) + n

-- accumulators stand for what these condensers stand for
abbrev pub StandForSame : {C : Type 0} → (C → List Told → Type 0) → List C → List Accumulator → Type 0
StandForSame stands condensers folds =
    (told : ℕ → List Told) → EachStandsFor stands condensers told → EachStands folds told
