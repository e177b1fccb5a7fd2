-- What a fold lists at a place.
use Rattle.std.specs.Prelude.{◌≡◌, ◌≢◌, ℕ, suc, ◌+◌, ◌<◌, ◌≤◌, ℤ, List, [], ◌∷◌, ◌++◌, map, length, slice_index_or}
use Rattle.std.specs.List.{range_with_len}
use Rattle.arr_core.specs.declared.domain.Axis.{Axis}
use Rattle.arr_core.specs.Domains.{rank_of}
use Rattle.arr_core.specs.Limits.{max_points}
use Rattle.wcps_text.specs.declared.operator.Aggregate.{Aggregate}
use Rattle.wcps_mean.specs.declared.cell.Outcome.{Outcome}
use Rattle.tile_kernel.specs.declared.accumulator.Accumulator.{Accumulator}
use Rattle.wcps_mean.specs.Condensers.{condensed}
use Rattle.tile_kernel.specs.Told.{Told, demanded_of, outcomes, AreRising}
use Rattle.tile_kernel.specs.Standing.{Stands, TakesIn, AreOf, EachStands}

-- what points of a fold's box add, the first of them the n-th of the box; c is the condition and e the body
abbrev pub told_of : (List ℤ → Outcome) → (List ℤ → Outcome) → ℕ → List (List ℤ) → List Told
told_of c e n [] = []
told_of c e n (x ∷ xs) = demanded_of n (c x) (e x) ++ told_of c e (suc n) xs

-- a body at the points of a fold's box, under these variables
abbrev pub under_vars : (List ℤ → Outcome) → List ℤ → List ℤ → Outcome
under_vars e vars x = e (vars ++ x)

-- what a point of a fold's box adds under these variables, at the point's place in the box
abbrev pub told_ranked : List Axis → (List ℤ → Outcome) → (List ℤ → Outcome) → List ℤ → List ℤ → List Told
told_ranked box c e vars x = demanded_of (rank_of box x) (under_vars c vars x) (under_vars e vars x)

-- the accumulator at a place takes in what another one was told, and the others stay as they are
pub record MergesAt (place : ℕ) (found : Accumulator) (before after : List Accumulator) : Type 0 where
  pub told : (more : List Told) (d : Accumulator) → Stands found more
      → TakesIn (slice_index_or before place d) (slice_index_or after place d) more
  pub count : (d : Accumulator) → (slice_index_or after place d).running.count ≡
      (slice_index_or before place d).running.count + found.running.count
  pub kinds : (op : Aggregate) → AreOf op before → AreOf op after
  pub others : (k : ℕ) (d : Accumulator) → k ≢ place → slice_index_or after k d ≡ slice_index_or before k d

-- the accumulator at a place may be told of so many points more
abbrev pub HasRoomAt : ℕ → ℕ → List Accumulator → Type 0
HasRoomAt place n folds = (d : Accumulator) → (slice_index_or folds place d).running.count + n ≤ max_points

-- outcomes are what a condenser makes of the points that each accumulator stands for, in the order of their places
abbrev pub AreOutcomesOf : List Accumulator → List Outcome → Type 0
AreOutcomesOf folds list =
    (op : Aggregate) (told : ℕ → List Told) → AreOf op folds → EachStands folds told
    → ((k : ℕ) → k < length folds → AreRising (told k))
    → list ≡ map (λ k. condensed op (outcomes (told k))) (range_with_len 0 (length folds))
