-- What an accumulator stands for.
use Rattle.std.specs.Prelude.{◌≡◌, ℕ, ℤ, ◌<◌, ◌≤◌, List, ◌++◌, length, slice_index_or, Option, IfSome}
use Rattle.std.specs.List.{All}
use Rattle.wcps_text.specs.declared.operator.Aggregate.{Aggregate}
use Rattle.wcps_mean.specs.declared.cell.Outcome.{Outcome}
use Rattle.wcps_mean.specs.Condensers.{values}
use Rattle.wcps_mean.specs.Feeding.{Keeps}
use Rattle.tile_kernel.specs.declared.accumulator.Accumulator.{Accumulator}
use Rattle.tile_kernel.specs.Columns.{HasValues}
use Rattle.tile_kernel.specs.Repeated.{repeated}
use Rattle.tile_kernel.specs.Selected.{taken}
use Rattle.tile_kernel.specs.Told.{Told, outcomes, told_at, demanded_at, IsFirst}

-- it stands for these points, told in any order
pub record Stands (a : Accumulator) (told : List Told) : Type 0 where
  pub counted : a.running.count ≡ length told
  pub faulted : IsFirst a.running.fault a.place told
  pub kept : Keeps a.running.op a.running (values (outcomes told))

-- whatever it stood for before, it stands for these points besides
abbrev pub TakesIn : Accumulator → Accumulator → List Told → Type 0
TakesIn before after more = (told : List Told) → Stands before told → Stands after (told ++ more)

-- an accumulator at each place, each for points of its own
abbrev pub EachStands : List Accumulator → (ℕ → List Told) → Type 0
EachStands folds told = (k : ℕ) (d : Accumulator) → k < length folds → Stands (slice_index_or folds k d) (told k)

-- each takes in points of its own
abbrev pub EachTakesIn : List Accumulator → List Accumulator → (ℕ → List Told) → Type 0
EachTakesIn before after more =
    (told : ℕ → List Told) → EachStands before told → EachStands after (λ k. told k ++ more k)

-- all are of one kind
abbrev pub AreOf : Aggregate → List Accumulator → Type 0
AreOf op folds = All (λ (a : Accumulator). a.running.op ≡ op) folds

-- none has been told of more than n points
abbrev pub HaveAtMost : ℕ → List Accumulator → Type 0
HaveAtMost n folds = All (λ (a : Accumulator). a.running.count ≤ n) folds

-- it stands for outcomes, each as often as it counts, at whatever places
abbrev pub IsCondensed : (ℕ → ℕ) → List Outcome → Accumulator → Type 0
IsCondensed times heads a = (told : List Told) → outcomes told ≡ taken times heads → Stands a told

-- it stands for the cells of a column, whatever places they have
abbrev pub StandsAnywhere : Accumulator → List Outcome → Type 0
StandsAnywhere a column = (places : List ℕ) → length places ≡ length column → Stands a (told_at places column)

-- it stands for the cells of a column under a condition, whatever places they have
abbrev pub IsCondensedWhere : Aggregate → List Outcome → List Outcome → Accumulator → Type 0
IsCondensedWhere op condition column a =
    (places : List ℕ) → length places ≡ length column → (a.running.op ≡ op)
    × Stands a (demanded_at places condition column)

-- it stands for whatever outcomes are these values, each as often as it counts
abbrev pub IsCondensedOf : (ℕ → ℕ) → ℕ → (ℕ → ℤ) → Accumulator → Type 0
IsCondensedOf times n value a = (os : List Outcome) → HasValues n value os → IsCondensed times os a

-- if there is one, it stands for the cells of a column under whatever condition is these values
abbrev pub IsCondensedBy : Aggregate → (ℕ → ℤ) → List Outcome → Option Accumulator → Type 0
IsCondensedBy op value column a =
    (condition : List Outcome) → HasValues (length column) value condition
    → IfSome a (IsCondensedWhere op condition column)

-- the same of outcomes that stand as often as their counts say
abbrev pub IsCondensedByRuns : Aggregate → List ℕ → (ℕ → ℤ) → List Outcome → Option Accumulator → Type 0
IsCondensedByRuns op ns value heads a =
    (chosen : List Outcome) → HasValues (length ns) value chosen
    → IfSome a (IsCondensedWhere op (repeated chosen ns) (repeated heads ns))
