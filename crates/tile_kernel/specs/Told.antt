-- Points that a condenser has been told of.
use Rattle.std.specs.Prelude.{◌≡◌, ℕ, ◌<◌, ◌≤◌, List, [], ◌∷◌, ◌++◌, map, Option, Some, None}
use Rattle.std.specs.List.{All, Contains, enumerate_from}
use Rattle.std.specs.List.Sorted.{IsPermutation}
use Rattle.wcps_mean.specs.declared.cell.PointFault.{PointFault}
use Rattle.wcps_mean.specs.declared.cell.Outcome.{Outcome}
use Rattle.wcps_mean.specs.declared.cell.Outcome.TheVariants.{Value, Fault}
use Rattle.wcps_text.specs.declared.operator.Aggregate.{Aggregate}
use Rattle.wcps_mean.specs.Condensers.{demanded, condensed}
use Rattle.tile_kernel.specs.declared.first_fault.FirstFault.{FirstFault}
use Rattle.tile_kernel.specs.Columns.{outcome_at}

-- a point, by its place in the row-major list of its box, and its outcome
abbrev pub Told : Type 0
Told = ℕ × Outcome

abbrev pub outcomes : List Told → List Outcome
outcomes told = map (λ (t : Told). t.1) told

-- all points of a box, in row-major order
abbrev pub in_order : List Outcome → List Told
in_order outs = enumerate_from 0 outs

-- each place is above those before it
abbrev pub AreRising : List Told → Type 0
AreRising [] = Unit {0}
AreRising (t ∷ told) = All (λ (u : Told). t.0 < u.0) told × AreRising told

-- the cells of a column, at their places
abbrev pub told_at : List ℕ → List Outcome → List Told
told_at [] os = []
told_at (p ∷ ps) [] = []
told_at (p ∷ ps) (o ∷ os) = (p, o) ∷ told_at ps os

-- what each cell of a column adds at one place
abbrev pub told_from : ℕ → List Outcome → ℕ → List Told
told_from p os k = (p, outcome_at os k) ∷ []

-- what a place adds under a condition: the condition's fault, or nothing, or the value's outcome
abbrev pub demanded_of : ℕ → Outcome → Outcome → List Told
demanded_of p c o = map (λ (d : Outcome). (p, d)) (demanded c o)

-- what the cells of a column add under the condition of each
abbrev pub demanded_at : List ℕ → List Outcome → List Outcome → List Told
demanded_at [] cs os = []
demanded_at (p ∷ ps) [] os = []
demanded_at (p ∷ ps) (c ∷ cs) [] = []
demanded_at (p ∷ ps) (c ∷ cs) (o ∷ os) = demanded_of p c o ++ demanded_at ps cs os

-- what each cell of a column adds at one place, under the condition of each
abbrev pub demanded_from : ℕ → List Outcome → List Outcome → ℕ → List Told
demanded_from p cs os k = demanded_of p (outcome_at cs k) (outcome_at os k)

-- the same points in the order of their places
pub record AreOrdered (told ordered : List Told) : Type 0 where
  pub same : IsPermutation told ordered
  pub rising : AreRising ordered

abbrev pub IsValue : Outcome → Type 0
IsValue (Value z) = Unit {0}
IsValue (Fault f) = ⊥

-- a fault stands at place p or above
abbrev pub StandsFrom : ℕ → ℕ → Outcome → Type 0
StandsFrom p k (Value z) = Unit {0}
StandsFrom p k (Fault f) = p ≤ k

-- there is no fault; or this one stands at its place, and none at a lower one
abbrev pub IsFirst : Option PointFault → ℕ → List Told → Type 0
IsFirst None place told = All (λ (t : Told). IsValue t.1) told
IsFirst (Some f) place told = Contains told (place, Fault f) × All (λ (t : Told). StandsFrom place t.0 t.1) told

-- the first fault of these points, if there is one
abbrev pub IsFirstOf : FirstFault → List Told → Type 0
IsFirstOf first told = IsFirst first.fault first.place told

-- what a condenser makes of points, in the order of their places
abbrev pub ComesTo : Aggregate → List Told → Outcome → Type 0
ComesTo op told o = (ordered : List Told) → AreOrdered told ordered → o ≡ condensed op (outcomes ordered)
