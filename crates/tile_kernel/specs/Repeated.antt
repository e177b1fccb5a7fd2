-- Outcomes that stand for runs.
use Rattle.std.specs.Prelude.{◌≡◌, ℕ, ◌+◌, ◌<◌, ◌≤◌, ℤ, List, [], ◌∷◌, ◌++◌, map, length, take, replicate, sum, slice_index, Vec, vec_capacity, Bool, true, false, Option, Some, None}
use Rattle.std.specs.declared.alloc.Global.{Global}
use Rattle.arr_core.specs.Limits.{max_tile}
use Rattle.arr_core.specs.Runs.{spread}
use Rattle.wcps_mean.specs.declared.cell.PointFault.{PointFault}
use Rattle.wcps_mean.specs.declared.cell.Outcome.{Outcome}
use Rattle.wcps_mean.specs.declared.cell.Outcome.TheVariants.{Value}
use Rattle.tile_kernel.specs.declared.form.Form.{Form}
use Rattle.tile_kernel.specs.declared.pair.Pair.{Pair}
use Rattle.tile_kernel.specs.declared.seen.Runs.{Runs}
use Rattle.tile_kernel.specs.declared.seen.Seen.{Seen}
use Rattle.tile_kernel.specs.declared.seen.Seen.TheVariants as kept
use Rattle.tile_kernel.specs.Columns.{seen, IsRoomy}

-- each outcome as often as its count says
abbrev pub repeated : List Outcome → List ℕ → List Outcome
repeated (o ∷ os) (n ∷ ns) = replicate n o ++ repeated os ns
repeated _ _ = []

-- the outcomes of a column: those at its places, or those of its runs
abbrev pub column_of : Option ℕ → Form → ℕ → List ℤ → List (Option PointFault) → List ℤ → List ℕ → List Outcome
column_of None form n zs fs ws ns = seen form n zs fs ws
column_of (Some r) form n zs fs ws ns = repeated (map Value (take r zs)) (take r ns)

-- the runs, if there are some, cover all places
abbrev pub AreRuns : Option ℕ → ℕ → List ℕ → Type 0
AreRuns None n ns = Unit {0}
AreRuns (Some r) n ns = (r ≤ max_tile) × (r ≤ length ns) × (sum (take r ns) ≡ n)

-- where there are runs, there are as many values and faults as there can be
abbrev pub AreAll : Option ℕ → List ℤ → List (Option PointFault) → Type 0
AreAll None zs fs = Unit {0}
AreAll (Some r) zs fs = (length zs ≡ max_tile) × (max_tile ≤ length fs)

-- a column has at most 4,096 places, runs that cover them, and lists with room for as many
pub record IsColumn (runs : Option ℕ) (form : Form) (n : ℕ) (values : Vec ℤ Global)
    (faults : Vec (Option PointFault) Global) (ws : List ℤ) (ns : List ℕ) : Type 0 where
  pub roomy : IsRoomy form n values.items faults.items ws
  pub covered : AreRuns runs n ns
  pub whole : AreAll runs values.items faults.items
  pub few_values : length values.items ≤ max_tile
  pub value_room : max_tile ≤ vec_capacity values
  pub fault_room : max_tile ≤ vec_capacity faults

-- the outcomes that are lent
abbrev pub runs_shown : Runs → List Outcome
runs_shown r = repeated (map Value (take (length r.counts.now) r.values.now)) r.counts.now

abbrev pub shown : Seen → List Outcome
shown (kept.Each view) = view
shown (kept.Runs runs) = runs_shown runs

-- a list begins with each value as often as its count says
abbrev pub IsSpread : List ℤ → List ℕ → List ℤ → Type 0
IsSpread values counts out = take (sum counts) out ≡ spread (take (length counts) values) counts

-- a place lies in this run
pub record StandsIn (counts : List ℕ) (place run : ℕ) : Type 0 where
  pub within : run < length counts
  pub from : sum (take run counts) ≤ place
  pub below : place < sum (take run counts) + slice_index counts run

-- if this is told, each outcome now stands as often as its count says
abbrev pub RepeatsIf : Bool → List ℕ → List Outcome → List Outcome → Type 0
RepeatsIf true ns before after = after ≡ repeated before ns
RepeatsIf false ns before after = Unit {0}

-- there is one outcome for each count, and each stands as often as its count says
pub record StandsOver (ns : List ℕ) (column heads : List Outcome) : Type 0 where
  pub even : length heads ≡ length ns
  pub same : column ≡ repeated heads ns

-- two columns by what they have for each of the same runs
pub record ArePaired (left right : List Outcome) (pair : Pair) : Type 0 where
  pub left_is : left ≡ repeated pair.left pair.counts.now
  pub right_is : right ≡ repeated pair.right pair.counts.now

-- the columns that they are
abbrev pub left_of : Pair → List Outcome
left_of pair = repeated pair.left pair.counts.now

abbrev pub right_of : Pair → List Outcome
right_of pair = repeated pair.right pair.counts.now
