-- Fields behind binds, at all places of a frame.
use Rattle.std.specs.Prelude.{◌≡◌, ℕ, ◌≤◌, ℤ, pos, List, [], ◌∷◌, ◌++◌, map, length, replicate, sum_by, Option, Result, OnOk}
use Rattle.std.specs.List.{All}
use Rattle.arr_core.specs.declared.signature.Signature.{Signature}
use Rattle.wcps_mean.specs.declared.cell.Outcome.{Outcome}
use Rattle.wcps_mean.specs.declared.cell.Outcome.TheVariants.{Value}
use Rattle.plan_ir.specs.declared.body.Interval.{Interval}
use Rattle.plan_ir.specs.Bodies.{Tree, bind}
use Rattle.plan_ir.specs.declared.plan.Bind.{Bind}
use Rattle.plan_ir.specs.declared.plan.Field.{Field}
use Rattle.plan_ir.specs.Plans.{BindTree, FieldBody, bind_view, field_view}
use Rattle.plan_ir.specs.Planned.{cells_of}
use Rattle.plan_ir.specs.Placed.{ItemIsPlaced}
use Rattle.plan_ir.specs.Run.{run}
use Rattle.tile_kernel.specs.Columns.{outcome_at}
use Rattle.tile_columns.specs.Binding.{at_positions}
use Rattle.tile_columns.specs.declared.ground.Ground.{Ground}
use Rattle.tile_columns.specs.Evaluating.{AreWithin, fetches}
use Rattle.tile_columns.specs.declared.source.Tiles.{Ghosts}
use Rattle.tile_columns.specs.Sources.{SourceState, FetchesAtMost}
use Rattle.tile_columns.specs.Meaning.{chosen}

-- a body behind binds: the first fault of the binds stands, and then the body is not demanded
abbrev pub behind : List BindTree → Tree → Tree
behind [] e = e
behind (b ∷ binds) e = bind b.position b.lo b.hi (behind binds e)

-- a column for each field: the outcomes of its body behind the binds
abbrev pub columns_behind : (ℕ → ℕ → List ℤ → ℤ) → List Outcome → List BindTree → List FieldBody → List (List ℤ)
    → List (List Outcome)
columns_behind s regs binds fields envs = map (λ (f : FieldBody). map (run s regs (behind binds f.body)) envs) fields

-- each column has so many places
abbrev pub HavePlaces : ℕ → List (List Outcome) → Type 0
HavePlaces n columns = All (λ (c : List Outcome). length c ≡ n) columns

-- the positions of the binds, then the bodies of the fields
abbrev pub bodies_behind : List BindTree → List FieldBody → List Tree
bodies_behind binds fields = map (λ (b : BindTree). b.position) binds ++ map (λ (f : FieldBody). f.body) fields

-- the outcomes of a column where the position lies from lo to hi, else the fault
abbrev pub settled_by : List Outcome → ℤ → ℤ → List Outcome → List Outcome
settled_by positions lo hi column = at_positions positions lo hi (λ k z. outcome_at column k)

-- a column of zeros, but the fault where the position does not lie from lo to hi
abbrev pub blank_by : List Outcome → ℤ → ℤ → List Outcome
blank_by positions lo hi = settled_by positions lo hi (replicate (length positions) (Value (pos 0)))

-- binds, and fields behind them, have their places under the variables of a frame
pub record FieldsHavePlace (cs : ℕ → Option Signature) (regs : ℕ) (binds : List BindTree) (fields : List FieldBody)
    (envs : List (List ℤ)) : Type 0 where
  pub scope : List Interval
  pub placed : ItemIsPlaced cs regs scope binds fields
  pub within : All (AreWithin scope) envs

-- the same over a source of tiles
abbrev pub HavePlaceOver : {K : Type 0} → SourceState K → Ground → List Bind → List Field → List (List ℤ) → Type 0
HavePlaceOver s g binds fields envs =
    FieldsHavePlace (chosen s g) (length g.registers.now) (map bind_view binds) (map field_view fields) envs

-- columns have what fields give behind binds at the places of a frame
abbrev pub AreColumnsOf : {K : Type 0} → SourceState K → Ground → List Bind → List Field → List (List ℤ)
    → List (List Outcome) → Type 0
AreColumnsOf s g binds fields envs columns =
    s.intact → columns ≡ columns_behind (cells_of s.cells g.coverages.now) g.registers.now (map bind_view binds)
    (map field_view fields) envs

-- a call that was done fetched no more tiles than the positions of binds and the bodies of fields ask for
abbrev pub FetchAll : {S A E : Type 0} → Result A E → Ground → List Bind → List Field → List (List ℤ) → Ghosts S → S → S
    → Type 0
FetchAll result g binds fields envs t old new =
    OnOk result ((n : ℕ) → All (λ (e : List ℤ). n ≤ length e) envs
    → FetchesAtMost (sum_by (fetches (chosen (t.state old) g) n envs)
    (bodies_behind (map bind_view binds) (map field_view fields))) (t.state old) (t.state new))
