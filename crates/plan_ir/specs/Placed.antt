-- Well-formed plans: each name has its place, and what a cell is read at lies in its coverage.
use Rattle.std.specs.Prelude.{◌≡◌, ℕ, ◌+◌, ◌^◌, ◌<◌, ◌≤ℤ◌, List, [], ◌∷◌, ◌++◌, map, length, Option, Some, None, slice_get, IsSomeAnd, All}
use Rattle.arr_core.specs.declared.domain.Axis.{Axis}
use Rattle.arr_core.specs.declared.signature.Signature.{Signature}
use Rattle.arr_core.specs.Domains.{count}
use Rattle.plan_ir.specs.declared.body.Interval.{Interval}
use Rattle.plan_ir.specs.declared.body.Index.{Index}
use Rattle.plan_ir.specs.declared.body.Index.TheVariants.{Const, Var}
use Rattle.plan_ir.specs.Bodies.{Tree, lit, var, reg, op1, op2, read, table, bind, fold}
use Rattle.plan_ir.specs.Plans.{PassTree, BindTree, FieldBody, StepsTree, Choice, PlanTree, signature_of}
use Rattle.plan_ir.specs.FoldPoints.{unit_bound}

-- the interval of an axis
abbrev pub span : Axis → Interval
span a = record { lo = a.lo; hi = a.hi }

abbrev pub spans : List Axis → List Interval
spans axes = map span axes

-- all coordinates of the first interval are among those of the second
abbrev pub LiesWithin : Interval → Interval → Type 0
LiesWithin b a = (a.lo ≤ℤ b.lo) × (b.hi ≤ℤ a.hi)

-- an index lies in an interval: a constant, or a variable all of whose numbers do; scope has the interval of each
-- variable
abbrev pub LiesIn : Interval → List Interval → Index → Type 0
LiesIn a scope (Const z) = (a.lo ≤ℤ z) × (z ≤ℤ a.hi)
LiesIn a scope (Var k) = IsSomeAnd (slice_get scope k) (λ b. LiesWithin b a)

-- one index for each interval, which lies in it
abbrev pub Indexes : List Interval → List Interval → List Index → Type 0
Indexes [] scope [] = Unit {0}
Indexes (a ∷ intervals) scope (i ∷ is) = LiesIn a scope i × Indexes intervals scope is
Indexes [] scope (i ∷ is) = ⊥
Indexes (a ∷ intervals) scope [] = ⊥

-- the coverage is there, has that field, and has a cell at each point of the indexes
abbrev pub HasCells : Option Signature → ℕ → List Interval → List Index → Type 0
HasCells None f scope is = ⊥
HasCells (Some c) f scope is = (f < length c.fields) × Indexes (spans c.domain) scope is

-- A body under variables that go over the intervals `scope`, with so many registers; cs has the coverage of each place.
abbrev pub IsPlaced : (ℕ → Option Signature) → ℕ → List Interval → Tree → Type 0
IsPlaced cs regs scope (lit z) = Unit {0}
IsPlaced cs regs scope (var k) = k < length scope
IsPlaced cs regs scope (reg k) = k < regs
IsPlaced cs regs scope (op1 op e) = IsPlaced cs regs scope e
IsPlaced cs regs scope (op2 op l r) = IsPlaced cs regs scope l × IsPlaced cs regs scope r
IsPlaced cs regs scope (read c f is) = HasCells (cs c) f scope is
IsPlaced cs regs scope (table box items is) = Indexes (spans box) scope is × (length items ≡ count box)
IsPlaced cs regs scope (bind i lo hi e) =
    IsPlaced cs regs scope i × IsPlaced cs regs (scope ++ record { lo = lo; hi = hi } ∷ []) e
IsPlaced cs regs scope (fold op box c e) =
    IsPlaced cs regs (scope ++ spans box) c × IsPlaced cs regs (scope ++ spans box) e

-- a condition, where there is one
abbrev pub ConditionIsPlaced : (ℕ → Option Signature) → ℕ → List Interval → Option Tree → Type 0
ConditionIsPlaced cs regs scope None = Unit {0}
ConditionIsPlaced cs regs scope (Some c) = IsPlaced cs regs scope c

-- each pass reads earlier registers alone
abbrev pub PassesArePlaced : (ℕ → Option Signature) → ℕ → List PassTree → Type 0
PassesArePlaced cs regs [] = Unit {0}
PassesArePlaced cs regs (p ∷ passes) =
    IsPlaced cs regs (spans p.domain) p.condition × IsPlaced cs regs (spans p.domain) p.body
    × PassesArePlaced cs (regs + 1) passes

abbrev pub FieldsArePlaced : (ℕ → Option Signature) → ℕ → List Interval → List FieldBody → Type 0
FieldsArePlaced cs regs scope [] = Unit {0}
FieldsArePlaced cs regs scope (f ∷ fields) = IsPlaced cs regs scope f.body × FieldsArePlaced cs regs scope fields

-- each bind adds its interval to the variables of what follows
abbrev pub ItemIsPlaced : (ℕ → Option Signature) → ℕ → List Interval → List BindTree → List FieldBody → Type 0
ItemIsPlaced cs regs scope [] fields = FieldsArePlaced cs regs scope fields
ItemIsPlaced cs regs scope (b ∷ binds) fields =
    IsPlaced cs regs scope b.position
    × ItemIsPlaced cs regs (scope ++ record { lo = b.lo; hi = b.hi } ∷ []) binds fields

-- an item without fields has no binds, since nothing demands their positions
abbrev pub AreDemanded : List BindTree → List FieldBody → Type 0
AreDemanded binds [] = binds ≡ []
AreDemanded binds (f ∷ fields) = Unit {0}

pub record AreSteps (cs : ℕ → Option Signature) (s : StepsTree) : Type 0 where
  pub passes : PassesArePlaced cs 0 s.passes
  pub condition : ConditionIsPlaced cs (length s.passes) [] s.condition
  pub item : ItemIsPlaced cs (length s.passes) (spans s.item.domain) s.item.binds s.item.fields
  pub demanded : AreDemanded s.item.binds s.item.fields

-- a combination has steps, which stand over the coverages that it chooses
abbrev pub IsChoice : PlanTree → Choice → Type 0
IsChoice plan c = IsSomeAnd (slice_get plan.steps c.steps) (AreSteps (signature_of plan.coverages c.coverages))

-- each combination is one of the plan's, and the units, once all folds are passes, can be counted in 64 bits
pub record IsPlan (plan : PlanTree) : Type 0 where
  pub choices : All (IsChoice plan) plan.combinations
  pub few : unit_bound plan < 2 ^ 64
