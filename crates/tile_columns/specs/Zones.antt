-- Folds of zones.
use Rattle.std.specs.Prelude.{◌≡◌, ◌≢◌, ℕ, ◌+◌, ◌<◌, ◌≤◌, ℤ, pos, List, map, length, replicate, slice_index_or, Bool, true, false, not, IsTrue}
use Rattle.std.specs.List.{All}
use Rattle.wcps_text.specs.declared.operator.Aggregate.{Aggregate}
use Rattle.wcps_text.specs.declared.operator.BinaryOperator.TheVariants.{Equal}
use Rattle.wcps_mean.specs.declared.cell.Outcome.{Outcome}
use Rattle.wcps_mean.specs.declared.cell.Outcome.TheVariants.{Value}
use Rattle.wcps_mean.specs.Cells.{operate2}
use Rattle.plan_ir.specs.declared.body.Fold.{Fold}
use Rattle.plan_ir.specs.Bodies.{Tree, body_view, condition_view, always, op2}
use Rattle.plan_ir.specs.Variables.{is_from, is_below}
use Rattle.tile_kernel.specs.declared.accumulator.Accumulator.{Accumulator}
use Rattle.tile_kernel.specs.Columns.{outcome_at}
use Rattle.tile_kernel.specs.Keyed.{having, number_at}
use Rattle.tile_kernel.specs.Told.{Told, told_at, demanded_at}
use Rattle.tile_columns.specs.declared.shapes.Shape.{Shape}
use Rattle.tile_columns.specs.Shapes.{operand, shaped, equation_by, other_by, joined, joined_all, HasOperands, IsOfShape, IsZero}
use Rattle.tile_columns.specs.Blanks.{skips_zeros, AddsZeros}
use Rattle.tile_columns.specs.declared.zones.Role.{Role}
use Rattle.tile_columns.specs.declared.zones.Role.TheVariants.{Condition, Within}
use Rattle.tile_columns.specs.declared.zones.Zones.{Zones}
use Rattle.tile_columns.specs.declared.zone_folds.Seen.{Seen}
use Rattle.tile_columns.specs.declared.zone_folds.Pooled.{Pooled}
use Rattle.tile_kernel.specs.Standing.{Stands, TakesIn, AreOf, HaveAtMost, EachStands}

-- an outcome that is compared with a key: the key is the left operand, or the right one
abbrev pub compared : Bool → Outcome → Outcome → Outcome
compared true key o = operate2 Equal key o
compared false key o = operate2 Equal o key

-- the equation of a fold of zones: it is the condition, or stands in the body
abbrev pub equation_in : Role → Tree → Tree → Tree
equation_in Condition condition body = condition
equation_in (Within shape) condition body = equation_by shape body

-- what its points are told of where the equation holds: the body, or the other operand of the body
abbrev pub other_in : Role → Tree → Tree
other_in Condition body = body
other_in (Within shape) body = other_by shape body

-- the condition and the body that have this equation
abbrev pub condition_in : Role → Tree → Tree
condition_in Condition equation = equation
condition_in (Within shape) equation = always

abbrev pub body_in : Role → Tree → Tree → Tree
body_in Condition equation other = other
body_in (Within shape) equation other = shaped shape equation other

-- and what they give at a point, by the outcomes of both
abbrev pub condition_of : Role → Outcome → Outcome
condition_of Condition q = q
condition_of (Within shape) q = Value (pos 1)

abbrev pub value_of : Role → Outcome → Outcome → Outcome
value_of Condition q e = e
value_of (Within shape) q e = joined shape q e

-- the equation of a fold, and its other body
abbrev pub equation_of : Fold → Zones → Tree
equation_of f z = equation_in z.role (condition_view f.condition) (body_view f.body)

abbrev pub other_of : Fold → Zones → Tree
other_of f z = other_in z.role (body_view f.body)

-- a side of the equation; that which is the key, and the other one
abbrev pub side : Zones → Bool → Fold → Tree
side z left f = operand left (equation_of f z)

abbrev pub key_of : Fold → Zones → Tree
key_of f z = side z z.key_first f

abbrev pub own_of : Fold → Zones → Tree
own_of f z = side z (not z.key_first) f

-- a body can have the role that stands in it
abbrev pub IsOfRole : Role → Tree → Type 0
IsOfRole Condition body = Unit {0}
IsOfRole (Within shape) body = IsOfShape shape body

-- a fold has an equation with two sides
pub record HasEquation (f : Fold) (z : Zones) : Type 0 where
  pub sides : HasOperands (equation_of f z)
  pub body : IsOfRole z.role (body_view f.body)

-- the condition that a body equals a key
abbrev pub equality : Bool → Tree → Tree → Tree
equality true own key = op2 Equal key own
equality false own key = op2 Equal own key

-- an equation is that `own`, which uses none of the first `depth` variables, equals `key`, which uses these alone
pub record AreSides (depth : ℕ) (equation own key : Tree) (first : Bool) : Type 0 where
  pub is : equation ≡ equality first own key
  pub own_from : IsTrue (is_from depth own)
  pub key_below : IsTrue (is_below depth key)

-- which operand is the key
abbrev pub HasKey : ℕ → Tree → Bool → Type 0
HasKey depth equation first = AreSides depth equation (operand (not first) equation) (operand first equation) first

-- a condition and a body are made of an equation with such sides, and of another body that uses none of these variables
pub record IsZoned (depth : ℕ) (role : Role) (condition body own key : Tree) (first : Bool) : Type 0 where
  pub condition_is : condition ≡ condition_in role (equation_in role condition body)
  pub body_is : body ≡ body_in role (equation_in role condition body) (other_in role body)
  pub sides : AreSides depth (equation_in role condition body) own key first
  pub other_from : IsTrue (is_from depth (other_in role body))

-- what is found of a condition and a body
abbrev pub HasZones : ℕ → Tree → Tree → Zones → Type 0
HasZones depth condition body z =
    IsZoned depth z.role condition body (operand (not z.key_first) (equation_in z.role condition body))
    (operand z.key_first (equation_in z.role condition body)) z.key_first

-- a fold's condition and body are made so, under the variables of the places of a frame; and there is a place
pub record IsZonal (role : Role) (condition body own key : Tree) (first : Bool) (envs : List (List ℤ)) : Type 0 where
  pub depth : ℕ
  pub deep : All (λ (e : List ℤ). length e ≡ depth) envs
  pub some : 0 < length envs
  pub zoned : IsZoned depth role condition body own key first

abbrev pub AreZonesOf : Fold → List (List ℤ) → Zones → Type 0
AreZonesOf f envs z = IsZonal z.role (condition_view f.condition) (body_view f.body) (own_of f z) (key_of f z)
    z.key_first envs

-- each point of a part has an outcome that is compared with a key, one that is condensed, and its place in the box
pub record IsWhole (s : Seen) : Type 0 where
  pub own : length s.own.now ≡ length s.column.now
  pub ranks : length s.ranks.now ≡ length s.column.now

-- what points tell, by the outcomes of their equations and of their other bodies
abbrev pub told_all : Role → List ℕ → List Outcome → List Outcome → List Told
told_all Condition ps qs es = demanded_at ps qs es
told_all (Within shape) ps qs es = told_at ps (joined_all shape qs es)

-- what the points of a part add by the outcome of the equation at each, and by the key that it compares them with
abbrev pub added_where : Seen → List Outcome → List Told
added_where s equation = told_all s.role s.ranks.now equation s.column.now

abbrev pub added_with : Seen → Outcome → List Told
added_with s key = added_where s (map (compared s.key_first key) s.own.now)

-- where the equation is false each point of a part gives 0, so that a point of another zone adds nothing but itself
pub record HasBlanks (op : Aggregate) (shape : Shape) (s : Seen) : Type 0 where
  pub skips : IsTrue (skips_zeros op)
  pub zeros : All IsZero (joined_all shape (replicate (length s.column.now) (Value (pos 0))) s.column.now)

-- one pass over a part tells what its points add for each number
abbrev pub IsSharableAs : Role → Aggregate → Seen → Type 0
IsSharableAs Condition op s = Unit {0}
IsSharableAs (Within shape) op s = HasBlanks op shape s

abbrev pub IsSharable : Aggregate → Seen → Type 0
IsSharable op s = IsSharableAs s.role op s

-- accumulators, one for each of these numbers, each told of the cells of a column whose own key is its number
pub record AreKeyed (op : Aggregate) (numbers : List ℤ) (ranks : List ℕ) (own column : List Outcome)
    (folds : List Accumulator) : Type 0 where
  pub many : length folds ≡ length numbers
  pub kinds : AreOf op folds
  pub room : HaveAtMost (length column) folds
  pub told : EachStands folds (λ j. demanded_at ranks (having own (number_at numbers j)) column)

-- they are so but for further points whose value is 0, so that each stands for as many points as the part has
pub record AreCounted (op : Aggregate) (numbers : List ℤ) (s : Seen) (hits : List Outcome)
    (folds : List Accumulator) : Type 0 where
  pub many : length folds ≡ length numbers
  pub kinds : AreOf op folds
  pub room : HaveAtMost (length s.column.now) folds
  pub told : (j : ℕ) (d : Accumulator) (more : List Told) → j < length folds
      → AddsZeros (demanded_at s.ranks.now (having s.own.now (number_at numbers j)) hits) more
      → length more ≡ length s.column.now → Stands (slice_index_or folds j d) more

-- accumulators, one for each of these numbers, each told what the points of a part add for it
pub record AreShared (op : Aggregate) (numbers : List ℤ) (s : Seen) (shared : List Accumulator) : Type 0 where
  pub many : length shared ≡ length numbers
  pub kinds : AreOf op shared
  pub room : HaveAtMost (length s.column.now) shared
  pub told : EachStands shared (λ j. added_where s (having s.own.now (number_at numbers j)))

-- the accumulator at a place takes in these points, at most n of them, and the others stay as they are
pub record TakesInAt (place : ℕ) (more : List Told) (n : ℕ) (before after : List Accumulator) : Type 0 where
  pub told : (d : Accumulator) → TakesIn (slice_index_or before place d) (slice_index_or after place d) more
  pub count : (d : Accumulator) → (slice_index_or after place d).running.count ≤
      (slice_index_or before place d).running.count + n
  pub kinds : (op : Aggregate) → AreOf op before → AreOf op after
  pub others : (k : ℕ) (d : Accumulator) → k ≢ place → slice_index_or after k d ≡ slice_index_or before k d

-- what the points of a part add where they have the key of a place
abbrev pub added_for : Pooled → ℕ → List Told
added_for p place = added_with p.seen.now (outcome_at p.keys.now.column place)

-- the accumulator at the place takes it in
abbrev pub TakesInKey : ℕ → Pooled → List Accumulator → List Accumulator → Type 0
TakesInKey place p before after =
    TakesInAt place (added_for p place) (length p.seen.now.column.now) before after
