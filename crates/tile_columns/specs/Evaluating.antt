-- Bodies at all places of a frame.
use Rattle.std.specs.Prelude.{ℕ, ◌+◌, ◌*◌, ◌≤ℤ◌, cond, ℤ, List, [], ◌∷◌, ◌++◌, map, length, Option}
use Rattle.std.specs.List.{All, list_all}
use Rattle.arr_core.specs.declared.signature.Signature.{Signature}
use Rattle.arr_core.specs.Domains.{count}
use Rattle.arr_core.specs.Meeting.{tile_number}
use Rattle.plan_ir.specs.declared.body.Interval.{Interval}
use Rattle.plan_ir.specs.Bodies.{Tree, lit, var, reg, op1, op2, read, table, bind, fold}
use Rattle.plan_ir.specs.Run.{numbers_at}
use Rattle.plan_ir.specs.Placed.{IsPlaced}
use Rattle.plan_ir.specs.Units.{distinct, index_below, domain_of, bound_times}

-- each number lies in its interval
abbrev pub AreWithin : List Interval → List ℤ → Type 0
AreWithin [] [] = Unit {0}
AreWithin (b ∷ scope) (z ∷ e) = (b.lo ≤ℤ z) × (z ≤ℤ b.hi) × AreWithin scope e
AreWithin [] (z ∷ e) = ⊥
AreWithin (b ∷ scope) [] = ⊥

-- a body has its place under the variables of a frame, with so many registers; cs has the coverage of each place
pub record HasPlace (cs : ℕ → Option Signature) (regs : ℕ) (body : Tree) (envs : List (List ℤ)) : Type 0 where
  pub scope : List Interval
  pub placed : IsPlaced cs regs scope body
  pub within : All (AreWithin scope) envs

-- the same of a body under further variables, which go over the intervals `more`
pub record HasPlaceUnder (cs : ℕ → Option Signature) (regs : ℕ) (more : List Interval) (body : Tree)
    (envs : List (List ℤ)) : Type 0 where
  pub scope : List Interval
  pub placed : IsPlaced cs regs (scope ++ more) body
  pub within : All (AreWithin scope) envs

-- At most so many tiles are fetched. The first n variables are the coordinates of the box: where a read under no fold
-- has indexes among these, the tiles that hold a point which it indexes; else one for each place, under folds one for
-- each place and point of their boxes.
abbrev pub fetches : (ℕ → Option Signature) → ℕ → List (List ℤ) → Tree → ℕ
fetches cs n envs (lit z) = 0
fetches cs n envs (var k) = 0
fetches cs n envs (reg k) = 0
fetches cs n envs (op1 op e) = fetches cs n envs e
fetches cs n envs (op2 op l r) = fetches cs n envs l + fetches cs n envs r
fetches cs n envs (read c f is) =
    cond (list_all (index_below n) is)
    (length (distinct (map (λ e. tile_number (domain_of (cs c)) (numbers_at e is)) envs))) (length envs)
fetches cs n envs (table box items is) = 0
fetches cs n envs (bind i lo hi e) = fetches cs n envs i + fetches cs n envs e
fetches cs n envs (fold op box c e) = bound_times (length envs * count box) c + bound_times (length envs * count box) e
