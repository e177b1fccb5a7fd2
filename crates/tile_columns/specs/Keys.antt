-- What bodies depend on.
use Rattle.std.specs.Prelude.{◌≡◌, ℕ, ◌+◌, ◌*◌, ◌≤◌, ℤ, List, length, Option}
use Rattle.arr_core.specs.declared.signature.Signature.{Signature}
use Rattle.wcps_mean.specs.declared.cell.Outcome.{Outcome}
use Rattle.plan_ir.specs.declared.body.Interval.{Interval}
use Rattle.plan_ir.specs.Bodies.{Tree, body_view, condition_view, fold_view, always, lit, var, reg, op1, op2, read, table, bind, fold}
use Rattle.plan_ir.specs.Run.{run}
use Rattle.plan_ir.specs.Placed.{IsPlaced}
use Rattle.plan_ir.specs.Units.{bound_times}
use Rattle.tile_columns.specs.declared.source.Tiles.{Ghosts}
use Rattle.tile_columns.specs.declared.zones.Key.{Key}
use Rattle.tile_columns.specs.declared.zones.Zones.{Zones}
use Rattle.tile_columns.specs.Sources.{FetchesAtMost}
use Rattle.tile_columns.specs.Shapes.{operand}
use Rattle.tile_columns.specs.Zones.{equation_in, HasZones}

-- A body depends on a key alone: under so many variables it has one outcome wherever the key has one. The key has its
-- place where the body has, and its evaluation so many times asks for no more tiles than that of the body once.
pub record IsKeyOf (depth : ℕ) (body key : Tree) (times : ℕ) : Type 0 where
  pub alone : (s : ℕ → ℕ → List ℤ → ℤ) (regs : List Outcome) (one other : List ℤ) → length one ≡ depth
      → length other ≡ depth
      → run s regs key one ≡ run s regs key other → run s regs body one ≡ run s regs body other
  pub placed : (cs : ℕ → Option Signature) (n : ℕ) (scope : List Interval) → length scope ≡ depth
      → IsPlaced cs n scope body → IsPlaced cs n scope key
  pub dearer : (n : ℕ) → bound_times (n * times) key ≤ bound_times n body

-- the key of a fold of zones, by where it was found
abbrev pub key_in : Zones → Tree → Tree
key_in z (lit n) = always
key_in z (var k) = always
key_in z (reg k) = always
key_in z (op1 op e) = always
key_in z (op2 op l r) = always
key_in z (read c f is) = always
key_in z (table box items is) = always
key_in z (bind i lo hi e) = always
key_in z (fold op box c e) = operand z.key_first (equation_in z.role c e)

-- the fold of zones that a key is of
abbrev pub fold_of : Key → Tree
fold_of k = fold_view k.fold.now

-- a body under so many variables is a fold of zones, which depends on this key alone
pub record IsFoundKey (depth : ℕ) (body : Tree) (k : Key) : Type 0 where
  pub key : IsKeyOf depth body (body_view k.body.now) k.times
  pub is : body_view k.body.now ≡ key_in k.zones body
  pub fold : fold_of k ≡ body
  pub zoned : HasZones depth (condition_view k.fold.now.condition) (body_view k.fold.now.body) k.zones

-- at most so many tiles are fetched as the key of a fold of zones asks for at the places of a frame, and the fold at
-- one
abbrev pub FetchesByKey : {S : Type 0} → Key → List (List ℤ) → Ghosts S → S → S → Type 0
FetchesByKey k envs t old new =
    FetchesAtMost (bound_times (length envs) (key_in k.zones (fold_of k)) + bound_times 1 (fold_of k)) (t.state old)
    (t.state new)
