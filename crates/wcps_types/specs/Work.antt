-- Work: how many steps an evaluation takes at most, from domains alone.
use Rattle.std.specs.Prelude.{ℕ, ◌+◌, ◌*◌, min, List, [], ◌∷◌, Option, Some, None}
use Rattle.arr_core.specs.Domains.{count}
use Rattle.wcps_types.specs.Typed.{Typed, number, iterator, cell, unary, binary, scalar, select, bracket, slice, array, listed, condense, condense_where, reduce, FieldTree, ItemTree, CombinationTree}

-- of one evaluation at one point; a condenser and a reduction evaluate their parts at each point of their box
abbrev pub work_of : Typed → ℕ
work_of (number z) = 1
work_of (iterator k) = 1
work_of (cell c f) = 1
work_of (unary op e) = 1 + work_of e
work_of (binary op l r) = 1 + (work_of l + work_of r)
work_of (scalar e) = work_of e
work_of (select e) = 1 + work_of e
work_of (bracket e) = 1 + work_of e
work_of (slice e axis lo hi position) = work_of e + work_of position
work_of (array e) = 1 + work_of e
work_of (listed box items) = 1
work_of (condense op box e) = 1 + count box * work_of e
work_of (condense_where op box c e) = 1 + count box * (work_of c + work_of e)
work_of (reduce op box e) = 1 + count box * work_of e

-- of a value with several fields the sum
abbrev pub fields_work : List FieldTree → ℕ
fields_work [] = 0
fields_work (f ∷ more) = work_of f.tree + fields_work more

-- of an item, at all its points
abbrev pub item_work : ItemTree → ℕ
item_work i = count i.domain * fields_work i.fields

abbrev pub condition_work : Option Typed → ℕ
condition_work None = 0
condition_work (Some c) = work_of c

-- of a query: its `where`, if any, and its item, for each combination
abbrev pub query_work : List CombinationTree → ℕ
query_work [] = 0
query_work (c ∷ more) = (condition_work c.condition + item_work c.item) + query_work more

-- how much is allowed
abbrev pub max_work : ℕ
max_work = 4294967296

-- the number where it is allowed, else one more than is allowed
abbrev pub capped : ℕ → ℕ
capped n = min n (max_work + 1)
