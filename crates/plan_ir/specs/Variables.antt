-- Which variables a body uses.
use Rattle.std.specs.Prelude.{ℕ, ◌-◌, nat_le, nat_lt, ◌&&◌, Bool, true, false, map}
use Rattle.std.specs.List.{list_all}
use Rattle.plan_ir.specs.declared.body.Index.{Index}
use Rattle.plan_ir.specs.declared.body.Index.TheVariants.{Const, Var}
use Rattle.plan_ir.specs.Bodies.{Tree, lit, var, reg, op1, op2, read, table, bind, fold}
use Rattle.plan_ir.specs.Units.{index_below}

abbrev pub index_from : ℕ → Index → Bool
index_from n (Const z) = true
index_from n (Var k) = nat_le n k

-- no variable of a body is one of the first n
abbrev pub is_from : ℕ → Tree → Bool
is_from n (lit z) = true
is_from n (var k) = nat_le n k
is_from n (reg k) = true
is_from n (op1 op e) = is_from n e
is_from n (op2 op l r) = is_from n l && is_from n r
is_from n (read c f is) = list_all (index_from n) is
is_from n (table box items is) = list_all (index_from n) is
is_from n (bind i lo hi e) = is_from n i && is_from n e
is_from n (fold op box c e) = is_from n c && is_from n e

-- every variable of a body is one of the first n; a bind or a fold has variables of its own
abbrev pub is_below : ℕ → Tree → Bool
is_below n (lit z) = true
is_below n (var k) = nat_lt k n
is_below n (reg k) = true
is_below n (op1 op e) = is_below n e
is_below n (op2 op l r) = is_below n l && is_below n r
is_below n (read c f is) = list_all (index_below n) is
is_below n (table box items is) = list_all (index_below n) is
is_below n (bind i lo hi e) = false
is_below n (fold op box c e) = false

abbrev pub index_without : ℕ → Index → Index
index_without n (Const z) = Const z
index_without n (Var k) = Var (k - n)

-- the body without the first n variables
abbrev pub without : ℕ → Tree → Tree
without n (lit z) = lit z
without n (var k) = var (k - n)
without n (reg k) = reg k
without n (op1 op e) = op1 op (without n e)
without n (op2 op l r) = op2 op (without n l) (without n r)
without n (read c f is) = read c f (map (index_without n) is)
without n (table box items is) = table box items (map (index_without n) is)
without n (bind i lo hi e) = bind (without n i) lo hi (without n e)
without n (fold op box c e) = fold op box (without n c) (without n e)
