-- The operators before an operand.
use Rattle.std.specs.Prelude.{◌≡◌, List, [], ◌∷◌, Some, None}
use Rattle.wcps_text.specs.declared.operator.UnaryOperator.{UnaryOperator}
use Rattle.wcps_text.specs.Token.{Tok}
use Rattle.wcps_text.specs.Tree.{Tree, unary}
use Rattle.wcps_parse.specs.Front.{prefix_at}

-- the rest is what stands behind the operators, and it begins with none
pub data IsBehind : List UnaryOperator → List Tok → List Tok → Type 0 where
  none : {ts : List Tok} → prefix_at ts ≡ None → IsBehind [] ts ts
  next : {op : UnaryOperator} {ops : List UnaryOperator} {ts mid rest : List Tok} → prefix_at ts ≡ Some (op, mid)
      → IsBehind ops rest mid → IsBehind (op ∷ ops) rest ts

-- an expression under operators, the first one outermost
abbrev pub wrapped : List UnaryOperator → Tree → Tree
wrapped [] e = e
wrapped (op ∷ ops) e = unary op (wrapped ops e)
