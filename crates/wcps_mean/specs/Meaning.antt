-- The value of a typed tree at a point. (WCPS, OGC 08-068r2: coverage expressions are evaluated point by point.)
use Rattle.std.specs.Prelude.{ℕ, ℤ, pos, List, [], ◌++◌, map, get_or, insert}
use Rattle.std.specs.List.{flat_map}
use Rattle.arr_core.specs.Domains.{points, rank_of}
use Rattle.wcps_types.specs.Typed.{Typed, number, iterator, cell, unary, binary, scalar, select, bracket, slice, array, listed, condense, condense_where, reduce}
use Rattle.wcps_mean.specs.declared.cell.Outcome.{Outcome}
use Rattle.wcps_mean.specs.declared.cell.Outcome.TheVariants.{Value}
use Rattle.wcps_mean.specs.Cells.{operate1, operate2, at_position}
use Rattle.wcps_mean.specs.Condensers.{condensed, demanded}

-- The outcome of a tree at the point p, its iterators bound to env, outermost first; s gives the cell of a coverage and
-- a field at each point.
--   An operation is taken of its operands' outcomes, the left one first. A scalar is taken at the empty point.
--   A slice first takes its position, then tests it against lo to hi, then goes on at p with the position put in.
--   `values e` binds further iterators to p. `value list` gives the item at p's place.
--   A condenser lists all points of its box; each gives its outcome, under a condition what is demanded of it.
abbrev pub val : (ℕ → ℕ → List ℤ → ℤ) → Typed → List ℤ → List ℤ → Outcome
val s (number z) env p = Value z
val s (iterator k) env p = Value (get_or env k (pos 0))
val s (cell c f) env p = Value (s c f p)
val s (unary op e) env p = operate1 op (val s e env p)
val s (binary op l r) env p = operate2 op (val s l env p) (val s r env p)
val s (scalar e) env p = val s e env []
val s (select e) env p = val s e env p
val s (bracket e) env p = val s e env p
val s (slice e axis lo hi i) env p = at_position (val s i env []) lo hi (λ z. val s e env (insert p axis z))
val s (array e) env p = val s e (env ++ p) []
val s (listed box items) env p = Value (get_or items (rank_of box p) (pos 0))
val s (condense op box e) env p = condensed op (map (λ x. val s e (env ++ x) []) (points box))
val s (condense_where op box c e) env p =
    condensed op (flat_map (λ x. demanded (val s c (env ++ x) []) (val s e (env ++ x) [])) (points box))
val s (reduce op box e) env p = condensed op (map (λ x. val s e env x) (points box))
