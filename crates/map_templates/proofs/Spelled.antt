-- The tokens of the templates spell their queries.
use Rattle.std.proofs.Common.{◌≡◌, ℕ, suc, ◌+◌, ◌≤◌, ℤ, pos, negsuc, ◌-ℤ◌, List, [], ◌∷◌, length, codes, Option, Some, None, refl, arith, subst}
use Rattle.arr_core.specs.declared.domain.Axis.{Axis}
use Rattle.wcps_text.specs.declared.token.Symbol.TheVariants as signs
use Rattle.arr_core.specs.declared.keyword.Keyword.TheVariants as words
use Rattle.wcps_text.specs.declared.operator.UnaryOperator.TheVariants as unaries
use Rattle.wcps_text.specs.declared.operator.BinaryOperator.{BinaryOperator}
use Rattle.wcps_text.specs.declared.operator.BinaryOperator.TheVariants as binaries
use Rattle.wcps_text.specs.Token.{Tok, number, name, dollar, word, sign}
use Rattle.wcps_text.specs.Tree as tree
use Rattle.wcps_text.specs.Tree.{Tree, Subs, no_subs, sub, at, bounds, Iters, no_iters, iter, only, always, encode, BindingTree, QueryTree}
use Rattle.wcps_text.specs.Grammar.{rank_of, binary_token, Condenses, by_sum, by_greatest, by_least, closed, open_ended, SpellsInt, unsigned, negative, Spells, post, coverage, condense, unary, tighter, binary, negate, parens, SpellsPost, literal, variable, grouped, field, brackets, SpellsSub, of_axis, SpellsSubs, last_sub, more_subs, position, SpellsInterval, between, SpellsIter, iterator, SpellsIters, last_iter, more_iters, conditional, plain_name, dollar_name, last_name, stands_for, last_binding, more_bindings, csv_word, encoded, for_all, IsSpelled, query}
use Rattle.wcps_text.proofs.Lexemes.{below_zero}
use Rattle.map_templates.specs.declared.params.Layer.{Layer}
use Rattle.map_templates.specs.declared.template.LocalOperation.{LocalOperation}
use Rattle.map_templates.specs.declared.template.LocalOperation.TheVariants as locals
use Rattle.map_templates.specs.declared.template.Summary.{Summary}
use Rattle.map_templates.specs.declared.template.Summary.TheVariants as summaries
use Rattle.map_templates.specs.TypedTrees.{condenser_of}
use Rattle.map_templates.proofs.Marks.{Mark, gap, tk, toks_of}
use Rattle.map_templates.proofs.Written.{Marks, field_marks, layer_marks, chosen_marks, local_marks, ending, local_query, listing, bound_marks, axis_marks, summary_mark, window_marks, moved_marks, conjunction, edge_marks, first_position, second_position, focal_value_marks, focal_edges_marks, focal_window_marks, focal_query, numbered, iterators_marks, position_marks, positions_marks, located_marks, next_iterator, zonal_value_marks, zonal_test_marks, zonal_box_marks, zonal_query}

-- ---- expressions

at1 : {ts rest : List Tok} {e : Tree} → SpellsPost ts e rest → Spells closed 1 ts e rest
at1 h = tighter (post h)

at2 : {ts rest : List Tok} {e : Tree} → SpellsPost ts e rest → Spells closed 2 ts e rest
at2 h = tighter (at1 h)

at3 : {ts rest : List Tok} {e : Tree} → SpellsPost ts e rest → Spells closed 3 ts e rest
at3 h = tighter (at2 h)

at5 : {ts rest : List Tok} {e : Tree} → SpellsPost ts e rest → Spells closed 5 ts e rest
at5 h = tighter (tighter (at3 h))

-- marks of an expression that binds as tight as a name does
abbrev pub IsPost : Marks → Tree → Type 0
IsPost A e = (rest : List Mark) → SpellsPost (toks_of (A rest)) e (toks_of rest)

abbrev pub field_expr : Tree → Option (List ℕ) → Tree
field_expr e None = e
field_expr e (Some f) = tree.field e f

abbrev pub layer_expr : List ℕ → Layer → Tree
layer_expr v layer = field_expr (tree.variable v) layer.field

field_post : (v : List ℕ) (f : Option (List ℕ)) (rest : List Mark) → SpellsPost (name v ∷ toks_of (field_marks f rest)) (field_expr (tree.variable v) f) (toks_of rest)
field_post v None rest = variable plain_name
field_post v (Some f) rest = field (variable plain_name)

layer_post : (v : List ℕ) (layer : Layer) → IsPost (layer_marks v layer) (layer_expr v layer)
layer_post v layer rest = field_post v layer.field rest

-- ---- local

abbrev chosen_expr : BinaryOperator → Tree → Tree → Tree → Tree
chosen_expr op v a b = tree.binary binaries.Multiply v (tree.binary op a b)

abbrev pub local_expr : LocalOperation → Tree → Tree → Tree
local_expr locals.Sum a b = tree.binary binaries.Add a b
local_expr locals.Difference a b = tree.binary binaries.Subtract a b
local_expr locals.Product a b = tree.binary binaries.Multiply a b
local_expr locals.Maximum a b = tree.binary binaries.Add (chosen_expr binaries.GreaterEqual a a b) (chosen_expr binaries.Less b a b)
local_expr locals.Minimum a b = tree.binary binaries.Add (chosen_expr binaries.LessEqual a a b) (chosen_expr binaries.Greater b a b)

chosen_spelled : (op : BinaryOperator) (V A B : Marks) (v a b : Tree) → rank_of op ≡ 3 → IsPost V v → IsPost A a → IsPost B b → (rest : List Mark)
    → Spells closed 1 (toks_of (chosen_marks V A (binary_token op) B rest)) (chosen_expr op v a b) (toks_of rest)
chosen_spelled op V A B v a b rank hv ha hb rest =
    binary binaries.Multiply refl (at1 (hv _))
    (post (grouped (parens (tighter (tighter (binary op rank (at3 (ha (gap ∷ tk (binary_token op) ∷ gap ∷ B (tk (sign signs.RightParen) ∷ rest)))) (at2 (hb (tk (sign signs.RightParen) ∷ rest)))))))))

local_spelled : (op : LocalOperation) (A B : Marks) (a b : Tree) → IsPost A a → IsPost B b → (rest : List Mark) → Spells closed 5 (toks_of (local_marks op A B rest)) (local_expr op a b) (toks_of rest)
local_spelled locals.Sum A B a b ha hb rest = tighter (tighter (tighter (binary binaries.Add refl (at2 (ha (gap ∷ tk (sign signs.Plus) ∷ gap ∷ B rest))) (at1 (hb rest)))))
local_spelled locals.Difference A B a b ha hb rest = tighter (tighter (tighter (binary binaries.Subtract refl (at2 (ha (gap ∷ tk (sign signs.Minus) ∷ gap ∷ B rest))) (at1 (hb rest)))))
local_spelled locals.Product A B a b ha hb rest = tighter (tighter (tighter (tighter (binary binaries.Multiply refl (at1 (ha (gap ∷ tk (sign signs.Star) ∷ gap ∷ B rest))) (post (hb rest))))))
local_spelled locals.Maximum A B a b ha hb rest =
    tighter (tighter (tighter (binary binaries.Add refl
    (tighter (chosen_spelled binaries.GreaterEqual A A B a a b refl ha ha hb (gap ∷ tk (sign signs.Plus) ∷ gap ∷ chosen_marks B A (sign signs.Less) B rest)))
    (chosen_spelled binaries.Less B A B b a b refl hb ha hb rest))))
local_spelled locals.Minimum A B a b ha hb rest =
    tighter (tighter (tighter (binary binaries.Add refl
    (tighter (chosen_spelled binaries.LessEqual A A B a a b refl ha ha hb (gap ∷ tk (sign signs.Plus) ∷ gap ∷ chosen_marks B A (sign signs.Greater) B rest)))
    (chosen_spelled binaries.Greater B A B b a b refl hb ha hb rest))))

abbrev pub bound_tree : List ℕ → List ℕ → BindingTree
bound_tree v c = record { variable = v; coverages = c ∷ [] }

abbrev pub query_of : List BindingTree → Tree → QueryTree
query_of bs e = record { bindings = bs; condition = always; item = encode e }

abbrev pub local_tree : LocalOperation → Layer → Layer → QueryTree
local_tree op first second =
    query_of (bound_tree (codes "a") first.coverage ∷ bound_tree (codes "b") second.coverage ∷ []) (local_expr op (layer_expr (codes "a") first) (layer_expr (codes "b") second))

pub local_query_spelled : (op : LocalOperation) (first second : Layer) → IsSpelled (toks_of (local_query op first second [])) (local_tree op first second)
local_query_spelled op first second =
    query (more_bindings (stands_for plain_name last_name) (last_binding (stands_for plain_name last_name)))
    (for_all (encoded (local_spelled op (layer_marks (codes "a") first) (layer_marks (codes "b") second) (layer_expr (codes "a") first) (layer_expr (codes "b") second) (layer_post (codes "a") first) (layer_post (codes "b") second) (ending [])) csv_word))

-- ---- bounds

bound_int : (z : ℤ) (rest : List Mark) → SpellsInt (toks_of (bound_marks z rest)) z (toks_of rest)
bound_int (pos n) rest = unsigned
bound_int (negsuc n) rest = subst (λ (z : ℤ). SpellsInt (sign signs.Minus ∷ number (suc n) ∷ toks_of rest) z (toks_of rest)) (below_zero n) negative

-- a bound as an expression: a sign is an operator
abbrev pub bound_expr : ℤ → Tree
bound_expr (pos n) = tree.number n
bound_expr (negsuc n) = tree.unary unaries.Negate (tree.number (suc n))

bound_spelled : (z : ℤ) (rest : List Mark) → Spells closed 0 (toks_of (bound_marks z rest)) (bound_expr z) (toks_of rest)
bound_spelled (pos n) rest = post literal
bound_spelled (negsuc n) rest = unary negate (post literal)

axis_interval : (x : Axis) (rest : List Mark)
    → SpellsInterval (toks_of (bound_marks x.lo (tk (sign signs.Colon) ∷ bound_marks x.hi rest))) (bounds x.lo x.hi) (toks_of rest)
axis_interval x rest = between (bound_int x.lo (tk (sign signs.Colon) ∷ bound_marks x.hi rest)) (bound_int x.hi rest)

axis_iterator : (v : List ℕ) (x : Axis) (rest : List Mark) → SpellsIter (dollar v ∷ toks_of (axis_marks x rest)) v x.name (bounds x.lo x.hi) (toks_of rest)
axis_iterator v x rest = iterator dollar_name (axis_interval x (tk (sign signs.RightParen) ∷ rest))

window_iterator : (v : List ℕ) (x : Axis) (r : ℕ) (rest : List Mark) → SpellsIter (dollar v ∷ toks_of (window_marks x r rest)) v x.name (bounds (pos 0 -ℤ pos r) (pos r)) (toks_of rest)
window_iterator v x r rest = iterator dollar_name (between negative unsigned)

-- ---- focal

summary_joins : (op : Summary) → Condenses (condenser_of op) (summary_mark op)
summary_joins summaries.Sum = by_sum
summary_joins summaries.Maximum = by_greatest
summary_joins summaries.Minimum = by_least

abbrev pub moved_expr : List ℕ → List ℕ → Tree
moved_expr p u = tree.binary binaries.Add (tree.variable p) (tree.variable u)

moved_spelled : (p u : List ℕ) (rest : List Mark) → Spells closed 2 (toks_of (moved_marks p u rest)) (moved_expr p u) (toks_of rest)
moved_spelled p u rest = binary binaries.Add refl (at2 (variable dollar_name)) (at1 (variable dollar_name))

abbrev pub at_least_expr : Tree → Axis → Tree
at_least_expr m x = tree.binary binaries.GreaterEqual m (bound_expr x.lo)

abbrev pub at_most_expr : Tree → Axis → Tree
at_most_expr m x = tree.binary binaries.LessEqual m (bound_expr x.hi)

at_least_spelled : (p u : List ℕ) (x : Axis) (rest : List Mark)
    → Spells closed 3 (toks_of (moved_marks p u (gap ∷ tk (sign signs.GreaterEqual) ∷ gap ∷ bound_marks x.lo rest))) (at_least_expr (moved_expr p u) x) (toks_of rest)
at_least_spelled p u x rest =
    binary binaries.GreaterEqual refl (tighter (moved_spelled p u (gap ∷ tk (sign signs.GreaterEqual) ∷ gap ∷ bound_marks x.lo rest))) (tighter (tighter (bound_spelled x.lo rest)))

at_most_spelled : (p u : List ℕ) (x : Axis) (rest : List Mark)
    → Spells closed 3 (toks_of (moved_marks p u (gap ∷ tk (sign signs.LessEqual) ∷ gap ∷ bound_marks x.hi rest))) (at_most_expr (moved_expr p u) x) (toks_of rest)
at_most_spelled p u x rest =
    binary binaries.LessEqual refl (tighter (moved_spelled p u (gap ∷ tk (sign signs.LessEqual) ∷ gap ∷ bound_marks x.hi rest))) (tighter (tighter (bound_spelled x.hi rest)))

abbrev pub first_moved : Tree
first_moved = moved_expr (codes "$p") (codes "$u")

abbrev pub second_moved : Tree
second_moved = moved_expr (codes "$q") (codes "$v")

abbrev both_expr : Tree → Tree → Tree
both_expr a b = tree.binary binaries.And a b

-- the location is one of the domain
abbrev pub edges_expr : Axis → Axis → Tree
edges_expr x y =
    both_expr (both_expr (both_expr (at_least_expr first_moved x) (at_most_expr first_moved x)) (at_least_expr second_moved y)) (at_most_expr second_moved y)

-- what is behind the first, the second and the third edge
abbrev edges_last : Axis → Marks
edges_last y rest = conjunction (moved_marks (codes "$q") (codes "$v") (gap ∷ tk (sign signs.LessEqual) ∷ gap ∷ bound_marks y.hi rest))

abbrev edges_third : Axis → Marks
edges_third y rest = conjunction (moved_marks (codes "$q") (codes "$v") (gap ∷ tk (sign signs.GreaterEqual) ∷ gap ∷ bound_marks y.lo (edges_last y rest)))

abbrev edges_second : Axis → Axis → Marks
edges_second x y rest = conjunction (moved_marks (codes "$p") (codes "$u") (gap ∷ tk (sign signs.LessEqual) ∷ gap ∷ bound_marks x.hi (edges_third y rest)))

abbrev all_edges : Axis → Axis → Marks
all_edges x y rest = edge_marks (moved_marks (codes "$p") (codes "$u")) x (conjunction (edge_marks (moved_marks (codes "$q") (codes "$v")) y rest))

edges_spelled : (x y : Axis) (rest : List Mark) → Spells closed 5 (toks_of (all_edges x y rest)) (edges_expr x y) (toks_of rest)
edges_spelled x y rest =
    tighter (binary binaries.And refl
    (binary binaries.And refl
    (binary binaries.And refl
    (tighter (at_least_spelled (codes "$p") (codes "$u") x (edges_second x y rest)))
    (at_most_spelled (codes "$p") (codes "$u") x (edges_third y rest)))
    (at_least_spelled (codes "$q") (codes "$v") y (edges_last y rest)))
    (at_most_spelled (codes "$q") (codes "$v") y rest))

abbrev pub focal_subs : Axis → Axis → Subs
focal_subs x y = sub x.name (at first_moved) (sub y.name (at second_moved) no_subs)

abbrev behind_first : Axis → Marks
behind_first y rest = listing (tk (name y.name) ∷ second_position rest)

focal_subs_spelled : (x y : Axis) (rest : List Mark) → SpellsSubs (name x.name ∷ toks_of (first_position (tk (name y.name) ∷ second_position rest))) (focal_subs x y) (sign signs.RightBracket ∷ toks_of (ending rest))
focal_subs_spelled x y rest =
    more_subs (of_axis (position (tighter (tighter (tighter (moved_spelled (codes "$p") (codes "$u") (tk (sign signs.RightParen) ∷ behind_first y rest)))))))
    (last_sub (of_axis (position (tighter (tighter (tighter (moved_spelled (codes "$q") (codes "$v") (tk (sign signs.RightParen) ∷ tk (sign signs.RightBracket) ∷ ending rest))))))))

abbrev pub focal_body : Layer → Axis → Axis → Tree
focal_body layer x y = tree.brackets (layer_expr (codes "a") layer) (focal_subs x y)

focal_body_spelled : (layer : Layer) (x y : Axis) (rest : List Mark)
    → SpellsPost (toks_of (layer_marks (codes "a") layer (tk (sign signs.LeftBracket) ∷ tk (name x.name) ∷ first_position (tk (name y.name) ∷ second_position rest)))) (focal_body layer x y) (toks_of (ending rest))
focal_body_spelled layer x y rest =
    brackets (layer_post (codes "a") layer (tk (sign signs.LeftBracket) ∷ tk (name x.name) ∷ first_position (tk (name y.name) ∷ second_position rest))) (focal_subs_spelled x y rest)

abbrev pub window_iters : Axis → Axis → ℕ → Iters
window_iters x y r = iter (codes "$u") x.name (bounds (pos 0 -ℤ pos r) (pos r)) (iter (codes "$v") y.name (bounds (pos 0 -ℤ pos r) (pos r)) no_iters)

abbrev pub place_iters : Axis → Axis → Iters
place_iters x y = iter (codes "$p") x.name (bounds x.lo x.hi) (iter (codes "$q") y.name (bounds y.lo y.hi) no_iters)

abbrev pub focal_condense : Summary → Layer → Axis → Axis → ℕ → Tree
focal_condense op layer x y r = tree.condense (condenser_of op) (window_iters x y r) (only (edges_expr x y)) (focal_body layer x y)

abbrev pub focal_expr : Summary → Layer → Axis → Axis → ℕ → Tree
focal_expr op layer x y r = tree.coverage (place_iters x y) (focal_condense op layer x y r)

-- what is behind the iterators of the window
abbrev behind_windows : Layer → Axis → Axis → Marks
behind_windows layer x y rest = focal_edges_marks x y (focal_value_marks layer x y rest)

abbrev windows_tail : Layer → Axis → Axis → ℕ → Marks
windows_tail layer x y r rest =
    gap ∷ tk (word words.Over) ∷ gap ∷ tk (dollar (codes "$u")) ∷ gap ∷ window_marks x r (next_iterator (codes "$v") (window_marks y r (behind_windows layer x y rest)))

focal_condense_spelled : (op : Summary) (layer : Layer) (x y : Axis) (r : ℕ) (rest : List Mark)
    → Spells open_ended 0 (word words.Condense ∷ toks_of (tk (summary_mark op) ∷ windows_tail layer x y r rest)) (focal_condense op layer x y r) (toks_of (ending rest))
focal_condense_spelled op layer x y r rest =
    condense (summary_joins op)
    (conditional (more_iters (window_iterator (codes "$u") x r (next_iterator (codes "$v") (window_marks y r (behind_windows layer x y rest)))) (last_iter (window_iterator (codes "$v") y r (behind_windows layer x y rest))))
    (edges_spelled x y (focal_value_marks layer x y rest)))
    (at5 (focal_body_spelled layer x y rest))

abbrev pub focal_tree : Summary → Layer → Axis → Axis → ℕ → QueryTree
focal_tree op layer x y r = query_of (bound_tree (codes "a") layer.coverage ∷ []) (focal_expr op layer x y r)

pub focal_query_spelled : (op : Summary) (layer : Layer) (x y : Axis) (r : ℕ) → IsSpelled (toks_of (focal_query op layer x y r [])) (focal_tree op layer x y r)
focal_query_spelled op layer x y r =
    query (last_binding (stands_for plain_name last_name))
    (for_all (encoded (tighter (tighter (tighter (tighter (tighter (coverage
    (more_iters (axis_iterator (codes "$p") x (next_iterator (codes "$q") (axis_marks y (focal_window_marks op x y r (behind_windows layer x y []))))) (last_iter (axis_iterator (codes "$q") y (focal_window_marks op x y r (behind_windows layer x y [])))))
    (tighter (tighter (tighter (tighter (tighter (focal_condense_spelled op layer x y r []))))))))))))
    csv_word))

-- ---- zonal

abbrev pub iters_expr : List ℕ → ℕ → List Axis → Iters
iters_expr stem k [] = no_iters
iters_expr stem k (x ∷ axes) = iter (numbered stem k) x.name (bounds x.lo x.hi) (iters_expr stem (k + 1) axes)

iters_spelled : (stem : List ℕ) (k : ℕ) (axes : List Axis) (rest : List Mark) → 1 ≤ length axes → SpellsIters (toks_of (iterators_marks stem k axes rest)) (iters_expr stem k axes) (toks_of rest)
iters_spelled stem k [] rest some = absurd (omega arith)
iters_spelled stem k (x ∷ []) rest some = last_iter (axis_iterator (numbered stem k) x rest)
iters_spelled stem k (x ∷ y ∷ axes) rest some =
    more_iters (axis_iterator (numbered stem k) x (listing (iterators_marks stem (k + 1) (y ∷ axes) rest))) (iters_spelled stem (k + 1) (y ∷ axes) rest (omega arith))

abbrev pub subs_expr : List ℕ → ℕ → List Axis → Subs
subs_expr stem k [] = no_subs
subs_expr stem k (x ∷ axes) = sub x.name (at (tree.variable (numbered stem k))) (subs_expr stem (k + 1) axes)

sub_spelled : (stem : List ℕ) (k : ℕ) (x : Axis) (rest : List Mark) → SpellsSub (toks_of (position_marks stem k x rest)) x.name (at (tree.variable (numbered stem k))) (toks_of rest)
sub_spelled stem k x rest = of_axis (position (at5 (variable dollar_name)))

subs_spelled : (stem : List ℕ) (k : ℕ) (axes : List Axis) (rest : List Mark) → 1 ≤ length axes → SpellsSubs (toks_of (positions_marks stem k axes rest)) (subs_expr stem k axes) (toks_of rest)
subs_spelled stem k [] rest some = absurd (omega arith)
subs_spelled stem k (x ∷ []) rest some = last_sub (sub_spelled stem k x rest)
subs_spelled stem k (x ∷ y ∷ axes) rest some = more_subs (sub_spelled stem k x (listing (positions_marks stem (k + 1) (y ∷ axes) rest))) (subs_spelled stem (k + 1) (y ∷ axes) rest (omega arith))

abbrev pub located_expr : List ℕ → Layer → List ℕ → List Axis → Tree
located_expr v layer stem axes = tree.brackets (layer_expr v layer) (subs_expr stem 1 axes)

located_spelled : (v : List ℕ) (layer : Layer) (stem : List ℕ) (axes : List Axis) (rest : List Mark) → 1 ≤ length axes
    → SpellsPost (toks_of (located_marks (layer_marks v layer) stem axes rest)) (located_expr v layer stem axes) (toks_of rest)
located_spelled v layer stem axes rest some =
    brackets (layer_post v layer (tk (sign signs.LeftBracket) ∷ positions_marks stem 1 axes (tk (sign signs.RightBracket) ∷ rest))) (subs_spelled stem 1 axes (tk (sign signs.RightBracket) ∷ rest) some)

abbrev pub zone_expr : Layer → List Axis → Tree
zone_expr zones axes = tree.binary binaries.Equal (located_expr (codes "z") zones (codes "$u") axes) (located_expr (codes "z") zones (codes "$p") axes)

abbrev pub zonal_condense : Summary → Layer → Layer → List Axis → Tree
zonal_condense op layer zones axes =
    tree.condense (condenser_of op) (iters_expr (codes "$u") 1 axes) (only (zone_expr zones axes)) (located_expr (codes "a") layer (codes "$u") axes)

abbrev pub zonal_expr : Summary → Layer → Layer → List Axis → Tree
zonal_expr op layer zones axes = tree.coverage (iters_expr (codes "$p") 1 axes) (zonal_condense op layer zones axes)

abbrev own_zone : Layer → List Axis → Marks
own_zone zones axes rest = gap ∷ tk (sign signs.Equal) ∷ gap ∷ located_marks (layer_marks (codes "z") zones) (codes "$p") axes rest

zone_spelled : (zones : Layer) (axes : List Axis) (rest : List Mark) → 1 ≤ length axes
    → Spells closed 5 (toks_of (located_marks (layer_marks (codes "z") zones) (codes "$u") axes (own_zone zones axes rest))) (zone_expr zones axes) (toks_of rest)
zone_spelled zones axes rest some =
    tighter (tighter (binary binaries.Equal refl (at3 (located_spelled (codes "z") zones (codes "$u") axes (own_zone zones axes rest) some)) (at2 (located_spelled (codes "z") zones (codes "$p") axes rest some))))

abbrev behind_box : Layer → Layer → List Axis → Marks
behind_box layer zones axes rest = zonal_test_marks zones axes (zonal_value_marks layer axes rest)

zonal_condense_spelled : (op : Summary) (layer zones : Layer) (axes : List Axis) (rest : List Mark) → 1 ≤ length axes
    → Spells open_ended 0 (word words.Condense ∷ toks_of (tk (summary_mark op) ∷ gap ∷ tk (word words.Over) ∷ gap ∷ iterators_marks (codes "$u") 1 axes (behind_box layer zones axes rest))) (zonal_condense op layer zones axes) (toks_of (ending rest))
zonal_condense_spelled op layer zones axes rest some =
    condense (summary_joins op)
    (conditional (iters_spelled (codes "$u") 1 axes (behind_box layer zones axes rest) some) (zone_spelled zones axes (zonal_value_marks layer axes rest) some))
    (at5 (located_spelled (codes "a") layer (codes "$u") axes (ending rest) some))

abbrev pub zonal_tree : Summary → Layer → Layer → List Axis → QueryTree
zonal_tree op layer zones axes = query_of (bound_tree (codes "a") layer.coverage ∷ bound_tree (codes "z") zones.coverage ∷ []) (zonal_expr op layer zones axes)

pub zonal_query_spelled : (op : Summary) (layer zones : Layer) (axes : List Axis) → 1 ≤ length axes → IsSpelled (toks_of (zonal_query op layer zones axes [])) (zonal_tree op layer zones axes)
zonal_query_spelled op layer zones axes some =
    query (more_bindings (stands_for plain_name last_name) (last_binding (stands_for plain_name last_name)))
    (for_all (encoded (tighter (tighter (tighter (tighter (tighter (coverage
    (iters_spelled (codes "$p") 1 axes (zonal_box_marks op axes (behind_box layer zones axes [])) some)
    (tighter (tighter (tighter (tighter (tighter (zonal_condense_spelled op layer zones axes [] some))))))))))))
    csv_word))
