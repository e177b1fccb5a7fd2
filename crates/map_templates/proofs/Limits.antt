-- The queries of the templates are within the limits of the language.
use Rattle.std.proofs.Common.{ℕ, ◌+◌, ◌*◌, ◌≤◌, ℤ, pos, negsuc, List, [], ◌∷◌, length, codes, Option, Some, None, arith}
use Rattle.arr_core.specs.declared.domain.Axis.{Axis}
use Rattle.wcps_text.specs.declared.token.Symbol.TheVariants as signs
use Rattle.arr_core.specs.declared.keyword.Keyword.{Keyword}
use Rattle.arr_core.specs.declared.keyword.Keyword.TheVariants as words
use Rattle.wcps_text.specs.Token.{Tok, number, name, dollar, quoted, word, sign}
use Rattle.wcps_text.specs.Tree as tree
use Rattle.wcps_text.specs.Limits.{depth_behind, deepest, form_words, forms, query_height, subs_height, iters_height, height}
use Rattle.wcps_parse.specs.Outcome.{IsWithinLimits}
use Rattle.map_templates.specs.declared.params.Layer.{Layer}
use Rattle.map_templates.specs.declared.template.LocalOperation.{LocalOperation}
use Rattle.map_templates.specs.declared.template.LocalOperation.TheVariants as locals
use Rattle.map_templates.specs.declared.template.Summary.{Summary}
use Rattle.map_templates.proofs.Marks.{Mark, gap, tk, toks_of}
use Rattle.map_templates.proofs.Written.{Marks, field_marks, layer_marks, local_marks, ending, local_query, bound_marks, axis_marks, focal_query, iterators_marks, positions_marks, located_marks, zonal_query, listing, focal_value_marks, focal_edges_marks, focal_window_marks, edge_marks, moved_marks, conjunction, first_position, second_position, next_iterator, zonal_value_marks, zonal_test_marks, zonal_box_marks}
use Rattle.map_templates.proofs.Spelled.{field_expr, layer_expr, local_tree, focal_tree, zonal_tree, iters_expr, subs_expr, bound_expr, located_expr}

-- ---- brackets and words: not more than tokens

depth_step : (d : ℕ) (t : Tok) → depth_behind d t ≤ d + 1
depth_step d (number n) = omega arith
depth_step d (name n) = omega arith
depth_step d (dollar n) = omega arith
depth_step d (quoted n) = omega arith
depth_step d (word n) = omega arith
depth_step d (sign signs.LeftParen) = omega arith
depth_step d (sign signs.RightParen) = omega arith
depth_step d (sign signs.LeftBracket) = omega arith
depth_step d (sign signs.RightBracket) = omega arith
depth_step d (sign signs.LeftBrace) = omega arith
depth_step d (sign signs.RightBrace) = omega arith
depth_step d (sign signs.Comma) = omega arith
depth_step d (sign signs.Semicolon) = omega arith
depth_step d (sign signs.Colon) = omega arith
depth_step d (sign signs.Dot) = omega arith
depth_step d (sign signs.Less) = omega arith
depth_step d (sign signs.LessEqual) = omega arith
depth_step d (sign signs.Greater) = omega arith
depth_step d (sign signs.GreaterEqual) = omega arith
depth_step d (sign signs.Equal) = omega arith
depth_step d (sign signs.NotEqual) = omega arith
depth_step d (sign signs.Plus) = omega arith
depth_step d (sign signs.Minus) = omega arith
depth_step d (sign signs.Star) = omega arith
depth_step d (sign signs.Slash) = omega arith

deepest_bound : (ts : List Tok) (d : ℕ) → deepest d ts ≤ d + length ts
deepest_bound [] d = omega arith
deepest_bound (t ∷ ts) d = omega (arith, depth_step d t, deepest_bound ts (depth_behind d t))

form_bound : (k : Keyword) → form_words (word k) ≤ 1
form_bound words.For = omega arith
form_bound words.In = omega arith
form_bound words.Where = omega arith
form_bound words.Return = omega arith
form_bound words.Encode = omega arith
form_bound words.Csv = omega arith
form_bound words.Coverage = omega arith
form_bound words.Over = omega arith
form_bound words.Values = omega arith
form_bound words.Value = omega arith
form_bound words.List = omega arith
form_bound words.Condense = omega arith
form_bound words.Using = omega arith
form_bound words.And = omega arith
form_bound words.Or = omega arith
form_bound words.Xor = omega arith
form_bound words.Not = omega arith
form_bound words.Abs = omega arith
form_bound words.Bit = omega arith
form_bound words.True = omega arith
form_bound words.False = omega arith
form_bound words.Count = omega arith
form_bound words.Some = omega arith
form_bound words.All = omega arith
form_bound words.Add = omega arith
form_bound words.Avg = omega arith
form_bound words.Min = omega arith
form_bound words.Max = omega arith
form_bound words.ImageCrsDomain = omega arith

forms_bound : (ts : List Tok) → forms ts ≤ length ts
forms_bound [] = omega arith
forms_bound (number n ∷ ts) = omega (arith, forms_bound ts)
forms_bound (name n ∷ ts) = omega (arith, forms_bound ts)
forms_bound (dollar n ∷ ts) = omega (arith, forms_bound ts)
forms_bound (quoted n ∷ ts) = omega (arith, forms_bound ts)
forms_bound (sign n ∷ ts) = omega (arith, forms_bound ts)
forms_bound (word k ∷ ts) = omega (arith, form_bound k, forms_bound ts)

few_tokens : (ts : List Tok) → length ts ≤ 256 → IsWithinLimits ts
few_tokens ts few = record { brackets = omega (arith, deepest_bound ts 0); words = omega (arith, forms_bound ts) }

-- ---- how many tokens there are

abbrev many : List Mark → ℕ
many ms = length (toks_of ms)

field_many : (f : Option (List ℕ)) (rest : List Mark) → many (field_marks f rest) ≤ 2 + many rest
field_many None rest = omega arith
field_many (Some f) rest = omega arith

layer_many : (v : List ℕ) (layer : Layer) (rest : List Mark) → many (layer_marks v layer rest) ≤ 3 + many rest
layer_many v layer rest = omega (arith, field_many layer.field rest)

bound_many : (z : ℤ) (rest : List Mark) → many (bound_marks z rest) ≤ 2 + many rest
bound_many (pos n) rest = omega arith
bound_many (negsuc n) rest = omega arith

axis_many : (x : Axis) (rest : List Mark) → many (axis_marks x rest) ≤ 8 + many rest
axis_many x rest = omega (arith, bound_many x.lo (tk (sign signs.Colon) ∷ bound_marks x.hi (tk (sign signs.RightParen) ∷ rest)), bound_many x.hi (tk (sign signs.RightParen) ∷ rest))

abbrev A : Layer → Marks
A first = layer_marks (codes "a") first

abbrev B : Layer → Marks
B second = layer_marks (codes "b") second

abbrev close : List Mark → List Mark
close rest = tk (sign signs.RightParen) ∷ rest

abbrev tail_of : Tok → Marks → List Mark → List Mark
tail_of t M rest = gap ∷ tk t ∷ gap ∷ M rest

pair_many : (first second : Layer) (t : Tok) (rest : List Mark) → many (A first (tail_of t (B second) rest)) ≤ 7 + many rest
pair_many first second t rest = omega (arith, layer_many (codes "a") first (tail_of t (B second) rest), layer_many (codes "b") second rest)

abbrev chosen : Tok → Layer → Layer → List Mark → List Mark
chosen t first second rest = gap ∷ tk (sign signs.Star) ∷ gap ∷ tk (sign signs.LeftParen) ∷ A first (tail_of t (B second) (close rest))

value_many : (op : LocalOperation) (first second : Layer) (rest : List Mark) → many (local_marks op (A first) (B second) rest) ≤ 30 + many rest
value_many locals.Sum first second rest = omega (arith, pair_many first second (sign signs.Plus) rest)
value_many locals.Difference first second rest = omega (arith, pair_many first second (sign signs.Minus) rest)
value_many locals.Product first second rest = omega (arith, pair_many first second (sign signs.Star) rest)
value_many locals.Maximum first second rest =
    let last = chosen (sign signs.Less) first second rest in
    let back = gap ∷ tk (sign signs.Plus) ∷ gap ∷ B second last in
    omega (arith, layer_many (codes "a") first (chosen (sign signs.GreaterEqual) first second back), pair_many first second (sign signs.GreaterEqual) (close back), layer_many (codes "b") second last, pair_many first second (sign signs.Less) (close rest))
value_many locals.Minimum first second rest =
    let last = chosen (sign signs.Greater) first second rest in
    let back = gap ∷ tk (sign signs.Plus) ∷ gap ∷ B second last in
    omega (arith, layer_many (codes "a") first (chosen (sign signs.LessEqual) first second back), pair_many first second (sign signs.LessEqual) (close back), layer_many (codes "b") second last, pair_many first second (sign signs.Greater) (close rest))

pub local_within : (op : LocalOperation) (first second : Layer) → IsWithinLimits (toks_of (local_query op first second []))
local_within op first second = few_tokens _ (omega (arith, value_many op first second (ending [])))

edge_many : (p u : List ℕ) (x : Axis) (rest : List Mark) → many (edge_marks (moved_marks p u) x rest) ≤ 13 + many rest
edge_many p u x rest =
    omega (arith, bound_many x.lo (conjunction (moved_marks p u (gap ∷ tk (sign signs.LessEqual) ∷ gap ∷ bound_marks x.hi rest))), bound_many x.hi rest)

focal_value_many : (layer : Layer) (x y : Axis) → many (focal_value_marks layer x y []) ≤ 30
focal_value_many layer x y = omega (arith, layer_many (codes "a") layer (tk (sign signs.LeftBracket) ∷ tk (name x.name) ∷ first_position (tk (name y.name) ∷ second_position [])))

focal_edges_many : (x y : Axis) (rest : List Mark) → many (focal_edges_marks x y rest) ≤ 30 + many rest
focal_edges_many x y rest =
    omega (arith, edge_many (codes "$p") (codes "$u") x (conjunction (edge_marks (moved_marks (codes "$q") (codes "$v")) y rest)), edge_many (codes "$q") (codes "$v") y rest)

focal_window_many : (op : Summary) (x y : Axis) (r : ℕ) (rest : List Mark) → many (focal_window_marks op x y r rest) ≤ 30 + many rest
focal_window_many op x y r rest = omega arith

pub focal_within : (op : Summary) (layer : Layer) (x y : Axis) (r : ℕ) → IsWithinLimits (toks_of (focal_query op layer x y r []))
focal_within op layer x y r =
    let value = focal_value_marks layer x y [] in
    let edges = focal_edges_marks x y value in
    let windows = focal_window_marks op x y r edges in
    few_tokens _
    (omega (arith, axis_many x (next_iterator (codes "$q") (axis_marks y windows)), axis_many y windows, focal_window_many op x y r edges, focal_edges_many x y value, focal_value_many layer x y))

iterators_many : (stem : List ℕ) (k : ℕ) (axes : List Axis) (rest : List Mark) → many (iterators_marks stem k axes rest) ≤ length axes * 10 + many rest
iterators_many stem k [] rest = omega arith
iterators_many stem k (x ∷ []) rest = omega (arith, axis_many x rest)
iterators_many stem k (x ∷ y ∷ axes) rest =
    let more = listing (iterators_marks stem (k + 1) (y ∷ axes) rest) in
    omega (arith, axis_many x more, iterators_many stem (k + 1) (y ∷ axes) rest)

positions_many : (stem : List ℕ) (k : ℕ) (axes : List Axis) (rest : List Mark) → many (positions_marks stem k axes rest) ≤ length axes * 5 + many rest
positions_many stem k [] rest = omega arith
positions_many stem k (x ∷ []) rest = omega arith
positions_many stem k (x ∷ y ∷ axes) rest = omega (arith, positions_many stem (k + 1) (y ∷ axes) rest)

located_many : (v : List ℕ) (layer : Layer) (stem : List ℕ) (axes : List Axis) (rest : List Mark) → many (located_marks (layer_marks v layer) stem axes rest) ≤ length axes * 5 + (5 + many rest)
located_many v layer stem axes rest =
    let last = tk (sign signs.RightBracket) ∷ rest in
    omega (arith, layer_many v layer (tk (sign signs.LeftBracket) ∷ positions_marks stem 1 axes last), positions_many stem 1 axes last)

pub zonal_within : (op : Summary) (layer zones : Layer) (axes : List Axis) → length axes ≤ 6 → IsWithinLimits (toks_of (zonal_query op layer zones axes []))
zonal_within op layer zones axes few =
    let value = zonal_value_marks layer axes [] in
    let own = located_marks (layer_marks (codes "z") zones) (codes "$p") axes value in
    let test = zonal_test_marks zones axes value in
    let box = zonal_box_marks op axes test in
    few_tokens _
    (omega (
      arith,
      few,
      iterators_many (codes "$p") 1 axes box,
      iterators_many (codes "$u") 1 axes test,
      located_many (codes "z") zones (codes "$u") axes (gap ∷ tk (sign signs.Equal) ∷ gap ∷ own),
      located_many (codes "z") zones (codes "$p") axes value,
      located_many (codes "a") layer (codes "$u") axes (ending []),
    ))

-- ---- heights

field_height : (v : List ℕ) (layer : Layer) → height (layer_expr v layer) ≤ 2
field_height v layer = by_field layer.field
  where
    by_field : (f : Option (List ℕ)) → height (field_expr (tree.variable v) f) ≤ 2
    by_field None = omega arith
    by_field (Some f) = omega arith

pub local_low : (op : LocalOperation) (first second : Layer) → query_height (local_tree op first second) ≤ 64
local_low locals.Sum first second = omega (arith, field_height (codes "a") first, field_height (codes "b") second)
local_low locals.Difference first second = omega (arith, field_height (codes "a") first, field_height (codes "b") second)
local_low locals.Product first second = omega (arith, field_height (codes "a") first, field_height (codes "b") second)
local_low locals.Maximum first second = omega (arith, field_height (codes "a") first, field_height (codes "b") second)
local_low locals.Minimum first second = omega (arith, field_height (codes "a") first, field_height (codes "b") second)

bound_height : (z : ℤ) → height (bound_expr z) ≤ 2
bound_height (pos n) = omega arith
bound_height (negsuc n) = omega arith

pub focal_low : (op : Summary) (layer : Layer) (x y : Axis) (r : ℕ) → query_height (focal_tree op layer x y r) ≤ 64
focal_low op layer x y r = omega (arith, field_height (codes "a") layer, bound_height x.lo, bound_height x.hi, bound_height y.lo, bound_height y.hi)

iters_low : (stem : List ℕ) (k : ℕ) (axes : List Axis) → iters_height (iters_expr stem k axes) ≤ 0
iters_low stem k [] = omega arith
iters_low stem k (x ∷ axes) = omega (arith, iters_low stem (k + 1) axes)

subs_low : (stem : List ℕ) (k : ℕ) (axes : List Axis) → subs_height (subs_expr stem k axes) ≤ 1
subs_low stem k [] = omega arith
subs_low stem k (x ∷ axes) = omega (arith, subs_low stem (k + 1) axes)

located_low : (v : List ℕ) (layer : Layer) (stem : List ℕ) (axes : List Axis) → height (located_expr v layer stem axes) ≤ 3
located_low v layer stem axes = omega (arith, field_height v layer, subs_low stem 1 axes)

pub zonal_low : (op : Summary) (layer zones : Layer) (axes : List Axis) → query_height (zonal_tree op layer zones axes) ≤ 64
zonal_low op layer zones axes =
    omega (arith, located_low (codes "z") zones (codes "$u") axes, located_low (codes "z") zones (codes "$p") axes, located_low (codes "a") layer (codes "$u") axes, iters_low (codes "$p") 1 axes, iters_low (codes "$u") 1 axes)
