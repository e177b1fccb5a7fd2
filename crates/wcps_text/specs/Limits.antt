-- The limits of a query's text, and what they limit: how deep brackets stand, how many forms may nest, and how high a
-- tree is.
use Rattle.std.specs.Prelude.{ℕ, ◌+◌, ◌-◌, max, List, [], ◌∷◌}
use Rattle.wcps_text.specs.declared.token.Symbol.TheVariants as signs
use Rattle.arr_core.specs.declared.keyword.Keyword.TheVariants as words
use Rattle.wcps_text.specs.Token.{Tok, word, sign}
use Rattle.wcps_text.specs.Tree as tree
use Rattle.wcps_text.specs.Tree.{Tree, Parts, no_parts, part, Subs, no_subs, sub, PlaceTree, trim, at, IntervalTree, bounds, domain, Iters, no_iters, iter, Condition, always, only, ItemTree, encode, plain, QueryTree}

-- the most brackets that may be open at once
abbrev pub max_depth : ℕ
max_depth = 512

-- the most words `condense` and `coverage`
abbrev pub max_forms : ℕ
max_forms = 256

-- the greatest height of an expression
abbrev pub max_height : ℕ
max_height = 64

-- one more at an opening bracket, one less at a closing one, but not below 0
abbrev pub depth_behind : ℕ → Tok → ℕ
depth_behind d (sign signs.LeftParen) = d + 1
depth_behind d (sign signs.LeftBracket) = d + 1
depth_behind d (sign signs.LeftBrace) = d + 1
depth_behind d (sign signs.RightParen) = d - 1
depth_behind d (sign signs.RightBracket) = d - 1
depth_behind d (sign signs.RightBrace) = d - 1
depth_behind d _ = d

-- the most brackets that are open at once, where d are open at the front
abbrev pub deepest : ℕ → List Tok → ℕ
deepest d [] = d
deepest d (t ∷ ts) = max d (deepest (depth_behind d t) ts)

abbrev pub form_words : Tok → ℕ
form_words (word words.Condense) = 1
form_words (word words.Coverage) = 1
form_words _ = 0

-- how often the words `condense` and `coverage` stand among the tokens
abbrev pub forms : List Tok → ℕ
forms [] = 0
forms (t ∷ ts) = form_words t + forms ts

-- 1 without parts, else one more than the highest part
abbrev mutual
  pub height : Tree → ℕ
  height (tree.number n) = 1
  height (tree.truth b) = 1
  height (tree.variable x) = 1
  height (tree.unary op e) = height e + 1
  height (tree.binary op a b) = max (height a) (height b) + 1
  height (tree.reduce op e) = height e + 1
  height (tree.parts ps) = parts_height ps + 1
  height (tree.value_list is xs) = iters_height is + 1
  height (tree.field e x) = height e + 1
  height (tree.brackets e ss) = max (height e) (subs_height ss) + 1
  height (tree.coverage is e) = max (iters_height is) (height e) + 1
  height (tree.condense op is c e) = max (iters_height is) (max (condition_height c) (height e)) + 1

  pub parts_height : Parts → ℕ
  parts_height no_parts = 0
  parts_height (part x e ps) = max (height e) (parts_height ps)

  pub subs_height : Subs → ℕ
  subs_height no_subs = 0
  subs_height (sub a p ss) = max (place_height p) (subs_height ss)

  pub place_height : PlaceTree → ℕ
  place_height (trim i) = interval_height i
  place_height (at e) = height e

  pub interval_height : IntervalTree → ℕ
  interval_height (bounds lo hi) = 0
  interval_height (domain e x) = height e

  pub iters_height : Iters → ℕ
  iters_height no_iters = 0
  iters_height (iter v a i is) = max (interval_height i) (iters_height is)

  pub condition_height : Condition → ℕ
  condition_height always = 0
  condition_height (only e) = height e

abbrev pub item_height : ItemTree → ℕ
item_height (encode e) = height e
item_height (plain e) = height e

-- the highest expression of a query: its condition or what it returns
abbrev pub query_height : QueryTree → ℕ
query_height q = max (condition_height q.condition) (item_height q.item)
