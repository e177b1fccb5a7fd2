-- Which tokens are no query that the server takes, and why.
use Rattle.std.specs.Prelude.{◌<◌, ◌≤◌, ◌⊎◌, List}
use Rattle.wcps_text.specs.Token.{Tok}
use Rattle.wcps_text.specs.Tree.{QueryTree}
use Rattle.wcps_text.specs.Limits.{max_depth, max_forms, max_height, deepest, forms, query_height}
use Rattle.wcps_text.specs.Grammar.{IsSpelled}

-- no more brackets are open at once, and no more words `condense` and `coverage` stand among the tokens, than may
pub record IsWithinLimits (ts : List Tok) : Type 0 where
  pub brackets : deepest 0 ts ≤ max_depth
  pub words : forms ts ≤ max_forms

-- the tokens spell a query with an expression that is higher than it may be
pub record IsTooHigh (ts : List Tok) : Type 0 where
  pub tree : QueryTree
  pub spelled : IsSpelled ts tree
  pub high : max_height < query_height tree

-- more brackets are open at once, more of the words stand among the tokens, or the query is too high
abbrev pub IsTooDeep : List Tok → Type 0
IsTooDeep ts = (max_depth < deepest 0 ts) ⊎ ((max_forms < forms ts) ⊎ IsTooHigh ts)
