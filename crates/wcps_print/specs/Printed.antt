-- Texts that spell a query, and those that a parser takes.
use Rattle.std.specs.Prelude.{ℕ, ◌≤◌, List}
use Rattle.wcps_text.specs.Tree.{QueryTree}
use Rattle.wcps_text.specs.Lexing.{Piece, Lexed, tokens_of}
use Rattle.wcps_text.specs.Limits.{max_depth, max_forms, max_height, deepest, forms, query_height}
use Rattle.wcps_text.specs.Grammar.{IsSpelled}

-- the text has tokens, and they spell the query
pub record IsTextOf (text : List ℕ) (q : QueryTree) : Type 0 where
  pub pieces : List Piece
  pub lexed : Lexed 0 text pieces
  pub spelled : IsSpelled (tokens_of pieces) q

-- the same within the limits of a query: of the brackets that are open at once, of the words `condense` and `coverage`,
-- and of the height of its expressions
pub record IsTextWithin (text : List ℕ) (q : QueryTree) : Type 0 where
  pub pieces : List Piece
  pub lexed : Lexed 0 text pieces
  pub spelled : IsSpelled (tokens_of pieces) q
  pub brackets : deepest 0 (tokens_of pieces) ≤ max_depth
  pub words : forms (tokens_of pieces) ≤ max_forms
  pub low : query_height q ≤ max_height

-- this text is one of the query, in that sense, if any text is
abbrev pub Inherits : (List ℕ → QueryTree → Type 0) → QueryTree → List ℕ → Type 0
Inherits Is q printed = (text : List ℕ) → Is text q → Is printed q
