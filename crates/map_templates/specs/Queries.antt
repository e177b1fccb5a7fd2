-- That the text of a template is a query of the language, and what its answer is.
use Rattle.std.specs.Prelude.{◌≡◌, ℕ, ◌≤◌, List, length, All, Result, IfOk, Ok, String, string_bytes}
use Rattle.arr_core.specs.declared.domain.Axis.{Axis}
use Rattle.arr_core.specs.declared.signature.Signature.{Signature}
use Rattle.arr_core.specs.Domains.{IsDomain}
use Rattle.arr_core.specs.Fields.{IsField}
use Rattle.arr_core.specs.Names.{IsName}
use Rattle.wcps_text.specs.Lexing.{Piece, Lexed, tokens_of}
use Rattle.wcps_text.specs.Tree.{QueryTree}
use Rattle.wcps_text.specs.Limits.{max_height, query_height}
use Rattle.wcps_text.specs.Grammar.{IsSpelled}
use Rattle.wcps_parse.specs.Outcome.{IsWithinLimits}
use Rattle.wcps_types.specs.Typed.{TypedTree}
use Rattle.wcps_types.specs.Queries.{typ_query}
use Rattle.wcps_mean.specs.Answer.{answer}
use Rattle.map_templates.specs.Refusals.{Answer}
use Rattle.map_templates.specs.Expansion.{Operation}
use Rattle.map_templates.specs.Meaning.{Cells, AreIntegers, listed, array_of}
use Rattle.map_templates.specs.Laws.{IsSmall}

-- an axis has a name, and bounds of 32 bits
pub record IsAxis (a : Axis) : Type 0 where
  pub named : IsName a.name
  pub small : IsSmall a

-- what is known of a coverage: it has a name, a domain with at least one axis, and fields with names
pub record IsCoverage (s : Signature) : Type 0 where
  pub named : IsName s.name
  pub domain : IsDomain s.domain
  pub some : 1 ≤ length s.domain
  pub axes : All IsAxis s.domain
  pub fields : All IsField s.fields

-- the text has tokens, they spell the query, and all of it is within the limits of the language
pub record IsText (text : List ℕ) (q : QueryTree) : Type 0 where
  pub pieces : List Piece
  pub lexed : Lexed 0 text pieces
  pub within : IsWithinLimits (tokens_of pieces)
  pub spelled : IsSpelled (tokens_of pieces) q
  pub low : query_height q ≤ max_height

-- Where the types of the query are accepted, its answer over cells of 64 bits is the array that the operation gives, or
-- Overflow where a value of that leaves 64 bits somewhere. The cells are named as the coverages are.
abbrev pub IsAnswered : List Signature → Operation → QueryTree → Type 0
IsAnswered signatures o q = (t : TypedTree) (cells : Cells) → typ_query signatures q ≡ Ok t → AreIntegers cells
    → answer (listed cells t.coverages) t ≡ array_of cells o

-- the text is a query of the language, whose answer is what the operation gives
pub record IsQueryOf (signatures : List Signature) (o : Operation) (text : List ℕ) : Type 0 where
  pub query : QueryTree
  pub reads : IsText text query
  pub answered : IsAnswered signatures o query

-- a text that a call wrote is a query of the operation that is asked for, where the coverages are as a store has them
abbrev pub AsksQuery : {A E : Type 0} → List Signature → Answer Operation → Result (String A) E → Type 0
AsksQuery signatures a result =
    All IsCoverage signatures → IfOk result
    (λ text. (o : Operation) → a ≡ Ok o → IsQueryOf signatures o (string_bytes text))
