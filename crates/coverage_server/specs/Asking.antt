-- The answer to the text of a query over a store: its comma-separated values, or the refusal that it gets.
use Rattle.std.specs.Prelude.{◌≡◌, ℕ, ◌<◌, ◌≤◌, ℤ, pos, List, map, length, Option, Some, None, Result, Ok, Err, slice_get, option_and_then, nat_le, nat_lt, ◌&&◌, if◌then◌else◌}
use Rattle.arr_core.specs.declared.refusal.Refusal.{Refusal}
use Rattle.arr_core.specs.declared.refusal.Refusal.TheVariants.{BadSyntax, BadValue, TooDeep}
use Rattle.arr_core.specs.declared.signature.Signature.{Signature}
use Rattle.arr_core.specs.Domains.{is_inside}
use Rattle.arr_core.specs.Stores.{Coverage, Store, found, value_at}
use Rattle.kvp_front.specs.Spelling.{max_query}
use Rattle.wcps_text.specs.declared.error.LexError.{LexError}
use Rattle.wcps_text.specs.Refusals.{refusal_of as token_refusal}
use Rattle.wcps_text.specs.Token.{Tok}
use Rattle.wcps_text.specs.Lexing.{Piece, Lexed, Refused, tokens_of}
use Rattle.wcps_text.specs.Limits.{max_height, query_height}
use Rattle.wcps_text.specs.Grammar.{IsSpelled}
use Rattle.wcps_text.specs.Tree.{QueryTree}
use Rattle.wcps_parse.specs.Outcome.{IsWithinLimits}
use Rattle.wcps_types.specs.declared.refusal.TypeRefusal.{TypeRefusal}
use Rattle.wcps_types.specs.Refusals.{refusal_of as type_refusal}
use Rattle.wcps_types.specs.Typed.{TypedTree}
use Rattle.wcps_types.specs.Queries.{typ_query}
use Rattle.wcps_mean.specs.declared.cell.PointFault.{PointFault}
use Rattle.wcps_mean.specs.declared.item.Item.{Item}
use Rattle.wcps_mean.specs.Faults.{refusal_of as fault_refusal}
use Rattle.wcps_mean.specs.Answer.{answer}
use Rattle.csv_out.specs.Csv.{csv}
use Rattle.raster_store.specs.Calls.{signature_of}

-- comma-separated values, or a refusal
abbrev pub QueryAnswer : Type 0
QueryAnswer = Result (List ℕ) Refusal

-- the stored number of a field of a coverage at a point, and 0 where there is none
abbrev pub number_in : Option Coverage → ℕ → List ℤ → ℤ
number_in None field point = pos 0
number_in (Some c) field point =
    if nat_lt field (length c.fields) && is_inside c.domain point then value_at c field point else pos 0

-- the coverage of the store that has the name of the one at a place
abbrev pub listed_in : Store → List Signature → ℕ → Option Coverage
listed_in store coverages n = option_and_then (λ (c : Signature). found c.name store) (slice_get coverages n)

-- the cells of some coverages of the store: by a coverage's place among them, a field's place in it, and a point
abbrev pub cells_of : Store → List Signature → ℕ → ℕ → List ℤ → ℤ
cells_of store coverages n field point = number_in (listed_in store coverages n) field point

-- items as comma-separated values, or a fault
abbrev pub items_answer : Result (List Item) PointFault → QueryAnswer
items_answer (Ok items) = Ok (csv items)
items_answer (Err fault) = Err (fault_refusal fault)

-- a typed query, or the refusal of its text
abbrev pub TypedAnswer : Type 0
TypedAnswer = Result TypedTree Refusal

-- a query that is typed, or its first refusal by types and limits
abbrev pub typed_answer : Result TypedTree TypeRefusal → TypedAnswer
typed_answer (Ok q) = Ok q
typed_answer (Err refusal) = Err (type_refusal refusal)

-- a query higher than 64 is too deep; else its types over the store's coverages count
abbrev pub tree_typed : Store → QueryTree → TypedAnswer
tree_typed store q = if nat_le (query_height q) max_height then typed_answer (typ_query (map signature_of store) q) else
    Err TooDeep

-- Tokens of which more than 512 brackets are open at once, or with more than 256 words `condense` and `coverage`, are
-- too deep; else they spell nothing and are bad syntax, else they spell a query.
pub data TokensTyped : Store → List Tok → TypedAnswer → Type 0 where
  too_deep : {store : Store} {ts : List Tok} → ¬ (IsWithinLimits ts) → TokensTyped store ts (Err TooDeep)
  no_query : {store : Store} {ts : List Tok} → IsWithinLimits ts → ((q : QueryTree) → ¬ (IsSpelled ts q))
      → TokensTyped store ts (Err BadSyntax)
  query : {store : Store} {ts : List Tok} (q : QueryTree) → IsWithinLimits ts → IsSpelled ts q
      → TokensTyped store ts (tree_typed store q)

-- What a text is, before any cell is read: a text that is too long is a bad value, else it has no tokens and is
-- refused as its first bytes that are none are, else it has tokens.
pub data TextTyped : Store → List ℕ → TypedAnswer → Type 0 where
  too_long : {store : Store} {text : List ℕ} → max_query < length text → TextTyped store text (Err BadValue)
  no_tokens : {store : Store} {text : List ℕ} (e : LexError) → length text ≤ max_query → Refused text e
      → TextTyped store text (Err (token_refusal e))
  lexed : {store : Store} {text : List ℕ} {r : TypedAnswer} (pieces : List Piece) → length text ≤ max_query
      → Lexed 0 text pieces
      → TokensTyped store (tokens_of pieces) r → TextTyped store text r

-- a typed query's value over the store's cells; a refusal stays
abbrev pub evaluated : Store → TypedAnswer → QueryAnswer
evaluated store (Ok q) = items_answer (answer (cells_of store q.coverages) q)
evaluated store (Err refusal) = Err refusal

-- the answer to a text: it is typed, then evaluated
abbrev pub TextAnswer : Store → List ℕ → QueryAnswer → Type 0
TextAnswer store text a = (r : TypedAnswer) × TextTyped store text r × (a ≡ evaluated store r)

-- a text has at most one answer over a store
abbrev pub HasOneAnswer : Type 0
HasOneAnswer = (store : Store) (text : List ℕ) (a b : QueryAnswer) → TextAnswer store text a → TextAnswer store text b
    → a ≡ b
