-- What stands at the front of tokens, and the tokens behind it.
use Rattle.std.specs.Prelude.{ℕ, ℤ, pos, ◌-ℤ◌, List, [], ◌∷◌, Bool, true, false, ◌||◌, Option, Some, None, option_and_then, if◌then◌else◌, codes, map, nat_le}
use Rattle.std.specs.Str.{bytes_eq}
use Rattle.std.specs.Char.{to_ascii_lowercase}
use denote.Enum.Bare.{sameb}
use Rattle.wcps_text.specs.contracts.token.Symbol as symbol
use Rattle.arr_core.specs.contracts.keyword.Keyword as keyword
use Rattle.wcps_text.specs.declared.token.Symbol.{Symbol}
use Rattle.wcps_text.specs.declared.token.Symbol.TheVariants as signs
use Rattle.arr_core.specs.declared.keyword.Keyword.{Keyword}
use Rattle.arr_core.specs.declared.keyword.Keyword.TheVariants as words
use Rattle.wcps_text.specs.declared.operator.UnaryOperator.{UnaryOperator}
use Rattle.wcps_text.specs.declared.operator.UnaryOperator.TheVariants as unaries
use Rattle.wcps_text.specs.declared.operator.BinaryOperator.{BinaryOperator}
use Rattle.wcps_text.specs.declared.operator.BinaryOperator.TheVariants as binaries
use Rattle.wcps_text.specs.declared.operator.Aggregate.{Aggregate}
use Rattle.wcps_text.specs.declared.operator.Aggregate.TheVariants as aggregates
use Rattle.wcps_text.specs.declared.tree.ListItem.{ListItem}
use Rattle.wcps_text.specs.declared.tree.ListItem.TheVariants as list_items
use Rattle.wcps_text.specs.Token.{Tok, number, name, dollar, quoted, word, sign}
use Rattle.wcps_text.specs.Tree.{IntervalTree, bounds}
use Rattle.wcps_text.specs.Grammar.{rank_of}
use Rattle.wcps_parse.specs.declared.front.Postfix.{Postfix}
use Rattle.wcps_parse.specs.declared.front.Postfix.TheVariants as postfixes
use Rattle.wcps_parse.specs.declared.front.Start.{Start}
use Rattle.wcps_parse.specs.declared.front.Start.TheVariants as starts

-- what was read, and the tokens behind it
abbrev pub Reading : Type 0 → Type 0
Reading A = Option (A × List Tok)

infixl 10 ◌>>=◌
abbrev pub ◌>>=◌ : {A B : Type 0} → Option A → (A → Option B) → Option B
o >>= f = option_and_then f o

-- one thing where there is a value, and another where there is none
abbrev pub choose : {A B : Type 0} → Option A → B → (A → B) → B
choose None b f = b
choose (Some a) b f = f a

unfoldable pub sign_at : Symbol → List Tok → Option (List Tok)
sign_at s (sign t ∷ ts) = if sameb symbol.the_type t s then Some ts else None
sign_at s _ = None

unfoldable pub word_at : Keyword → List Tok → Option (List Tok)
word_at s (word t ∷ ts) = if sameb keyword.the_type t s then Some ts else None
word_at s _ = None

unfoldable pub name_at : List Tok → Reading (List ℕ)
name_at (name x ∷ ts) = Some (x, ts)
name_at _ = None

unfoldable pub variable_at : List Tok → Reading (List ℕ)
variable_at (name x ∷ ts) = Some (x, ts)
variable_at (dollar x ∷ ts) = Some (x, ts)
variable_at _ = None

unfoldable pub literal_at : List Tok → Reading ℕ
literal_at (number n ∷ ts) = Some (n, ts)
literal_at _ = None

unfoldable pub int_at : List Tok → Reading ℤ
int_at (number n ∷ ts) = Some (pos n, ts)
int_at (sign signs.Plus ∷ number n ∷ ts) = Some (pos n, ts)
int_at (sign signs.Minus ∷ number n ∷ ts) = Some (pos 0 -ℤ pos n, ts)
int_at _ = None

unfoldable pub bounds_at : List Tok → Reading IntervalTree
bounds_at ts =
    int_at ts >>= λ lo. sign_at signs.Colon lo.1 >>= λ mid. int_at mid >>= λ hi. Some (bounds lo.0 hi.0, hi.1)

unfoldable pub truth_at : List Tok → Reading ListItem
truth_at (word words.True ∷ ts) = Some (list_items.Truth true, ts)
truth_at (word words.False ∷ ts) = Some (list_items.Truth false, ts)
truth_at _ = None

unfoldable pub item_at : List Tok → Reading ListItem
item_at ts = choose (int_at ts) (truth_at ts) (λ z. Some (list_items.Int z.0, z.1))

unfoldable pub prefix_at : List Tok → Reading UnaryOperator
prefix_at (sign signs.Minus ∷ ts) = Some (unaries.Negate, ts)
prefix_at (sign signs.Plus ∷ ts) = Some (unaries.Plus, ts)
prefix_at (word words.Not ∷ ts) = Some (unaries.Not, ts)
prefix_at _ = None

abbrev pub operator : Tok → Option BinaryOperator
operator (sign signs.Star) = Some binaries.Multiply
operator (sign signs.Slash) = Some binaries.Divide
operator (sign signs.Plus) = Some binaries.Add
operator (sign signs.Minus) = Some binaries.Subtract
operator (sign signs.Less) = Some binaries.Less
operator (sign signs.LessEqual) = Some binaries.LessEqual
operator (sign signs.Greater) = Some binaries.Greater
operator (sign signs.GreaterEqual) = Some binaries.GreaterEqual
operator (sign signs.Equal) = Some binaries.Equal
operator (sign signs.NotEqual) = Some binaries.NotEqual
operator (word words.And) = Some binaries.And
operator (word words.Or) = Some binaries.Or
operator (word words.Xor) = Some binaries.Xor
operator _ = None

-- an operator of at most that rank
unfoldable pub binary_at : ℕ → List Tok → Reading BinaryOperator
binary_at r [] = None
binary_at r (t ∷ ts) = operator t >>= λ op. if nat_le (rank_of op) r then Some (op, ts) else None

unfoldable pub condenser_at : List Tok → Reading Aggregate
condenser_at (sign signs.Plus ∷ ts) = Some (aggregates.Sum, ts)
condenser_at (sign signs.Star ∷ ts) = Some (aggregates.Product, ts)
condenser_at (word words.Max ∷ ts) = Some (aggregates.Greatest, ts)
condenser_at (word words.Min ∷ ts) = Some (aggregates.Least, ts)
condenser_at (word words.And ∷ ts) = Some (aggregates.Every, ts)
condenser_at (word words.Or ∷ ts) = Some (aggregates.Any, ts)
condenser_at _ = None

unfoldable pub postfix_at : List Tok → Reading Postfix
postfix_at (sign signs.Dot ∷ ts) = Some (postfixes.Field, ts)
postfix_at (sign signs.LeftBracket ∷ ts) = Some (postfixes.Brackets, ts)
postfix_at _ = None

-- how an expression begins that has no operator before it
pub data Begin : Type 0 where
  with_number : ℕ → Begin
  with_truth : Bool → Begin
  with_variable : List ℕ → Begin
  with_paren : Begin
  with_brace : Begin
  with_abs : Begin
  with_bit : Begin
  with_reduce : Aggregate → Begin
  with_coverage : Begin
  with_condense : Begin

abbrev pub begin_of : Start → Begin
begin_of (starts.Number n) = with_number n.value
begin_of (starts.Truth b) = with_truth b
begin_of (starts.Variable x) = with_variable x.now
begin_of starts.Paren = with_paren
begin_of starts.Brace = with_brace
begin_of starts.Abs = with_abs
begin_of starts.Bit = with_bit
begin_of (starts.Reduce op) = with_reduce op
begin_of starts.Coverage = with_coverage
begin_of starts.Condense = with_condense

unfoldable pub start_at : List Tok → Reading Begin
start_at (number n ∷ ts) = Some (with_number n, ts)
start_at (name x ∷ ts) = Some (with_variable x, ts)
start_at (dollar x ∷ ts) = Some (with_variable x, ts)
start_at (sign signs.LeftParen ∷ ts) = Some (with_paren, ts)
start_at (sign signs.LeftBrace ∷ ts) = Some (with_brace, ts)
start_at (word words.True ∷ ts) = Some (with_truth true, ts)
start_at (word words.False ∷ ts) = Some (with_truth false, ts)
start_at (word words.Abs ∷ ts) = Some (with_abs, ts)
start_at (word words.Bit ∷ ts) = Some (with_bit, ts)
start_at (word words.Count ∷ ts) = Some (with_reduce aggregates.Count, ts)
start_at (word words.Some ∷ ts) = Some (with_reduce aggregates.Any, ts)
start_at (word words.All ∷ ts) = Some (with_reduce aggregates.Every, ts)
start_at (word words.Add ∷ ts) = Some (with_reduce aggregates.Sum, ts)
start_at (word words.Avg ∷ ts) = Some (with_reduce aggregates.Average, ts)
start_at (word words.Min ∷ ts) = Some (with_reduce aggregates.Least, ts)
start_at (word words.Max ∷ ts) = Some (with_reduce aggregates.Greatest, ts)
start_at (word words.Coverage ∷ ts) = Some (with_coverage, ts)
start_at (word words.Condense ∷ ts) = Some (with_condense, ts)
start_at _ = None

-- `csv` or `text/csv` between quotes, in any ASCII case
abbrev pub is_csv : List ℕ → Bool
is_csv w = bytes_eq (map to_ascii_lowercase w) (codes "\"csv\"") || bytes_eq (map to_ascii_lowercase w)
    (codes "\"text/csv\"")

unfoldable pub format_at : List Tok → Option (List Tok)
format_at (word words.Csv ∷ ts) = Some ts
format_at (quoted w ∷ ts) = if is_csv w then Some ts else None
format_at _ = None
