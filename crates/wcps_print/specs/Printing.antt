-- The tokens of a printed query, and how they are written. Each function gives the tokens of its thing, and then the
-- rest.
use Rattle.std.specs.Prelude.{◌≡◌, ℕ, suc, Option, Box, ℤ, pos, negsuc, List, [], ◌∷◌, ◌++◌, Bool, true, false, cond, ◌==◌, codes, get_or, decimal, String, string_bytes}
use Rattle.std.specs.Global.{Global}
use Rattle.wcps_text.specs.declared.token.Symbol.{Symbol}
use Rattle.wcps_text.specs.declared.token.Symbol.TheVariants as signs
use Rattle.arr_core.specs.declared.keyword.Keyword.TheVariants as words
use Rattle.wcps_text.specs.declared.operator.UnaryOperator.{UnaryOperator}
use Rattle.wcps_text.specs.declared.operator.UnaryOperator.TheVariants as unaries
use Rattle.wcps_text.specs.declared.operator.BinaryOperator.{BinaryOperator}
use Rattle.wcps_text.specs.declared.operator.BinaryOperator.TheVariants as binaries
use Rattle.wcps_text.specs.declared.operator.Aggregate.{Aggregate}
use Rattle.wcps_text.specs.declared.operator.Aggregate.TheVariants as aggregates
use Rattle.wcps_text.specs.declared.tree.Expr.{Expr}
use Rattle.wcps_text.specs.declared.tree.Iter.{Iter}
use Rattle.wcps_text.specs.declared.tree.ListItem.{ListItem}
use Rattle.wcps_text.specs.declared.tree.ListItem.TheVariants as list_items
use Rattle.wcps_text.specs.Token.{Tok, number, name, dollar, quoted, word, sign}
use Rattle.wcps_text.specs.Tree as tree
use Rattle.wcps_text.specs.Tree.{Tree, Parts, no_parts, part, Subs, no_subs, sub, PlaceTree, trim, at, IntervalTree, bounds, domain, Iters, no_iters, iter, Condition, always, only, BindingTree, ItemTree, encode, plain, QueryTree, view, iters_of, condition_of}
use Rattle.arr_core.specs.Keywords.{keyword_text}
use Rattle.wcps_text.specs.Lexing.{symbol_text}
use Rattle.wcps_text.specs.Grammar.{binary_token, truth_word}

-- the bytes of a token
abbrev pub bytes_of : Tok → List ℕ
bytes_of (number n) = decimal n
bytes_of (name x) = x
bytes_of (dollar x) = x
bytes_of (quoted x) = x
bytes_of (word k) = keyword_text k
bytes_of (sign s) = symbol_text s

-- tokens as text, a space behind each
unfoldable pub text_of : List Tok → List ℕ
text_of [] = []
text_of (t ∷ ts) = bytes_of t ++ 32 ∷ text_of ts

-- the text after is the text before and then those tokens
abbrev pub Puts : List ℕ → (List Tok → List Tok) → List ℕ → Type 0
Puts before tokens after = (rest : List Tok) → after ++ text_of rest ≡ before ++ text_of (tokens rest)

-- the same of strings
abbrev pub Adds : String Global → String Global → (List Tok → List Tok) → Type 0
Adds old new tokens = Puts (string_bytes old) tokens (string_bytes new)

-- tokens in parentheses
abbrev pub in_parens : (List Tok → List Tok) → List Tok → List Tok
in_parens ts rest = sign signs.LeftParen ∷ ts (sign signs.RightParen ∷ rest)

-- tokens in brackets
abbrev pub in_brackets : (List Tok → List Tok) → List Tok → List Tok
in_brackets ts rest = sign signs.LeftBracket ∷ ts (sign signs.RightBracket ∷ rest)

-- a name, with `$` or without
unfoldable pub name_token : List ℕ → Tok
name_token x = cond (get_or x 0 0 == 36) (dollar x) (name x)

-- a number with a sign where it is negative
abbrev pub int_tokens : ℤ → List Tok → List Tok
int_tokens (pos n) rest = number n ∷ rest
int_tokens (negsuc n) rest = sign signs.Minus ∷ number (suc n) ∷ rest

abbrev pub unary_token : UnaryOperator → Tok
unary_token unaries.Negate = sign signs.Minus
unary_token unaries.Plus = sign signs.Plus
unary_token unaries.Not = word words.Not
unary_token unaries.Absolute = word words.Abs

-- an operator between two operands in parentheses
abbrev pub between_tokens : BinaryOperator → (List Tok → List Tok) → (List Tok → List Tok) → List Tok → List Tok
between_tokens op a b rest = sign signs.LeftParen ∷ a
    (sign signs.RightParen ∷ binary_token op ∷ sign signs.LeftParen ∷ b (sign signs.RightParen ∷ rest))

abbrev pub bit_tokens : (List Tok → List Tok) → (List Tok → List Tok) → List Tok → List Tok
bit_tokens a b rest = word words.Bit ∷ sign signs.LeftParen ∷ a (sign signs.Comma ∷ b (sign signs.RightParen ∷ rest))

abbrev pub binary_tokens : BinaryOperator → (List Tok → List Tok) → (List Tok → List Tok) → List Tok → List Tok
binary_tokens binaries.Bit a b rest = bit_tokens a b rest
binary_tokens op a b rest = between_tokens op a b rest

-- a reduction's word; a product has none, and no query is spelled with it, so any token serves
abbrev pub reduce_token : Aggregate → Tok
reduce_token aggregates.Sum = word words.Add
reduce_token aggregates.Product = sign signs.Star
reduce_token aggregates.Greatest = word words.Max
reduce_token aggregates.Least = word words.Min
reduce_token aggregates.Every = word words.All
reduce_token aggregates.Any = word words.Some
reduce_token aggregates.Count = word words.Count
reduce_token aggregates.Average = word words.Avg

-- what a condenser joins its values by; a count and an average have no token there, so any one serves
abbrev pub condense_token : Aggregate → Tok
condense_token aggregates.Sum = sign signs.Plus
condense_token aggregates.Product = sign signs.Star
condense_token aggregates.Greatest = word words.Max
condense_token aggregates.Least = word words.Min
condense_token aggregates.Every = word words.And
condense_token aggregates.Any = word words.Or
condense_token aggregates.Count = word words.Count
condense_token aggregates.Average = word words.Avg

-- before all things of a list but the first
abbrev pub separator : Bool → Symbol → List Tok → List Tok
separator true s rest = rest
separator false s rest = sign s ∷ rest

-- a condenser, by its parts as the code has them
abbrev pub condenser : Aggregate → List Iter → Option (Box Expr Global) → Expr → Tree
condenser op is c e = tree.condense op (iters_of is) (condition_of c) (view e)

-- things with a separator before each, but before the first one only where it is not the first
unfoldable pub items_tokens : Bool → List ListItem → List Tok → List Tok
items_tokens first [] rest = rest
items_tokens first (list_items.Int z ∷ xs) rest =
    separator first signs.Semicolon (int_tokens z (items_tokens false xs rest))
items_tokens first (list_items.Truth b ∷ xs) rest =
    separator first signs.Semicolon (word (truth_word b) ∷ items_tokens false xs rest)

-- what stands before the values of a coverage
abbrev pub head_tokens : List Tok → List Tok
head_tokens rest = word words.Coverage ∷ name (codes "c") ∷ word words.Over ∷ rest

unfoldable mutual
  pub expr_tokens : Tree → List Tok → List Tok
  expr_tokens (tree.number n) rest = number n ∷ rest
  expr_tokens (tree.truth b) rest = word (truth_word b) ∷ rest
  expr_tokens (tree.variable x) rest = name_token x ∷ rest
  expr_tokens (tree.unary op e) rest =
      unary_token op ∷ sign signs.LeftParen ∷ expr_tokens e (sign signs.RightParen ∷ rest)
  expr_tokens (tree.binary op a b) rest = binary_tokens op (expr_tokens a) (expr_tokens b) rest
  expr_tokens (tree.reduce op e) rest =
      reduce_token op ∷ sign signs.LeftParen ∷ expr_tokens e (sign signs.RightParen ∷ rest)
  expr_tokens (tree.parts ps) rest = sign signs.LeftBrace ∷ parts_tokens true ps (sign signs.RightBrace ∷ rest)
  expr_tokens (tree.value_list is xs) rest =
      head_tokens (iters_tokens true is
      (word words.Value ∷ word words.List ∷ sign signs.Less ∷ items_tokens true xs (sign signs.Greater ∷ rest)))
  expr_tokens (tree.field e x) rest =
      sign signs.LeftParen ∷ expr_tokens e (sign signs.RightParen ∷ sign signs.Dot ∷ name_token x ∷ rest)
  expr_tokens (tree.brackets e ss) rest =
      sign signs.LeftParen ∷ expr_tokens e
      (sign signs.RightParen ∷ sign signs.LeftBracket ∷ subs_tokens true ss (sign signs.RightBracket ∷ rest))
  expr_tokens (tree.coverage is e) rest =
      head_tokens (iters_tokens true is
      (word words.Values ∷ sign signs.LeftParen ∷ expr_tokens e (sign signs.RightParen ∷ rest)))
  expr_tokens (tree.condense op is c e) rest =
      word words.Condense ∷ condense_token op ∷ word words.Over ∷ iters_tokens true is
      (condition_tokens c (word words.Using ∷ sign signs.LeftParen ∷ expr_tokens e (sign signs.RightParen ∷ rest)))

  pub parts_tokens : Bool → Parts → List Tok → List Tok
  parts_tokens first no_parts rest = rest
  parts_tokens first (part x e ps) rest =
      separator first signs.Semicolon (name_token x ∷ sign signs.Colon ∷ expr_tokens e (parts_tokens false ps rest))

  pub subs_tokens : Bool → Subs → List Tok → List Tok
  subs_tokens first no_subs rest = rest
  subs_tokens first (sub a p ss) rest =
      separator first signs.Comma (name_token a ∷ sign signs.LeftParen ∷ place_tokens p
      (sign signs.RightParen ∷ subs_tokens false ss rest))

  pub place_tokens : PlaceTree → List Tok → List Tok
  place_tokens (trim i) rest = interval_tokens i rest
  place_tokens (at e) rest = expr_tokens e rest

  pub interval_tokens : IntervalTree → List Tok → List Tok
  interval_tokens (bounds lo hi) rest = int_tokens lo (sign signs.Colon ∷ int_tokens hi rest)
  interval_tokens (domain e a) rest =
      word words.ImageCrsDomain ∷ sign signs.LeftParen ∷ expr_tokens e
      (sign signs.Comma ∷ name_token a ∷ sign signs.RightParen ∷ rest)

  pub iters_tokens : Bool → Iters → List Tok → List Tok
  iters_tokens first no_iters rest = rest
  iters_tokens first (iter v a i is) rest =
      separator first signs.Comma (name_token v ∷ name_token a ∷ sign signs.LeftParen ∷ interval_tokens i
      (sign signs.RightParen ∷ iters_tokens false is rest))

  -- nothing, or `where` and the condition in parentheses
  pub condition_tokens : Condition → List Tok → List Tok
  condition_tokens always rest = rest
  condition_tokens (only c) rest =
      word words.Where ∷ sign signs.LeftParen ∷ expr_tokens c (sign signs.RightParen ∷ rest)

unfoldable pub names_tokens : Bool → List (List ℕ) → List Tok → List Tok
names_tokens first [] rest = rest
names_tokens first (x ∷ xs) rest = separator first signs.Comma (name_token x ∷ names_tokens false xs rest)

unfoldable pub bindings_tokens : Bool → List BindingTree → List Tok → List Tok
bindings_tokens first [] rest = rest
bindings_tokens first (b ∷ bs) rest =
    separator first signs.Comma (name_token b.variable ∷ word words.In ∷ sign signs.LeftParen ∷ names_tokens true
    b.coverages (sign signs.RightParen ∷ bindings_tokens false bs rest))

-- an expression that is returned encoded
abbrev pub encoded_tokens : Tree → List Tok → List Tok
encoded_tokens e rest = word words.Encode ∷ sign signs.LeftParen ∷ expr_tokens e
    (sign signs.Comma ∷ word words.Csv ∷ sign signs.RightParen ∷ rest)

unfoldable pub item_tokens : ItemTree → List Tok → List Tok
item_tokens (encode e) rest = encoded_tokens e rest
item_tokens (plain e) rest = expr_tokens e rest

unfoldable pub query_tokens : QueryTree → List Tok
query_tokens q = word words.For ∷ bindings_tokens true q.bindings
    (condition_tokens q.condition (word words.Return ∷ item_tokens q.item []))
