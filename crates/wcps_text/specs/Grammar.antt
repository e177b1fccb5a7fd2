-- Which tokens spell which query. Each family says of `ts` and `rest` that the tokens of `ts` before `rest` spell the
-- thing.
use Rattle.std.specs.Prelude.{◌≡◌, ℕ, suc, ℤ, pos, ◌-ℤ◌, List, [], ◌∷◌, Bool, true, false, codes, map}
use Rattle.wcps_text.specs.declared.token.Symbol.TheVariants as signs
use Rattle.arr_core.specs.declared.keyword.Keyword.{Keyword}
use Rattle.arr_core.specs.declared.keyword.Keyword.TheVariants as words
use Rattle.wcps_text.specs.declared.operator.UnaryOperator.{UnaryOperator}
use Rattle.wcps_text.specs.declared.operator.UnaryOperator.TheVariants as unaries
use Rattle.wcps_text.specs.declared.operator.BinaryOperator.{BinaryOperator}
use Rattle.wcps_text.specs.declared.operator.BinaryOperator.TheVariants as binaries
use Rattle.wcps_text.specs.declared.operator.Aggregate.{Aggregate}
use Rattle.wcps_text.specs.declared.operator.Aggregate.TheVariants as aggregates
use Rattle.wcps_text.specs.declared.tree.ListItem.{ListItem}
use Rattle.wcps_text.specs.declared.tree.ListItem.TheVariants as list_items
use Rattle.std.specs.Char.{to_ascii_lowercase}
use Rattle.wcps_text.specs.Token.{Tok, number, name, dollar, quoted, word, sign}
use Rattle.wcps_text.specs.Tree as tree
use Rattle.wcps_text.specs.Tree.{Tree, Parts, no_parts, Subs, no_subs, sub, PlaceTree, trim, at, IntervalTree, bounds, domain, Iters, no_iters, iter, Condition, always, only, BindingTree, ItemTree, QueryTree}

-- an operator before its operand
pub data Prefixes : UnaryOperator → Tok → Type 0 where
  negate : Prefixes unaries.Negate (sign signs.Minus)
  plus : Prefixes unaries.Plus (sign signs.Plus)
  not : Prefixes unaries.Not (word words.Not)

-- the token of an operator; all but `bit` stand between their operands
abbrev pub binary_token : BinaryOperator → Tok
binary_token binaries.Multiply = sign signs.Star
binary_token binaries.Divide = sign signs.Slash
binary_token binaries.Add = sign signs.Plus
binary_token binaries.Subtract = sign signs.Minus
binary_token binaries.Less = sign signs.Less
binary_token binaries.LessEqual = sign signs.LessEqual
binary_token binaries.Greater = sign signs.Greater
binary_token binaries.GreaterEqual = sign signs.GreaterEqual
binary_token binaries.Equal = sign signs.Equal
binary_token binaries.NotEqual = sign signs.NotEqual
binary_token binaries.And = word words.And
binary_token binaries.Or = word words.Or
binary_token binaries.Xor = word words.Xor
binary_token binaries.Bit = word words.Bit

-- how loosely an operator binds: `* /`, then `+ -`, then comparisons, then `and`, then `or xor`; 0 if it is no operator
-- between operands
abbrev pub rank_of : BinaryOperator → ℕ
rank_of binaries.Multiply = 1
rank_of binaries.Divide = 1
rank_of binaries.Add = 2
rank_of binaries.Subtract = 2
rank_of binaries.Less = 3
rank_of binaries.LessEqual = 3
rank_of binaries.Greater = 3
rank_of binaries.GreaterEqual = 3
rank_of binaries.Equal = 3
rank_of binaries.NotEqual = 3
rank_of binaries.And = 4
rank_of binaries.Or = 5
rank_of binaries.Xor = 5
rank_of binaries.Bit = 0

-- the loosest
abbrev pub max_rank : ℕ
max_rank = 5

-- the word that makes one value of all values of a coverage
pub data Reduces : Aggregate → Keyword → Type 0 where
  to_count : Reduces aggregates.Count words.Count
  to_any : Reduces aggregates.Any words.Some
  to_every : Reduces aggregates.Every words.All
  to_sum : Reduces aggregates.Sum words.Add
  to_average : Reduces aggregates.Average words.Avg
  to_least : Reduces aggregates.Least words.Min
  to_greatest : Reduces aggregates.Greatest words.Max

-- what a condenser joins its values by
pub data Condenses : Aggregate → Tok → Type 0 where
  by_sum : Condenses aggregates.Sum (sign signs.Plus)
  by_product : Condenses aggregates.Product (sign signs.Star)
  by_greatest : Condenses aggregates.Greatest (word words.Max)
  by_least : Condenses aggregates.Least (word words.Min)
  by_every : Condenses aggregates.Every (word words.And)
  by_any : Condenses aggregates.Any (word words.Or)

abbrev pub truth_word : Bool → Keyword
truth_word true = words.True
truth_word false = words.False

-- An open expression ends in a form that reaches as far right as it can.
pub data Openness : Type 0 where
  closed : Openness
  open_ended : Openness

-- a number with its sign
pub data SpellsInt : List Tok → ℤ → List Tok → Type 0 where
  unsigned : {n : ℕ} {rest : List Tok} → SpellsInt (number n ∷ rest) (pos n) rest
  positive : {n : ℕ} {rest : List Tok} → SpellsInt (sign signs.Plus ∷ number n ∷ rest) (pos n) rest
  negative : {n : ℕ} {rest : List Tok} → SpellsInt (sign signs.Minus ∷ number n ∷ rest) (pos 0 -ℤ pos n) rest

-- one value of a value list
pub data SpellsItem : List Tok → ListItem → List Tok → Type 0 where
  int_item : {ts rest : List Tok} {z : ℤ} → SpellsInt ts z rest → SpellsItem ts (list_items.Int z) rest
  truth_item : {b : Bool} {rest : List Tok} → SpellsItem (word (truth_word b) ∷ rest) (list_items.Truth b) rest

pub data SpellsItems : List Tok → List ListItem → List Tok → Type 0 where
  last_item : {ts rest : List Tok} {x : ListItem} → SpellsItem ts x rest → SpellsItems ts (x ∷ []) rest
  more_items : {ts after rest : List Tok} {x : ListItem} {xs : List ListItem}
      → SpellsItem ts x (sign signs.Semicolon ∷ after) → SpellsItems after xs rest → SpellsItems ts (x ∷ xs) rest

-- a variable, with or without `$`
pub data SpellsVariable : List Tok → List ℕ → List Tok → Type 0 where
  plain_name : {x : List ℕ} {rest : List Tok} → SpellsVariable (name x ∷ rest) x rest
  dollar_name : {x : List ℕ} {rest : List Tok} → SpellsVariable (dollar x ∷ rest) x rest

mutual
  -- an expression, open or closed, with no operator looser than the rank outside brackets and open forms
  pub data Spells : Openness → ℕ → List Tok → Tree → List Tok → Type 0 where
    post : {ts rest : List Tok} {e : Tree} → SpellsPost ts e rest → Spells closed 0 ts e rest
    coverage : {o : Openness} {x : List ℕ} {ts mid rest : List Tok} {is : Iters} {e : Tree}
        → SpellsIters ts is (word words.Values ∷ mid) → Spells o max_rank mid e rest
        → Spells open_ended 0 (word words.Coverage ∷ name x ∷ word words.Over ∷ ts) (tree.coverage is e) rest
    condense : {o : Openness} {t : Tok} {ts mid rest : List Tok} {is : Iters} {c : Condition} {e : Tree}
        {op : Aggregate} → Condenses op t
        → SpellsCondition ts is c (word words.Using ∷ mid) → Spells o max_rank mid e rest
        → Spells open_ended 0 (word words.Condense ∷ t ∷ word words.Over ∷ ts) (tree.condense op is c e) rest
    -- what is built by an operator is open where its last operand is
    unary : {o : Openness} {t : Tok} {ts rest : List Tok} {e : Tree} {op : UnaryOperator} → Prefixes op t
        → Spells o 0 ts e rest → Spells o 0 (t ∷ ts) (tree.unary op e) rest
    tighter : {o : Openness} {r : ℕ} {ts rest : List Tok} {e : Tree} → Spells o r ts e rest → Spells o (suc r) ts e rest
    -- operators of one rank group to the left, and nothing open stands to the left of one
    binary : {o : Openness} {r : ℕ} {ts mid rest : List Tok} {a b : Tree} (op : BinaryOperator) → rank_of op ≡ suc r
        → Spells closed (suc r) ts a (binary_token op ∷ mid) → Spells o r mid b rest
        → Spells o (suc r) ts (tree.binary op a b) rest

  -- an expression in parentheses, which leave no node
  pub data SpellsInParens : List Tok → Tree → List Tok → Type 0 where
    parens : {o : Openness} {ts rest : List Tok} {e : Tree} → Spells o max_rank ts e (sign signs.RightParen ∷ rest)
        → SpellsInParens (sign signs.LeftParen ∷ ts) e rest

  pub data SpellsPost : List Tok → Tree → List Tok → Type 0 where
    literal : {n : ℕ} {rest : List Tok} → SpellsPost (number n ∷ rest) (tree.number n) rest
    truth : {b : Bool} {rest : List Tok} → SpellsPost (word (truth_word b) ∷ rest) (tree.truth b) rest
    variable : {ts rest : List Tok} {x : List ℕ} → SpellsVariable ts x rest → SpellsPost ts (tree.variable x) rest
    grouped : {ts rest : List Tok} {e : Tree} → SpellsInParens ts e rest → SpellsPost ts e rest
    abs : {ts rest : List Tok} {e : Tree} → SpellsInParens ts e rest
        → SpellsPost (word words.Abs ∷ ts) (tree.unary unaries.Absolute e) rest
    bit : {o p : Openness} {ts mid rest : List Tok} {a b : Tree} → Spells o max_rank ts a (sign signs.Comma ∷ mid)
        → Spells p max_rank mid b (sign signs.RightParen ∷ rest)
        → SpellsPost (word words.Bit ∷ sign signs.LeftParen ∷ ts) (tree.binary binaries.Bit a b) rest
    reduce : {w : Keyword} {ts rest : List Tok} {e : Tree} {op : Aggregate} → Reduces op w → SpellsInParens ts e rest
        → SpellsPost (word w ∷ ts) (tree.reduce op e) rest
    parts : {ts rest : List Tok} {ps : Parts} → SpellsParts ts ps (sign signs.RightBrace ∷ rest)
        → SpellsPost (sign signs.LeftBrace ∷ ts) (tree.parts ps) rest
    value_list : {x : List ℕ} {ts mid rest : List Tok} {is : Iters} {xs : List ListItem}
        → SpellsIters ts is (word words.Value ∷ word words.List ∷ sign signs.Less ∷ mid)
        → SpellsItems mid xs (sign signs.Greater ∷ rest)
        → SpellsPost (word words.Coverage ∷ name x ∷ word words.Over ∷ ts) (tree.value_list is xs) rest
    field : {ts rest : List Tok} {e : Tree} {x : List ℕ} → SpellsPost ts e (sign signs.Dot ∷ name x ∷ rest)
        → SpellsPost ts (tree.field e x) rest
    brackets : {ts mid rest : List Tok} {e : Tree} {ss : Subs} → SpellsPost ts e (sign signs.LeftBracket ∷ mid)
        → SpellsSubs mid ss (sign signs.RightBracket ∷ rest)
        → SpellsPost ts (tree.brackets e ss) rest

  pub data SpellsPart : List Tok → List ℕ → Tree → List Tok → Type 0 where
    named : {o : Openness} {x : List ℕ} {ts rest : List Tok} {e : Tree} → Spells o max_rank ts e rest
        → SpellsPart (name x ∷ sign signs.Colon ∷ ts) x e rest

  pub data SpellsParts : List Tok → Parts → List Tok → Type 0 where
    last_part : {ts rest : List Tok} {x : List ℕ} {e : Tree} → SpellsPart ts x e rest
        → SpellsParts ts (tree.part x e no_parts) rest
    more_parts : {ts after rest : List Tok} {x : List ℕ} {e : Tree} {ps : Parts}
        → SpellsPart ts x e (sign signs.Semicolon ∷ after) → SpellsParts after ps rest
        → SpellsParts ts (tree.part x e ps) rest

  pub data SpellsSub : List Tok → List ℕ → PlaceTree → List Tok → Type 0 where
    of_axis : {ts rest : List Tok} {a : List ℕ} {p : PlaceTree} → SpellsPlace ts p (sign signs.RightParen ∷ rest)
        → SpellsSub (name a ∷ sign signs.LeftParen ∷ ts) a p rest

  pub data SpellsSubs : List Tok → Subs → List Tok → Type 0 where
    last_sub : {ts rest : List Tok} {a : List ℕ} {p : PlaceTree} → SpellsSub ts a p rest
        → SpellsSubs ts (sub a p no_subs) rest
    more_subs : {ts after rest : List Tok} {a : List ℕ} {p : PlaceTree} {ss : Subs}
        → SpellsSub ts a p (sign signs.Comma ∷ after) → SpellsSubs after ss rest
        → SpellsSubs ts (sub a p ss) rest

  pub data SpellsPlace : List Tok → PlaceTree → List Tok → Type 0 where
    trimmed : {ts rest : List Tok} {i : IntervalTree} → SpellsInterval ts i rest → SpellsPlace ts (trim i) rest
    position : {o : Openness} {ts rest : List Tok} {e : Tree} → Spells o max_rank ts e rest → SpellsPlace ts (at e) rest

  pub data SpellsInterval : List Tok → IntervalTree → List Tok → Type 0 where
    between : {ts mid rest : List Tok} {lo hi : ℤ} → SpellsInt ts lo (sign signs.Colon ∷ mid) → SpellsInt mid hi rest
        → SpellsInterval ts (bounds lo hi) rest
    domain_of : {o : Openness} {ts rest : List Tok} {e : Tree} {a : List ℕ}
        → Spells o max_rank ts e (sign signs.Comma ∷ name a ∷ sign signs.RightParen ∷ rest)
        → SpellsInterval (word words.ImageCrsDomain ∷ sign signs.LeftParen ∷ ts) (domain e a) rest

  pub data SpellsIter : List Tok → List ℕ → List ℕ → IntervalTree → List Tok → Type 0 where
    iterator : {ts mid rest : List Tok} {v a : List ℕ} {i : IntervalTree}
        → SpellsVariable ts v (name a ∷ sign signs.LeftParen ∷ mid)
        → SpellsInterval mid i (sign signs.RightParen ∷ rest) → SpellsIter ts v a i rest

  pub data SpellsIters : List Tok → Iters → List Tok → Type 0 where
    last_iter : {ts rest : List Tok} {v a : List ℕ} {i : IntervalTree} → SpellsIter ts v a i rest
        → SpellsIters ts (iter v a i no_iters) rest
    more_iters : {ts after rest : List Tok} {v a : List ℕ} {i : IntervalTree} {is : Iters}
        → SpellsIter ts v a i (sign signs.Comma ∷ after) → SpellsIters after is rest
        → SpellsIters ts (iter v a i is) rest

  -- the iterators of a condenser, and its condition if it has one
  pub data SpellsCondition : List Tok → Iters → Condition → List Tok → Type 0 where
    unconditional : {ts rest : List Tok} {is : Iters} → SpellsIters ts is rest → SpellsCondition ts is always rest
    conditional : {o : Openness} {ts mid rest : List Tok} {is : Iters} {c : Tree}
        → SpellsIters ts is (word words.Where ∷ mid) → Spells o max_rank mid c rest
        → SpellsCondition ts is (only c) rest

-- names of coverages, a comma between them
pub data SpellsNames : List Tok → List (List ℕ) → List Tok → Type 0 where
  last_name : {x : List ℕ} {rest : List Tok} → SpellsNames (name x ∷ rest) (x ∷ []) rest
  more_names : {x : List ℕ} {xs : List (List ℕ)} {ts rest : List Tok} → SpellsNames ts xs rest
      → SpellsNames (name x ∷ sign signs.Comma ∷ ts) (x ∷ xs) rest

pub data SpellsBinding : List Tok → BindingTree → List Tok → Type 0 where
  stands_for : {ts mid rest : List Tok} {v : List ℕ} {xs : List (List ℕ)}
      → SpellsVariable ts v (word words.In ∷ sign signs.LeftParen ∷ mid)
      → SpellsNames mid xs (sign signs.RightParen ∷ rest)
      → SpellsBinding ts (record { variable = v; coverages = xs }) rest

pub data SpellsBindings : List Tok → List BindingTree → List Tok → Type 0 where
  last_binding : {ts rest : List Tok} {b : BindingTree} → SpellsBinding ts b rest → SpellsBindings ts (b ∷ []) rest
  more_bindings : {ts after rest : List Tok} {b : BindingTree} {bs : List BindingTree}
      → SpellsBinding ts b (sign signs.Comma ∷ after) → SpellsBindings after bs rest → SpellsBindings ts (b ∷ bs) rest

-- the one format, `csv`, as a word or as a string, with letters in any ASCII case
pub data IsFormat : Tok → Type 0 where
  csv_word : IsFormat (word words.Csv)
  csv_quoted : {w : List ℕ} → map to_ascii_lowercase w ≡ codes "\"csv\"" → IsFormat (quoted w)
  text_csv_quoted : {w : List ℕ} → map to_ascii_lowercase w ≡ codes "\"text/csv\"" → IsFormat (quoted w)

-- what a query returns, to the end
pub data SpellsReturn : List Tok → ItemTree → Type 0 where
  encoded : {o : Openness} {t : Tok} {ts : List Tok} {e : Tree}
      → Spells o max_rank ts e (sign signs.Comma ∷ t ∷ sign signs.RightParen ∷ []) → IsFormat t
      → SpellsReturn (word words.Encode ∷ sign signs.LeftParen ∷ ts) (tree.encode e)
  unencoded : {o : Openness} {ts : List Tok} {e : Tree} → Spells o max_rank ts e [] → SpellsReturn ts (tree.plain e)

-- the condition of a query if it has one, and what it returns
pub data SpellsEnd : List Tok → Condition → ItemTree → Type 0 where
  for_all : {ts : List Tok} {i : ItemTree} → SpellsReturn ts i → SpellsEnd (word words.Return ∷ ts) always i
  for_some : {o : Openness} {ts mid : List Tok} {c : Tree} {i : ItemTree}
      → Spells o max_rank ts c (word words.Return ∷ mid) → SpellsReturn mid i
      → SpellsEnd (word words.Where ∷ ts) (only c) i

-- the tokens spell the query, all of them
pub data IsSpelled : List Tok → QueryTree → Type 0 where
  query : {ts mid : List Tok} {bs : List BindingTree} {c : Condition} {i : ItemTree} → SpellsBindings ts bs mid
      → SpellsEnd mid c i
      → IsSpelled (word words.For ∷ ts) (record { bindings = bs; condition = c; item = i })
