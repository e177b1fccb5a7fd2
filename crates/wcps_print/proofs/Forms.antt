-- All tokens that spell a query have as many words `condense` and `coverage` as its tree has such forms.
use Rattle.std.proofs.Common.{◌≡◌, ℕ, ◌+◌, Bool, true, false, List, refl, arith, ℤ}
use Rattle.arr_core.specs.declared.keyword.Keyword.{Keyword}
use Rattle.wcps_text.specs.declared.operator.UnaryOperator.{UnaryOperator}
use Rattle.wcps_text.specs.declared.operator.BinaryOperator.{BinaryOperator}
use Rattle.wcps_text.specs.declared.operator.BinaryOperator.TheVariants as binaries
use Rattle.wcps_text.specs.declared.operator.Aggregate.{Aggregate}
use Rattle.wcps_text.specs.declared.tree.ListItem.{ListItem}
use Rattle.wcps_text.specs.Token.{Tok, word}
use Rattle.wcps_text.specs.Tree as tree
use Rattle.wcps_text.specs.Tree.{Tree, Parts, no_parts, part, Subs, no_subs, sub, PlaceTree, trim, at, IntervalTree, bounds, domain, Iters, no_iters, iter, Condition, always, only, BindingTree, ItemTree, encode, plain, QueryTree}
use Rattle.wcps_text.specs.Limits.{form_words, forms}
use Rattle.wcps_text.specs.Grammar.{Prefixes, negate, plus, not, binary_token, Reduces, to_count, to_any, to_every, to_sum, to_average, to_least, to_greatest, Condenses, by_sum, by_product, by_greatest, by_least, by_every, by_any, truth_word, Openness, SpellsInt, unsigned, positive, negative, SpellsItem, int_item, truth_item, SpellsItems, last_item, more_items, SpellsVariable, plain_name, dollar_name, Spells, post, coverage, condense, unary, tighter, binary, SpellsInParens, parens, SpellsPost, literal, truth, variable, grouped, abs, bit, reduce, parts, value_list, field, brackets, SpellsPart, named, SpellsParts, last_part, more_parts, SpellsSub, of_axis, SpellsSubs, last_sub, more_subs, SpellsPlace, trimmed, position, SpellsInterval, between, domain_of, SpellsIter, iterator, SpellsIters, last_iter, more_iters, SpellsCondition, unconditional, conditional, SpellsNames, last_name, more_names, SpellsBinding, stands_for, SpellsBindings, last_binding, more_bindings, IsFormat, csv_word, csv_quoted, text_csv_quoted, SpellsReturn, encoded, unencoded, SpellsEnd, for_all, for_some, IsSpelled, query}

-- how many such forms a tree has
abbrev mutual
  tree_forms : Tree → ℕ
  tree_forms (tree.number n) = 0
  tree_forms (tree.truth b) = 0
  tree_forms (tree.variable x) = 0
  tree_forms (tree.unary op e) = tree_forms e
  tree_forms (tree.binary op a b) = tree_forms a + tree_forms b
  tree_forms (tree.reduce op e) = tree_forms e
  tree_forms (tree.parts ps) = parts_forms ps
  tree_forms (tree.value_list is xs) = 1 + iters_forms is
  tree_forms (tree.field e x) = tree_forms e
  tree_forms (tree.brackets e ss) = tree_forms e + subs_forms ss
  tree_forms (tree.coverage is e) = 1 + (iters_forms is + tree_forms e)
  tree_forms (tree.condense op is c e) = 1 + (iters_forms is + (condition_forms c + tree_forms e))

  parts_forms : Parts → ℕ
  parts_forms no_parts = 0
  parts_forms (part x e ps) = tree_forms e + parts_forms ps

  subs_forms : Subs → ℕ
  subs_forms no_subs = 0
  subs_forms (sub a p ss) = place_forms p + subs_forms ss

  place_forms : PlaceTree → ℕ
  place_forms (trim i) = interval_forms i
  place_forms (at e) = tree_forms e

  interval_forms : IntervalTree → ℕ
  interval_forms (bounds lo hi) = 0
  interval_forms (domain e x) = tree_forms e

  iters_forms : Iters → ℕ
  iters_forms no_iters = 0
  iters_forms (iter v a i is) = interval_forms i + iters_forms is

  condition_forms : Condition → ℕ
  condition_forms always = 0
  condition_forms (only e) = tree_forms e

abbrev item_forms : ItemTree → ℕ
item_forms (encode e) = tree_forms e
item_forms (plain e) = tree_forms e

abbrev query_forms : QueryTree → ℕ
query_forms q = condition_forms q.condition + item_forms q.item

truth-none : (b : Bool) → form_words (word (truth_word b)) ≡ 0
truth-none true = refl
truth-none false = refl

reduce-none : {op : Aggregate} {w : Keyword} → Reduces op w → form_words (word w) ≡ 0
reduce-none to_count = refl
reduce-none to_any = refl
reduce-none to_every = refl
reduce-none to_sum = refl
reduce-none to_average = refl
reduce-none to_least = refl
reduce-none to_greatest = refl

condense-none : {op : Aggregate} {t : Tok} → Condenses op t → form_words t ≡ 0
condense-none by_sum = refl
condense-none by_product = refl
condense-none by_greatest = refl
condense-none by_least = refl
condense-none by_every = refl
condense-none by_any = refl

binary-none : (op : BinaryOperator) → form_words (binary_token op) ≡ 0
binary-none binaries.Multiply = refl
binary-none binaries.Divide = refl
binary-none binaries.Add = refl
binary-none binaries.Subtract = refl
binary-none binaries.Less = refl
binary-none binaries.LessEqual = refl
binary-none binaries.Greater = refl
binary-none binaries.GreaterEqual = refl
binary-none binaries.Equal = refl
binary-none binaries.NotEqual = refl
binary-none binaries.And = refl
binary-none binaries.Or = refl
binary-none binaries.Xor = refl
binary-none binaries.Bit = refl

prefix-none : {op : UnaryOperator} {t : Tok} → Prefixes op t → form_words t ≡ 0
prefix-none negate = refl
prefix-none plus = refl
prefix-none not = refl

format-none : {t : Tok} → IsFormat t → form_words t ≡ 0
format-none csv_word = refl
format-none (csv_quoted e) = refl
format-none (text_csv_quoted e) = refl

int-forms : {ts rest : List Tok} {z : ℤ} → SpellsInt ts z rest → forms ts ≡ forms rest
int-forms unsigned = omega arith
int-forms positive = omega arith
int-forms negative = omega arith

item-forms : {ts rest : List Tok} {x : ListItem} → SpellsItem ts x rest → forms ts ≡ forms rest
item-forms (int_item s) = int-forms s
item-forms (truth_item {b}) = omega (arith, truth-none b)

items-forms : {ts rest : List Tok} {xs : List ListItem} → SpellsItems ts xs rest → forms ts ≡ forms rest
items-forms (last_item s) = item-forms s
items-forms (more_items s more) = omega (arith, item-forms s, items-forms more)

variable-forms : {ts rest : List Tok} {x : List ℕ} → SpellsVariable ts x rest → forms ts ≡ forms rest
variable-forms plain_name = omega arith
variable-forms dollar_name = omega arith

mutual
  forms-of : {o : Openness} {r : ℕ} {ts rest : List Tok} {e : Tree} → Spells o r ts e rest → forms ts ≡ tree_forms e + forms rest
  forms-of (post s) = forms-post s
  forms-of (coverage si s) = omega (arith, forms-iters si, forms-of s)
  forms-of (condense joins sc s) = omega (arith, condense-none joins, forms-condition sc, forms-of s)
  forms-of (unary p s) = omega (arith, prefix-none p, forms-of s)
  forms-of (tighter s) = forms-of s
  forms-of (binary op r a b) = omega (arith, binary-none op, forms-of a, forms-of b)

  forms-parens : {ts rest : List Tok} {e : Tree} → SpellsInParens ts e rest → forms ts ≡ tree_forms e + forms rest
  forms-parens (parens s) = omega (arith, forms-of s)

  forms-post : {ts rest : List Tok} {e : Tree} → SpellsPost ts e rest → forms ts ≡ tree_forms e + forms rest
  forms-post literal = omega arith
  forms-post (truth {b}) = omega (arith, truth-none b)
  forms-post (variable s) = omega (arith, variable-forms s)
  forms-post (grouped s) = forms-parens s
  forms-post (abs s) = omega (arith, forms-parens s)
  forms-post (bit a b) = omega (arith, forms-of a, forms-of b)
  forms-post (reduce r s) = omega (arith, reduce-none r, forms-parens s)
  forms-post (parts s) = omega (arith, forms-parts s)
  forms-post (value_list si sx) = omega (arith, forms-iters si, items-forms sx)
  forms-post (field s) = omega (arith, forms-post s)
  forms-post (brackets s ss) = omega (arith, forms-post s, forms-subs ss)

  forms-part : {x : List ℕ} {ts rest : List Tok} {e : Tree} → SpellsPart ts x e rest → forms ts ≡ tree_forms e + forms rest
  forms-part (named s) = omega (arith, forms-of s)

  forms-parts : {ts rest : List Tok} {ps : Parts} → SpellsParts ts ps rest → forms ts ≡ parts_forms ps + forms rest
  forms-parts (last_part s) = omega (arith, forms-part s)
  forms-parts (more_parts s more) = omega (arith, forms-part s, forms-parts more)

  forms-sub : {a : List ℕ} {ts rest : List Tok} {p : PlaceTree} → SpellsSub ts a p rest → forms ts ≡ place_forms p + forms rest
  forms-sub (of_axis s) = omega (arith, forms-place s)

  forms-subs : {ts rest : List Tok} {ss : Subs} → SpellsSubs ts ss rest → forms ts ≡ subs_forms ss + forms rest
  forms-subs (last_sub s) = omega (arith, forms-sub s)
  forms-subs (more_subs s more) = omega (arith, forms-sub s, forms-subs more)

  forms-place : {ts rest : List Tok} {p : PlaceTree} → SpellsPlace ts p rest → forms ts ≡ place_forms p + forms rest
  forms-place (trimmed s) = forms-interval s
  forms-place (position s) = forms-of s

  forms-interval : {ts rest : List Tok} {i : IntervalTree} → SpellsInterval ts i rest → forms ts ≡ interval_forms i + forms rest
  forms-interval (between lo hi) = omega (arith, int-forms lo, int-forms hi)
  forms-interval (domain_of s) = omega (arith, forms-of s)

  forms-iter : {v a : List ℕ} {ts rest : List Tok} {i : IntervalTree} → SpellsIter ts v a i rest → forms ts ≡ interval_forms i + forms rest
  forms-iter (iterator sv si) = omega (arith, variable-forms sv, forms-interval si)

  forms-iters : {ts rest : List Tok} {is : Iters} → SpellsIters ts is rest → forms ts ≡ iters_forms is + forms rest
  forms-iters (last_iter s) = omega (arith, forms-iter s)
  forms-iters (more_iters s more) = omega (arith, forms-iter s, forms-iters more)

  forms-condition : {ts rest : List Tok} {is : Iters} {c : Condition} → SpellsCondition ts is c rest → forms ts ≡ (iters_forms is + condition_forms c) + forms rest
  forms-condition (unconditional s) = omega (arith, forms-iters s)
  forms-condition (conditional si s) = omega (arith, forms-iters si, forms-of s)

names-forms : {ts rest : List Tok} {xs : List (List ℕ)} → SpellsNames ts xs rest → forms ts ≡ forms rest
names-forms last_name = omega arith
names-forms (more_names more) = omega (arith, names-forms more)

binding-forms : {ts rest : List Tok} {b : BindingTree} → SpellsBinding ts b rest → forms ts ≡ forms rest
binding-forms (stands_for sv sn) = omega (arith, variable-forms sv, names-forms sn)

bindings-forms : {ts rest : List Tok} {bs : List BindingTree} → SpellsBindings ts bs rest → forms ts ≡ forms rest
bindings-forms (last_binding s) = binding-forms s
bindings-forms (more_bindings s more) = omega (arith, binding-forms s, bindings-forms more)

return-forms : {ts : List Tok} {i : ItemTree} → SpellsReturn ts i → forms ts ≡ item_forms i
return-forms (encoded s f) = omega (arith, forms-of s, format-none f)
return-forms (unencoded s) = omega (arith, forms-of s)

end-forms : {ts : List Tok} {c : Condition} {i : ItemTree} → SpellsEnd ts c i → forms ts ≡ condition_forms c + item_forms i
end-forms (for_all s) = omega (arith, return-forms s)
end-forms (for_some s sr) = omega (arith, forms-of s, return-forms sr)

spelled-forms : {ts : List Tok} {q : QueryTree} → IsSpelled ts q → forms ts ≡ query_forms q
spelled-forms (query sb se) = omega (arith, bindings-forms sb, end-forms se)

-- two lists of tokens that spell one query have as many of the words
pub same-forms : {ts us : List Tok} {q : QueryTree} → IsSpelled ts q → IsSpelled us q → forms ts ≡ forms us
same-forms s u = omega (arith, spelled-forms s, spelled-forms u)
