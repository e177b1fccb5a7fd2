-- What the tokens at the front are, where something was found there.
use Rattle.std.proofs.Common.{◌≡◌, ℕ, ℤ, ◌≤◌, ◌⊎◌, inl, inr, ⊎_elim, Bool, true, false, ◌||◌, List, [], ◌∷◌, Some, refl, sym, ap, subst, ◌∙◌, ◌<◌, arith}
use Rattle.std.proofs.lemmas.Bool.{leb-true}
use Rattle.std.proofs.lemmas.Option.{cond_some}
use Rattle.std.proofs.lemmas.Slice.Eq.{bytes_eq-Decides}
use denote.Enum.Bare.{sameb, same_true}
use Rattle.wcps_text.specs.contracts.token.Symbol as symbol
use Rattle.arr_core.specs.contracts.keyword.Keyword as keyword
use Rattle.wcps_text.specs.declared.token.Symbol.{Symbol}
use Rattle.wcps_text.specs.declared.token.Symbol.TheVariants as signs
use Rattle.arr_core.specs.declared.keyword.Keyword.{Keyword}
use Rattle.arr_core.specs.declared.keyword.Keyword.TheVariants as words
use Rattle.wcps_text.specs.declared.operator.UnaryOperator.{UnaryOperator}
use Rattle.wcps_text.specs.declared.operator.UnaryOperator.TheVariants as unaries
use Rattle.wcps_text.specs.declared.operator.BinaryOperator.{BinaryOperator}
use Rattle.wcps_text.specs.declared.operator.BinaryOperator.TheVariants as binaries
use Rattle.wcps_text.specs.declared.operator.Aggregate.TheVariants as aggregates
use Rattle.wcps_text.specs.declared.operator.Aggregate.{Aggregate}
use Rattle.wcps_text.specs.declared.tree.ListItem.{ListItem}
use Rattle.wcps_text.specs.declared.tree.ListItem.TheVariants as list_items
use Rattle.wcps_text.specs.Token.{Tok, number, name, dollar, quoted, word, sign}
use Rattle.wcps_text.specs.Tree.{IntervalTree}
use Rattle.wcps_text.specs.Grammar.{Prefixes, negate, plus, not, binary_token, rank_of, Reduces, to_count, to_any, to_every, to_sum, to_average, to_least, to_greatest, Condenses, by_sum, by_product, by_greatest, by_least, by_every, by_any, truth_word, SpellsInt, unsigned, positive, negative, SpellsItem, int_item, truth_item, SpellsVariable, plain_name, dollar_name, SpellsInterval, between, IsFormat, csv_word, csv_quoted, text_csv_quoted}
use Rattle.wcps_parse.specs.declared.front.Postfix.{Postfix}
use Rattle.wcps_parse.specs.declared.front.Postfix.TheVariants as postfixes
use Rattle.wcps_parse.specs.Front.{sign_at, word_at, name_at, variable_at, int_at, bounds_at, truth_at, item_at, prefix_at, operator, binary_at, condenser_at, postfix_at, Begin, with_number, with_truth, with_variable, with_paren, with_brace, with_abs, with_bit, with_reduce, with_coverage, with_condense, start_at, is_csv, format_at}
use Rattle.wcps_parse.proofs.Options.{bind_ok, choose_ok, found_is}

pub sign_is : (s : Symbol) (ts rest : List Tok) → sign_at s ts ≡ Some rest → ts ≡ sign s ∷ rest
unfolding sign_at
sign_is s (sign t ∷ ts) rest e =
    let g = cond_some (sameb symbol.the_type t s) ts rest e in
    ap (λ (x : Symbol). sign x ∷ ts) (same_true symbol.the_type tt t s g.0) ∙ ap (λ (us : List Tok). sign s ∷ us) g.1
sign_is s _ rest e = absurd cc

pub word_is : (s : Keyword) (ts rest : List Tok) → word_at s ts ≡ Some rest → ts ≡ word s ∷ rest
unfolding word_at
word_is s (word t ∷ ts) rest e =
    let g = cond_some (sameb keyword.the_type t s) ts rest e in
    ap (λ (x : Keyword). word x ∷ ts) (same_true keyword.the_type tt t s g.0) ∙ ap (λ (us : List Tok). word s ∷ us) g.1
word_is s _ rest e = absurd cc

pub name_is : (ts rest : List Tok) (x : List ℕ) → name_at ts ≡ Some (x, rest) → ts ≡ name x ∷ rest
unfolding name_at
name_is (name y ∷ ts) rest x e = ap (λ (p : List ℕ × List Tok). name p.0 ∷ p.1) (found_is (y, ts) (x, rest) e)
name_is _ rest x e = absurd cc

pub variable_is : (ts rest : List Tok) (x : List ℕ) → variable_at ts ≡ Some (x, rest) → SpellsVariable ts x rest
unfolding variable_at
variable_is (name y ∷ ts) rest x e = subst (λ (p : List ℕ × List Tok). SpellsVariable (name y ∷ ts) p.0 p.1) (found_is (y, ts) (x, rest) e) plain_name
variable_is (dollar y ∷ ts) rest x e = subst (λ (p : List ℕ × List Tok). SpellsVariable (dollar y ∷ ts) p.0 p.1) (found_is (y, ts) (x, rest) e) dollar_name
variable_is _ rest x e = absurd cc

pub int_is : (ts rest : List Tok) (z : ℤ) → int_at ts ≡ Some (z, rest) → SpellsInt ts z rest
unfolding int_at
int_is (number n ∷ ts) rest z e = subst (λ (p : ℤ × List Tok). SpellsInt (number n ∷ ts) p.0 p.1) (found_is _ (z, rest) e) unsigned
int_is (sign signs.Plus ∷ number n ∷ ts) rest z e = subst (λ (p : ℤ × List Tok). SpellsInt (sign signs.Plus ∷ number n ∷ ts) p.0 p.1) (found_is _ (z, rest) e) positive
int_is (sign signs.Minus ∷ number n ∷ ts) rest z e = subst (λ (p : ℤ × List Tok). SpellsInt (sign signs.Minus ∷ number n ∷ ts) p.0 p.1) (found_is _ (z, rest) e) negative
int_is _ rest z e = absurd cc

pub bounds_is : (ts rest : List Tok) (i : IntervalTree) → bounds_at ts ≡ Some (i, rest) → SpellsInterval ts i rest
unfolding bounds_at
bounds_is ts rest i e =
    let lo = bind_ok _ _ _ e in
    let mid = bind_ok _ _ _ lo.2 in
    let hi = bind_ok _ _ _ mid.2 in
    let low : SpellsInt ts lo.0.0 (sign signs.Colon ∷ mid.0) = subst (λ (us : List Tok). SpellsInt ts lo.0.0 us) (sign_is _ _ _ mid.1) (int_is _ _ _ lo.1) in
    subst (λ (p : IntervalTree × List Tok). SpellsInterval ts p.0 p.1) (found_is _ (i, rest) hi.2) (between low (int_is _ _ _ hi.1))

truth_is : (ts rest : List Tok) (x : ListItem) → truth_at ts ≡ Some (x, rest) → SpellsItem ts x rest
unfolding truth_at
truth_is (word words.True ∷ ts) rest x e = subst (λ (p : ListItem × List Tok). SpellsItem (word words.True ∷ ts) p.0 p.1) (found_is (list_items.Truth true, ts) (x, rest) e) (truth_item {b = true})
truth_is (word words.False ∷ ts) rest x e = subst (λ (p : ListItem × List Tok). SpellsItem (word words.False ∷ ts) p.0 p.1) (found_is (list_items.Truth false, ts) (x, rest) e) (truth_item {b = false})
truth_is _ rest x e = absurd cc

pub item_is : (ts rest : List Tok) (x : ListItem) → item_at ts ≡ Some (x, rest) → SpellsItem ts x rest
unfolding item_at
item_is ts rest x e = choose_ok _ _ _ _ e
    (λ none h. truth_is ts rest x h)
    (λ z some h. subst (λ (p : ListItem × List Tok). SpellsItem ts p.0 p.1) (found_is (list_items.Int z.0, z.1) (x, rest) h) (int_item (int_is _ _ _ some)))

pub record IsPrefix (ts : List Tok) (op : UnaryOperator) (rest : List Tok) : Type 0 where
  pub token : Tok
  pub at_front : ts ≡ token ∷ rest
  pub before : Prefixes op token

pub prefix_is : (ts rest : List Tok) (op : UnaryOperator) → prefix_at ts ≡ Some (op, rest) → IsPrefix ts op rest
unfolding prefix_at
prefix_is (sign signs.Minus ∷ ts) rest op e = subst (λ (p : UnaryOperator × List Tok). IsPrefix (sign signs.Minus ∷ ts) p.0 p.1) (found_is (unaries.Negate, ts) (op, rest) e) (record { token = sign signs.Minus; at_front = refl; before = negate })
prefix_is (sign signs.Plus ∷ ts) rest op e = subst (λ (p : UnaryOperator × List Tok). IsPrefix (sign signs.Plus ∷ ts) p.0 p.1) (found_is (unaries.Plus, ts) (op, rest) e) (record { token = sign signs.Plus; at_front = refl; before = plus })
prefix_is (word words.Not ∷ ts) rest op e = subst (λ (p : UnaryOperator × List Tok). IsPrefix (word words.Not ∷ ts) p.0 p.1) (found_is (unaries.Not, ts) (op, rest) e) (record { token = word words.Not; at_front = refl; before = not })
prefix_is _ rest op e = absurd cc

operator_is : (t : Tok) (op : BinaryOperator) → operator t ≡ Some op → t ≡ binary_token op
operator_is (sign signs.Star) op e = ap binary_token (found_is binaries.Multiply op e)
operator_is (sign signs.Slash) op e = ap binary_token (found_is binaries.Divide op e)
operator_is (sign signs.Plus) op e = ap binary_token (found_is binaries.Add op e)
operator_is (sign signs.Minus) op e = ap binary_token (found_is binaries.Subtract op e)
operator_is (sign signs.Less) op e = ap binary_token (found_is binaries.Less op e)
operator_is (sign signs.LessEqual) op e = ap binary_token (found_is binaries.LessEqual op e)
operator_is (sign signs.Greater) op e = ap binary_token (found_is binaries.Greater op e)
operator_is (sign signs.GreaterEqual) op e = ap binary_token (found_is binaries.GreaterEqual op e)
operator_is (sign signs.Equal) op e = ap binary_token (found_is binaries.Equal op e)
operator_is (sign signs.NotEqual) op e = ap binary_token (found_is binaries.NotEqual op e)
operator_is (word words.And) op e = ap binary_token (found_is binaries.And op e)
operator_is (word words.Or) op e = ap binary_token (found_is binaries.Or op e)
operator_is (word words.Xor) op e = ap binary_token (found_is binaries.Xor op e)
operator_is _ op e = absurd cc

between_ranked : (op : BinaryOperator) → operator (binary_token op) ≡ Some op → 0 < rank_of op
between_ranked binaries.Multiply e = omega arith
between_ranked binaries.Divide e = omega arith
between_ranked binaries.Add e = omega arith
between_ranked binaries.Subtract e = omega arith
between_ranked binaries.Less e = omega arith
between_ranked binaries.LessEqual e = omega arith
between_ranked binaries.Greater e = omega arith
between_ranked binaries.GreaterEqual e = omega arith
between_ranked binaries.Equal e = omega arith
between_ranked binaries.NotEqual e = omega arith
between_ranked binaries.And e = omega arith
between_ranked binaries.Or e = omega arith
between_ranked binaries.Xor e = omega arith
between_ranked binaries.Bit e = absurd cc

-- what stands between operands has a rank
pub operator_ranked : (t : Tok) (op : BinaryOperator) → operator t ≡ Some op → 0 < rank_of op
operator_ranked t op e = between_ranked op (ap operator (sym (operator_is t op e)) ∙ e)

pub record IsOperator (r : ℕ) (ts : List Tok) (op : BinaryOperator) (rest : List Tok) : Type 0 where
  pub at_front : ts ≡ binary_token op ∷ rest
  pub ranked : 0 < rank_of op
  pub of_rank : rank_of op ≤ r

pub binary_is : (r : ℕ) (ts rest : List Tok) (op : BinaryOperator) → binary_at r ts ≡ Some (op, rest) → IsOperator r ts op rest
unfolding binary_at
binary_is r [] rest op e = absurd cc
binary_is r (t ∷ ts) rest op e =
    let o = bind_ok _ _ _ e in
    let g = cond_some _ _ _ o.2 in
    let at : t ≡ binary_token o.0 = operator_is t o.0 o.1 in
    subst (λ (p : BinaryOperator × List Tok). IsOperator r (t ∷ ts) p.0 p.1) g.1 (record { at_front = ap (λ (u : Tok). u ∷ ts) at; ranked = operator_ranked t o.0 o.1; of_rank = leb-true _ _ g.0 })

pub record IsCondenser (ts : List Tok) (op : Aggregate) (rest : List Tok) : Type 0 where
  pub token : Tok
  pub at_front : ts ≡ token ∷ rest
  pub joins : Condenses op token

pub condenser_is : (ts rest : List Tok) (op : Aggregate) → condenser_at ts ≡ Some (op, rest) → IsCondenser ts op rest
unfolding condenser_at
condenser_is (sign signs.Plus ∷ ts) rest op e = subst (λ (p : Aggregate × List Tok). IsCondenser (sign signs.Plus ∷ ts) p.0 p.1) (found_is (aggregates.Sum, ts) (op, rest) e) (record { token = sign signs.Plus; at_front = refl; joins = by_sum })
condenser_is (sign signs.Star ∷ ts) rest op e = subst (λ (p : Aggregate × List Tok). IsCondenser (sign signs.Star ∷ ts) p.0 p.1) (found_is (aggregates.Product, ts) (op, rest) e) (record { token = sign signs.Star; at_front = refl; joins = by_product })
condenser_is (word words.Max ∷ ts) rest op e = subst (λ (p : Aggregate × List Tok). IsCondenser (word words.Max ∷ ts) p.0 p.1) (found_is (aggregates.Greatest, ts) (op, rest) e) (record { token = word words.Max; at_front = refl; joins = by_greatest })
condenser_is (word words.Min ∷ ts) rest op e = subst (λ (p : Aggregate × List Tok). IsCondenser (word words.Min ∷ ts) p.0 p.1) (found_is (aggregates.Least, ts) (op, rest) e) (record { token = word words.Min; at_front = refl; joins = by_least })
condenser_is (word words.And ∷ ts) rest op e = subst (λ (p : Aggregate × List Tok). IsCondenser (word words.And ∷ ts) p.0 p.1) (found_is (aggregates.Every, ts) (op, rest) e) (record { token = word words.And; at_front = refl; joins = by_every })
condenser_is (word words.Or ∷ ts) rest op e = subst (λ (p : Aggregate × List Tok). IsCondenser (word words.Or ∷ ts) p.0 p.1) (found_is (aggregates.Any, ts) (op, rest) e) (record { token = word words.Or; at_front = refl; joins = by_any })
condenser_is _ rest op e = absurd cc

abbrev pub postfix_sign : Postfix → Symbol
postfix_sign postfixes.Field = signs.Dot
postfix_sign postfixes.Brackets = signs.LeftBracket

pub postfix_is : (ts rest : List Tok) (k : Postfix) → postfix_at ts ≡ Some (k, rest) → ts ≡ sign (postfix_sign k) ∷ rest
unfolding postfix_at
postfix_is (sign signs.Dot ∷ ts) rest k e = ap (λ (p : Postfix × List Tok). sign (postfix_sign p.0) ∷ p.1) (found_is (postfixes.Field, ts) (k, rest) e)
postfix_is (sign signs.LeftBracket ∷ ts) rest k e = ap (λ (p : Postfix × List Tok). sign (postfix_sign p.0) ∷ p.1) (found_is (postfixes.Brackets, ts) (k, rest) e)
postfix_is _ rest k e = absurd cc

pub record IsReduction (ts : List Tok) (op : Aggregate) (rest : List Tok) : Type 0 where
  pub reducer : Keyword
  pub at_front : ts ≡ word reducer ∷ rest
  pub reduces : Reduces op reducer

-- how an expression begins, in tokens
abbrev pub Begins : List Tok → Begin → List Tok → Type 0
Begins ts (with_number n) rest = ts ≡ number n ∷ rest
Begins ts (with_truth b) rest = ts ≡ word (truth_word b) ∷ rest
Begins ts (with_variable x) rest = SpellsVariable ts x rest
Begins ts with_paren rest = ts ≡ sign signs.LeftParen ∷ rest
Begins ts with_brace rest = ts ≡ sign signs.LeftBrace ∷ rest
Begins ts with_abs rest = ts ≡ word words.Abs ∷ rest
Begins ts with_bit rest = ts ≡ word words.Bit ∷ rest
Begins ts (with_reduce op) rest = IsReduction ts op rest
Begins ts with_coverage rest = ts ≡ word words.Coverage ∷ rest
Begins ts with_condense rest = ts ≡ word words.Condense ∷ rest

pub start_is : (ts rest : List Tok) (b : Begin) → start_at ts ≡ Some (b, rest) → Begins ts b rest
unfolding start_at
start_is (number n ∷ ts) rest b e = subst (λ (p : Begin × List Tok). Begins (number n ∷ ts) p.0 p.1) (found_is (with_number n, ts) (b, rest) e) refl
start_is (name x ∷ ts) rest b e = subst (λ (p : Begin × List Tok). Begins (name x ∷ ts) p.0 p.1) (found_is (with_variable x, ts) (b, rest) e) plain_name
start_is (dollar x ∷ ts) rest b e = subst (λ (p : Begin × List Tok). Begins (dollar x ∷ ts) p.0 p.1) (found_is (with_variable x, ts) (b, rest) e) dollar_name
start_is (sign signs.LeftParen ∷ ts) rest b e = subst (λ (p : Begin × List Tok). Begins (sign signs.LeftParen ∷ ts) p.0 p.1) (found_is (with_paren, ts) (b, rest) e) refl
start_is (sign signs.LeftBrace ∷ ts) rest b e = subst (λ (p : Begin × List Tok). Begins (sign signs.LeftBrace ∷ ts) p.0 p.1) (found_is (with_brace, ts) (b, rest) e) refl
start_is (word words.True ∷ ts) rest b e = subst (λ (p : Begin × List Tok). Begins (word words.True ∷ ts) p.0 p.1) (found_is (with_truth true, ts) (b, rest) e) refl
start_is (word words.False ∷ ts) rest b e = subst (λ (p : Begin × List Tok). Begins (word words.False ∷ ts) p.0 p.1) (found_is (with_truth false, ts) (b, rest) e) refl
start_is (word words.Abs ∷ ts) rest b e = subst (λ (p : Begin × List Tok). Begins (word words.Abs ∷ ts) p.0 p.1) (found_is (with_abs, ts) (b, rest) e) refl
start_is (word words.Bit ∷ ts) rest b e = subst (λ (p : Begin × List Tok). Begins (word words.Bit ∷ ts) p.0 p.1) (found_is (with_bit, ts) (b, rest) e) refl
start_is (word words.Count ∷ ts) rest b e = subst (λ (p : Begin × List Tok). Begins (word words.Count ∷ ts) p.0 p.1) (found_is (with_reduce aggregates.Count, ts) (b, rest) e) (record { reducer = words.Count; at_front = refl; reduces = to_count })
start_is (word words.Some ∷ ts) rest b e = subst (λ (p : Begin × List Tok). Begins (word words.Some ∷ ts) p.0 p.1) (found_is (with_reduce aggregates.Any, ts) (b, rest) e) (record { reducer = words.Some; at_front = refl; reduces = to_any })
start_is (word words.All ∷ ts) rest b e = subst (λ (p : Begin × List Tok). Begins (word words.All ∷ ts) p.0 p.1) (found_is (with_reduce aggregates.Every, ts) (b, rest) e) (record { reducer = words.All; at_front = refl; reduces = to_every })
start_is (word words.Add ∷ ts) rest b e = subst (λ (p : Begin × List Tok). Begins (word words.Add ∷ ts) p.0 p.1) (found_is (with_reduce aggregates.Sum, ts) (b, rest) e) (record { reducer = words.Add; at_front = refl; reduces = to_sum })
start_is (word words.Avg ∷ ts) rest b e = subst (λ (p : Begin × List Tok). Begins (word words.Avg ∷ ts) p.0 p.1) (found_is (with_reduce aggregates.Average, ts) (b, rest) e) (record { reducer = words.Avg; at_front = refl; reduces = to_average })
start_is (word words.Min ∷ ts) rest b e = subst (λ (p : Begin × List Tok). Begins (word words.Min ∷ ts) p.0 p.1) (found_is (with_reduce aggregates.Least, ts) (b, rest) e) (record { reducer = words.Min; at_front = refl; reduces = to_least })
start_is (word words.Max ∷ ts) rest b e = subst (λ (p : Begin × List Tok). Begins (word words.Max ∷ ts) p.0 p.1) (found_is (with_reduce aggregates.Greatest, ts) (b, rest) e) (record { reducer = words.Max; at_front = refl; reduces = to_greatest })
start_is (word words.Coverage ∷ ts) rest b e = subst (λ (p : Begin × List Tok). Begins (word words.Coverage ∷ ts) p.0 p.1) (found_is (with_coverage, ts) (b, rest) e) refl
start_is (word words.Condense ∷ ts) rest b e = subst (λ (p : Begin × List Tok). Begins (word words.Condense ∷ ts) p.0 p.1) (found_is (with_condense, ts) (b, rest) e) refl
start_is _ rest b e = absurd cc

or_true : (a b : Bool) → (a || b) ≡ true → (a ≡ true) ⊎ (b ≡ true)
or_true true b e = inl refl
or_true false b e = inr e

pub record StandsFormat (ts rest : List Tok) : Type 0 where
  pub token : Tok
  pub at_front : ts ≡ token ∷ rest
  pub is_format : IsFormat token

pub format_is : (ts rest : List Tok) → format_at ts ≡ Some rest → StandsFormat ts rest
unfolding format_at
format_is (word words.Csv ∷ ts) rest e = record { token = word words.Csv; at_front = ap (λ (us : List Tok). word words.Csv ∷ us) (found_is ts rest e); is_format = csv_word }
format_is (quoted w ∷ ts) rest e =
    let g = cond_some (is_csv w) ts rest e in
    record {
      token = quoted w;
      at_front = ap (λ (us : List Tok). quoted w ∷ us) g.1;
      is_format = ⊎_elim (λ h. csv_quoted ((bytes_eq-Decides _ _).0 h)) (λ h. text_csv_quoted ((bytes_eq-Decides _ _).0 h)) (or_true _ _ g.0);
    }
format_is _ rest e = absurd cc
