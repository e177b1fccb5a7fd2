-- What some tokens spell, the printed tokens spell too.
use Rattle.std.proofs.Common.{◌≡◌, ℕ, zero, suc, ◌-◌, ◌<◌, ◌≤◌, ℤ, pos, ◌-ℤ◌, true, false, List, [], ◌∷◌, codes, refl, sym, arith, subst}
use Rattle.wcps_text.specs.declared.token.Symbol.TheVariants as signs
use Rattle.arr_core.specs.declared.keyword.Keyword.{Keyword}
use Rattle.arr_core.specs.declared.keyword.Keyword.TheVariants as words
use Rattle.wcps_text.specs.declared.operator.UnaryOperator.{UnaryOperator}
use Rattle.wcps_text.specs.declared.operator.UnaryOperator.TheVariants as unaries
use Rattle.wcps_text.specs.declared.operator.BinaryOperator.{BinaryOperator}
use Rattle.wcps_text.specs.declared.operator.BinaryOperator.TheVariants as binaries
use Rattle.wcps_text.specs.declared.operator.Aggregate.{Aggregate}
use Rattle.wcps_text.specs.declared.operator.Aggregate.TheVariants as aggregates
use Rattle.wcps_text.specs.declared.tree.ListItem.{ListItem}
use Rattle.wcps_text.specs.declared.tree.ListItem.TheVariants as list_items
use Rattle.wcps_text.specs.Token.{Tok, number, name, word, sign}
use Rattle.wcps_text.specs.Tree as tree
use Rattle.wcps_text.specs.Tree.{Tree, Parts, Subs, PlaceTree, IntervalTree, Iters, Condition, BindingTree, ItemTree, QueryTree}
use Rattle.arr_core.specs.Keywords.{IsWritten, is_keyword}
use Rattle.arr_core.proofs.Keywords.{unwritten}
use Rattle.wcps_text.specs.Number.{max_number}
use Rattle.wcps_text.specs.Lexing.{is_word, plain as plain_form}
use Rattle.wcps_text.specs.Grammar.{Prefixes, negate, plus, not, binary_token, truth_word, Reduces, to_count, to_any, to_every, to_sum, to_average, to_least, to_greatest, Condenses, by_sum, by_product, by_greatest, by_least, by_every, by_any, rank_of, max_rank, Openness, closed, open_ended, SpellsInt, unsigned, positive, negative, SpellsItem, int_item, truth_item, SpellsItems, last_item, more_items, SpellsVariable, plain_name, dollar_name, Spells, post, coverage, condense, unary, tighter, binary, SpellsInParens, parens, SpellsPost, literal, truth, variable, grouped, abs, bit, reduce, parts, value_list, field, brackets, named, SpellsParts, last_part, more_parts, of_axis, SpellsSubs, last_sub, more_subs, SpellsPlace, trimmed, position, SpellsInterval, between, domain_of, iterator, SpellsIters, last_iter, more_iters, SpellsCondition, unconditional, conditional, SpellsNames, last_name, more_names, stands_for, SpellsBindings, last_binding, more_bindings, csv_word, SpellsReturn, encoded, unencoded, SpellsEnd, for_all, for_some, IsSpelled, query}
use Rattle.wcps_text.proofs.Ranks.{rank_most, rank_suc, raised}
use Rattle.wcps_text.proofs.Lexemes.{Written, below_zero}
use Rattle.wcps_print.specs.Printing.{name_token, int_tokens, unary_token, between_tokens, reduce_token, condense_token, items_tokens, expr_tokens, parts_tokens, subs_tokens, place_tokens, interval_tokens, iters_tokens, condition_tokens, names_tokens, bindings_tokens, item_tokens, query_tokens}
use Rattle.wcps_print.proofs.Operators.{between as between_same}
use Rattle.wcps_print.proofs.Proper.{Proper, Each, name_as_name, dollar_as_dollar}

-- what an expression is printed as spells it, before any rest
pub record Again (e : Tree) : Type 0 where
  pub openness : Openness
  pub spelled : (rest : List Tok) → Spells openness max_rank (expr_tokens e rest) e rest
  pub written : (rest : List Tok) → Each Written rest → Each Written (expr_tokens e rest)

-- what is spelled at the tightest rank is spelled at the loosest
loosest : {o : Openness} {ts rest : List Tok} {e : Tree} → Spells o 0 ts e rest → Spells o max_rank ts e rest
loosest s = raised _ 0 max_rank _ _ _ (omega arith) s

-- an operator between two operands in parentheses
between_operands : {ts mid rest : List Tok} {a b : Tree} (op : BinaryOperator) → 0 < rank_of op → Spells closed 0 ts a (binary_token op ∷ mid) → Spells closed 0 mid b rest → Spells closed max_rank ts (tree.binary op a b) rest
between_operands {ts} {mid} {rest} {a} {b} op ranked sa sb =
    let r = rank_of op - 1 in
    let joined : Spells closed (suc r) ts (tree.binary op a b) rest = binary op (rank_suc op ranked) (raised closed 0 (suc r) ts (binary_token op ∷ mid) a (omega arith) sa) (raised closed 0 r mid rest b (omega arith) sb) in
    raised closed (suc r) max_rank ts rest (tree.binary op a b) (omega (arith, rank_suc op ranked, rank_most op)) joined

written_binary : (op : BinaryOperator) → Written (binary_token op)
written_binary binaries.Multiply = tt
written_binary binaries.Divide = tt
written_binary binaries.Add = tt
written_binary binaries.Subtract = tt
written_binary binaries.Less = tt
written_binary binaries.LessEqual = tt
written_binary binaries.Greater = tt
written_binary binaries.GreaterEqual = tt
written_binary binaries.Equal = tt
written_binary binaries.NotEqual = tt
written_binary binaries.And = tt
written_binary binaries.Or = tt
written_binary binaries.Xor = tt
written_binary binaries.Bit = tt

written_condense : (op : Aggregate) → Written (condense_token op)
written_condense aggregates.Sum = tt
written_condense aggregates.Product = tt
written_condense aggregates.Greatest = tt
written_condense aggregates.Least = tt
written_condense aggregates.Every = tt
written_condense aggregates.Any = tt
written_condense aggregates.Count = tt
written_condense aggregates.Average = tt

condense_same : {op : Aggregate} {t : Tok} → Condenses op t → condense_token op ≡ t
condense_same by_sum = refl
condense_same by_product = refl
condense_same by_greatest = refl
condense_same by_least = refl
condense_same by_every = refl
condense_same by_any = refl

written_reduce : (op : Aggregate) → Written (reduce_token op)
written_reduce aggregates.Sum = tt
written_reduce aggregates.Product = tt
written_reduce aggregates.Greatest = tt
written_reduce aggregates.Least = tt
written_reduce aggregates.Every = tt
written_reduce aggregates.Any = tt
written_reduce aggregates.Count = tt
written_reduce aggregates.Average = tt

reduce_same : {op : Aggregate} {w : Keyword} → Reduces op w → reduce_token op ≡ word w
reduce_same to_count = refl
reduce_same to_any = refl
reduce_same to_every = refl
reduce_same to_sum = refl
reduce_same to_average = refl
reduce_same to_least = refl
reduce_same to_greatest = refl

free : is_keyword (codes "c") ≡ false
unfolding is_keyword
free = refl

no_keyword : (k : Keyword) → IsWritten k (codes "c") → ⊥
no_keyword = unwritten (codes "c") free

any_name : Written (name (codes "c"))
any_name = plain_form (is_word refl tt) (omega arith) no_keyword

-- a name without `$` is printed as one
pub record AgainName (x : List ℕ) : Type 0 where
  pub same : name_token x ≡ name x
  pub written : Written (name_token x)

name_again : (x : List ℕ) → Proper (name x) → AgainName x
name_again x p = record { same = name_as_name x p; written = rw (name_as_name x p) p }

pub record AgainVariable (x : List ℕ) : Type 0 where
  pub spelled : (rest : List Tok) → SpellsVariable (name_token x ∷ rest) x rest
  pub written : Written (name_token x)

again_variable : {ts rest : List Tok} {x : List ℕ} → SpellsVariable ts x rest → Each Proper ts → AgainVariable x × Each Proper rest
again_variable (plain_name {x}) p = (record { spelled = λ rest. rw (name_as_name x p.0) plain_name; written = rw (name_as_name x p.0) p.0 }, p.1)
again_variable (dollar_name {x}) p = (record { spelled = λ rest. rw (dollar_as_dollar x p.0) dollar_name; written = rw (dollar_as_dollar x p.0) p.0 }, p.1)

pub record AgainInt (z : ℤ) : Type 0 where
  pub spelled : (rest : List Tok) → SpellsInt (int_tokens z rest) z rest
  pub written : (rest : List Tok) → Each Written rest → Each Written (int_tokens z rest)

int_negative : (n : ℕ) → n ≤ max_number → AgainInt (pos 0 -ℤ pos n)
int_negative zero small = record { spelled = λ rest. unsigned; written = λ rest w. (small, w) }
int_negative (suc n) small =
    subst AgainInt (sym (below_zero n)) (record {
      spelled = λ rest. subst (λ (z : ℤ). SpellsInt (sign signs.Minus ∷ number (suc n) ∷ rest) z rest) (below_zero n) negative;
      written = λ rest w. (tt, (small, w));
    })

again_int : {ts rest : List Tok} {z : ℤ} → SpellsInt ts z rest → Each Proper ts → AgainInt z × Each Proper rest
again_int unsigned p = (record { spelled = λ rest. unsigned; written = λ rest w. (p.0, w) }, p.1)
again_int positive p = (record { spelled = λ rest. unsigned; written = λ rest w. (p.1.0, w) }, p.1.1)
again_int (negative {n}) p = (int_negative n p.1.0, p.1.1)

-- what one value of a value list is printed as
abbrev value_tokens : ListItem → List Tok → List Tok
value_tokens (list_items.Int z) rest = int_tokens z rest
value_tokens (list_items.Truth b) rest = word (truth_word b) ∷ rest

pub record AgainItem (x : ListItem) : Type 0 where
  pub spelled : (rest : List Tok) → SpellsItem (value_tokens x rest) x rest
  pub written : (rest : List Tok) → Each Written rest → Each Written (value_tokens x rest)

again_item : {ts rest : List Tok} {x : ListItem} → SpellsItem ts x rest → Each Proper ts → AgainItem x × Each Proper rest
again_item (int_item s) p = let z = again_int s p in (record { spelled = λ rest. int_item (z.0.spelled rest); written = z.0.written }, z.1)
again_item truth_item p = (record { spelled = λ rest. truth_item; written = λ rest w. (tt, w) }, p.1)

pub record AgainItems (xs : List ListItem) : Type 0 where
  pub spelled : (rest : List Tok) → SpellsItems (items_tokens true xs rest) xs rest
  pub separated : (rest : List Tok) → items_tokens false xs rest ≡ sign signs.Semicolon ∷ items_tokens true xs rest
  pub written : (rest : List Tok) → Each Written rest → Each Written (items_tokens true xs rest)

items_first : (x : ListItem) (xs : List ListItem) (rest : List Tok) → items_tokens true (x ∷ xs) rest ≡ value_tokens x (items_tokens false xs rest)
unfolding items_tokens
items_first (list_items.Int z) xs rest = refl
items_first (list_items.Truth b) xs rest = refl

items_separated : (x : ListItem) (xs : List ListItem) (rest : List Tok) → items_tokens false (x ∷ xs) rest ≡ sign signs.Semicolon ∷ items_tokens true (x ∷ xs) rest
unfolding items_tokens
items_separated (list_items.Int z) xs rest = refl
items_separated (list_items.Truth b) xs rest = refl

items_none : (rest : List Tok) → items_tokens false [] rest ≡ rest
unfolding items_tokens
items_none rest = refl

again_items : {ts rest : List Tok} {xs : List ListItem} → SpellsItems ts xs rest → Each Proper ts → AgainItems xs × Each Proper rest
again_items (last_item {x} s) p =
    let v = again_item s p in (
      record {
        spelled = λ rest. rw (items_first x [] rest, items_none rest) (last_item (v.0.spelled rest));
        separated = λ rest. items_separated x [] rest;
        written = λ rest w. rw (items_first x [] rest, items_none rest) (v.0.written rest w);
      },
      v.1,
    )
again_items (more_items {x} {xs} s more) p =
    let v = again_item s p in
    let vs = again_items more v.1.1 in (
      record {
        spelled = λ rest. rw (items_first x xs rest, vs.0.separated rest) (more_items (v.0.spelled (sign signs.Semicolon ∷ items_tokens true xs rest)) (vs.0.spelled rest));
        separated = λ rest. items_separated x xs rest;
        written = λ rest w. rw (items_first x xs rest, vs.0.separated rest) (v.0.written (sign signs.Semicolon ∷ items_tokens true xs rest) (tt, vs.0.written rest w));
      },
      vs.1,
    )

pub record AgainParts (ps : Parts) : Type 0 where
  pub spelled : (rest : List Tok) → SpellsParts (parts_tokens true ps rest) ps rest
  pub separated : (rest : List Tok) → parts_tokens false ps rest ≡ sign signs.Semicolon ∷ parts_tokens true ps rest
  pub written : (rest : List Tok) → Each Written rest → Each Written (parts_tokens true ps rest)

pub record AgainSubs (ss : Subs) : Type 0 where
  pub spelled : (rest : List Tok) → SpellsSubs (subs_tokens true ss rest) ss rest
  pub separated : (rest : List Tok) → subs_tokens false ss rest ≡ sign signs.Comma ∷ subs_tokens true ss rest
  pub written : (rest : List Tok) → Each Written rest → Each Written (subs_tokens true ss rest)

pub record AgainPlace (p : PlaceTree) : Type 0 where
  pub spelled : (rest : List Tok) → SpellsPlace (place_tokens p rest) p rest
  pub written : (rest : List Tok) → Each Written rest → Each Written (place_tokens p rest)

pub record AgainInterval (i : IntervalTree) : Type 0 where
  pub spelled : (rest : List Tok) → SpellsInterval (interval_tokens i rest) i rest
  pub written : (rest : List Tok) → Each Written rest → Each Written (interval_tokens i rest)

pub record AgainIters (is : Iters) : Type 0 where
  pub spelled : (rest : List Tok) → SpellsIters (iters_tokens true is rest) is rest
  pub separated : (rest : List Tok) → iters_tokens false is rest ≡ sign signs.Comma ∷ iters_tokens true is rest
  pub written : (rest : List Tok) → Each Written rest → Each Written (iters_tokens true is rest)

-- iterators and the condition behind them
pub record AgainCondition (is : Iters) (c : Condition) : Type 0 where
  pub spelled : (rest : List Tok) → SpellsCondition (iters_tokens true is (condition_tokens c rest)) is c rest
  pub written : (rest : List Tok) → Each Written rest → Each Written (iters_tokens true is (condition_tokens c rest))

-- an expression in parentheses
in_parens : {e : Tree} → Again e → (rest : List Tok) → SpellsInParens (sign signs.LeftParen ∷ expr_tokens e (sign signs.RightParen ∷ rest)) e rest
in_parens a rest = parens (a.spelled (sign signs.RightParen ∷ rest))

operand : {e : Tree} → Again e → (rest : List Tok) → Spells closed 0 (sign signs.LeftParen ∷ expr_tokens e (sign signs.RightParen ∷ rest)) e rest
operand a rest = post (grouped (in_parens a rest))

written_operand : {e : Tree} → Again e → (rest : List Tok) → Each Written rest → Each Written (sign signs.LeftParen ∷ expr_tokens e (sign signs.RightParen ∷ rest))
written_operand a rest w = (tt, a.written (sign signs.RightParen ∷ rest) (tt, w))

unary_again : {e : Tree} (op : UnaryOperator) → Prefixes op (unary_token op) → Written (unary_token op) → Again e → Again (tree.unary op e)
unfolding expr_tokens
unary_again op prefix token a = record {
  openness = closed;
  spelled = λ rest. loosest (unary prefix (operand a rest));
  written = λ rest w. (token, written_operand a rest w);
}

binary_again : {a b : Tree} (op : BinaryOperator) → 0 < rank_of op → Again a → Again b → Again (tree.binary op a b)
unfolding expr_tokens
binary_again {a} {b} op ranked x y =
    let same : (rest : List Tok) → between_tokens op (expr_tokens a) (expr_tokens b) rest ≡ expr_tokens (tree.binary op a b) rest = λ rest. between_same op (expr_tokens a) (expr_tokens b) rest ranked in
    record {
      openness = closed;
      spelled = λ rest. subst (λ (ts : List Tok). Spells closed max_rank ts (tree.binary op a b) rest) (same rest) (between_operands op ranked (operand x (binary_token op ∷ sign signs.LeftParen ∷ expr_tokens b (sign signs.RightParen ∷ rest))) (operand y rest));
      written = λ rest w. subst (λ (ts : List Tok). Each Written ts) (same rest) (written_operand x _ (written_binary op, written_operand y rest w));
    }

reduce_again : {e : Tree} {op : Aggregate} {w : Keyword} → Reduces op w → Again e → Again (tree.reduce op e)
unfolding expr_tokens
reduce_again {e} {op} r a = record {
  openness = closed;
  spelled = λ rest. rw (reduce_same r) (loosest (post (reduce r (in_parens a rest))));
  written = λ rest w. (written_reduce op, written_operand a rest w);
}

mutual
  unfolding expr_tokens

  pub again : {o : Openness} {r : ℕ} {ts rest : List Tok} {e : Tree} → Spells o r ts e rest → Each Proper ts → Again e × Each Proper rest
  again (post s) p = again_post s p
  again (coverage si s) p =
      let i = again_iters si p.1.1.1 in
      let b = again s i.1.1 in (
        record {
          openness = open_ended;
          spelled = λ rest. loosest (coverage (i.0.spelled _) (loosest (operand b.0 rest)));
          written = λ rest w. (tt, (any_name, (tt, i.0.written _ (tt, written_operand b.0 rest w))));
        },
        b.1,
      )
  again (condense {op} joins sc s) p =
      let c = again_condition sc p.1.1.1 in
      let b = again s c.1.1 in (
        record {
          openness = open_ended;
          spelled = λ rest. rw (condense_same joins) (loosest (condense joins (c.0.spelled _) (loosest (operand b.0 rest))));
          written = λ rest w. (tt, (written_condense op, (tt, c.0.written _ (tt, written_operand b.0 rest w))));
        },
        b.1,
      )
  again (unary negate s) p = let a = again s p.1 in (unary_again unaries.Negate negate tt a.0, a.1)
  again (unary plus s) p = let a = again s p.1 in (unary_again unaries.Plus plus tt a.0, a.1)
  again (unary not s) p = let a = again s p.1 in (unary_again unaries.Not not tt a.0, a.1)
  again (tighter s) p = again s p
  again (binary op same sa sb) p =
      let a = again sa p in
      let b = again sb a.1.1 in
      (binary_again op (omega (arith, same)) a.0 b.0, b.1)

  again_parens : {ts rest : List Tok} {e : Tree} → SpellsInParens ts e rest → Each Proper ts → Again e × Each Proper rest
  again_parens (parens s) p = let a = again s p.1 in (a.0, a.1.1)

  again_post : {ts rest : List Tok} {e : Tree} → SpellsPost ts e rest → Each Proper ts → Again e × Each Proper rest
  again_post literal p = (record { openness = closed; spelled = λ rest. loosest (post literal); written = λ rest w. (p.0, w) }, p.1)
  again_post truth p = (record { openness = closed; spelled = λ rest. loosest (post truth); written = λ rest w. (tt, w) }, p.1)
  again_post (variable sv) p =
      let v = again_variable sv p in
      (record { openness = closed; spelled = λ rest. loosest (post (variable (v.0.spelled rest))); written = λ rest w. (v.0.written, w) }, v.1)
  again_post (grouped s) p = again_parens s p
  again_post (abs s) p =
      let a = again_parens s p.1 in
      (record { openness = closed; spelled = λ rest. loosest (post (abs (in_parens a.0 rest))); written = λ rest w. (tt, written_operand a.0 rest w) }, a.1)
  again_post (bit sa sb) p =
      let a = again sa p.1.1 in
      let b = again sb a.1.1 in (
        record {
          openness = closed;
          spelled = λ rest. loosest (post (bit (a.0.spelled _) (b.0.spelled _)));
          written = λ rest w. (tt, (tt, a.0.written _ (tt, b.0.written _ (tt, w))));
        },
        b.1.1,
      )
  again_post (reduce r s) p = let a = again_parens s p.1 in (reduce_again r a.0, a.1)
  again_post (parts s) p =
      let a = again_parts s p.1 in
      (record { openness = closed; spelled = λ rest. loosest (post (parts (a.0.spelled _))); written = λ rest w. (tt, a.0.written _ (tt, w)) }, a.1.1)
  again_post (value_list si sx) p =
      let i = again_iters si p.1.1.1 in
      let x = again_items sx i.1.1.1.1 in (
        record {
          openness = closed;
          spelled = λ rest. loosest (post (value_list (i.0.spelled _) (x.0.spelled _)));
          written = λ rest w. (tt, (any_name, (tt, i.0.written _ (tt, (tt, (tt, x.0.written _ (tt, w)))))));
        },
        x.1.1,
      )
  again_post (field {x} s) p =
      let a = again_post s p in
      let n = name_again x a.1.1.0 in (
        record {
          openness = closed;
          spelled = λ rest. rw n.same (loosest (post (field (grouped (in_parens a.0 (sign signs.Dot ∷ name x ∷ rest))))));
          written = λ rest w. written_operand a.0 _ (tt, (n.written, w));
        },
        a.1.1.1,
      )
  again_post (brackets s ss) p =
      let a = again_post s p in
      let b = again_subs ss a.1.1 in (
        record {
          openness = closed;
          spelled = λ rest. loosest (post (brackets (grouped (in_parens a.0 _)) (b.0.spelled _)));
          written = λ rest w. written_operand a.0 _ (tt, b.0.written _ (tt, w));
        },
        b.1.1,
      )

  again_parts : {ts rest : List Tok} {ps : Parts} → SpellsParts ts ps rest → Each Proper ts → AgainParts ps × Each Proper rest
  again_parts (last_part (named {x} s)) p =
      let n = name_again x p.0 in
      let a = again s p.1.1 in (
        record {
          spelled = λ rest. rw n.same (last_part (named (a.0.spelled rest)));
          separated = λ rest. refl;
          written = λ rest w. (n.written, (tt, a.0.written rest w));
        },
        a.1,
      )
  again_parts (more_parts {ps} (named {x} s) more) p =
      let n = name_again x p.0 in
      let a = again s p.1.1 in
      let b = again_parts more a.1.1 in (
        record {
          spelled = λ rest. rw (n.same, b.0.separated rest) (more_parts (named (a.0.spelled _)) (b.0.spelled rest));
          separated = λ rest. refl;
          written = λ rest w. (n.written, (tt, a.0.written _ (rw (b.0.separated rest) (tt, b.0.written rest w))));
        },
        b.1,
      )

  again_subs : {ts rest : List Tok} {ss : Subs} → SpellsSubs ts ss rest → Each Proper ts → AgainSubs ss × Each Proper rest
  again_subs (last_sub (of_axis {a} s)) p =
      let n = name_again a p.0 in
      let q = again_place s p.1.1 in (
        record {
          spelled = λ rest. rw n.same (last_sub (of_axis (q.0.spelled _)));
          separated = λ rest. refl;
          written = λ rest w. (n.written, (tt, q.0.written _ (tt, w)));
        },
        q.1.1,
      )
  again_subs (more_subs {ss} (of_axis {a} s) more) p =
      let n = name_again a p.0 in
      let q = again_place s p.1.1 in
      let b = again_subs more q.1.1.1 in (
        record {
          spelled = λ rest. rw (n.same, b.0.separated rest) (more_subs (of_axis (q.0.spelled _)) (b.0.spelled rest));
          separated = λ rest. refl;
          written = λ rest w. (n.written, (tt, q.0.written _ (tt, rw (b.0.separated rest) (tt, b.0.written rest w))));
        },
        b.1,
      )

  again_place : {ts rest : List Tok} {q : PlaceTree} → SpellsPlace ts q rest → Each Proper ts → AgainPlace q × Each Proper rest
  again_place (trimmed s) p = let i = again_interval s p in (record { spelled = λ rest. trimmed (i.0.spelled rest); written = i.0.written }, i.1)
  again_place (position s) p = let a = again s p in (record { spelled = λ rest. position (a.0.spelled rest); written = a.0.written }, a.1)

  again_interval : {ts rest : List Tok} {i : IntervalTree} → SpellsInterval ts i rest → Each Proper ts → AgainInterval i × Each Proper rest
  again_interval (between sl sh) p =
      let l = again_int sl p in
      let h = again_int sh l.1.1 in
      (record { spelled = λ rest. between (l.0.spelled _) (h.0.spelled rest); written = λ rest w. l.0.written _ (tt, h.0.written rest w) }, h.1)
  again_interval (domain_of {a = x} s) p =
      let a = again s p.1.1 in
      let n = name_again x a.1.1.0 in (
        record {
          spelled = λ rest. rw n.same (domain_of (a.0.spelled _));
          written = λ rest w. (tt, (tt, a.0.written _ (tt, (n.written, (tt, w)))));
        },
        a.1.1.1.1,
      )

  again_iters : {ts rest : List Tok} {is : Iters} → SpellsIters ts is rest → Each Proper ts → AgainIters is × Each Proper rest
  again_iters (last_iter (iterator {a = x} sv si)) p =
      let v = again_variable sv p in
      let n = name_again x v.1.0 in
      let i = again_interval si v.1.1.1 in (
        record {
          spelled = λ rest. rw n.same (last_iter (iterator (v.0.spelled _) (i.0.spelled _)));
          separated = λ rest. refl;
          written = λ rest w. (v.0.written, (n.written, (tt, i.0.written _ (tt, w))));
        },
        i.1.1,
      )
  again_iters (more_iters {is} (iterator {a = x} sv si) more) p =
      let v = again_variable sv p in
      let n = name_again x v.1.0 in
      let i = again_interval si v.1.1.1 in
      let b = again_iters more i.1.1.1 in (
        record {
          spelled = λ rest. rw (n.same, b.0.separated rest) (more_iters (iterator (v.0.spelled _) (i.0.spelled _)) (b.0.spelled rest));
          separated = λ rest. refl;
          written = λ rest w. (v.0.written, (n.written, (tt, i.0.written _ (tt, rw (b.0.separated rest) (tt, b.0.written rest w)))));
        },
        b.1,
      )

  again_condition : {ts rest : List Tok} {is : Iters} {c : Condition} → SpellsCondition ts is c rest → Each Proper ts → AgainCondition is c × Each Proper rest
  again_condition (unconditional s) p = let i = again_iters s p in (record { spelled = λ rest. unconditional (i.0.spelled rest); written = λ rest w. i.0.written rest w }, i.1)
  again_condition (conditional si s) p =
      let i = again_iters si p in
      let c = again s i.1.1 in (
        record {
          spelled = λ rest. conditional (i.0.spelled _) (loosest (operand c.0 rest));
          written = λ rest w. i.0.written _ (tt, written_operand c.0 rest w);
        },
        c.1,
      )

-- whole queries
pub record AgainNames (xs : List (List ℕ)) : Type 0 where
  pub spelled : (rest : List Tok) → SpellsNames (names_tokens true xs rest) xs rest
  pub separated : (rest : List Tok) → names_tokens false xs rest ≡ sign signs.Comma ∷ names_tokens true xs rest
  pub written : (rest : List Tok) → Each Written rest → Each Written (names_tokens true xs rest)

again_names : {ts rest : List Tok} {xs : List (List ℕ)} → SpellsNames ts xs rest → Each Proper ts → AgainNames xs × Each Proper rest
unfolding names_tokens
again_names (last_name {x}) p =
    let n = name_again x p.0 in
    (record { spelled = λ rest. rw n.same last_name; separated = λ rest. refl; written = λ rest w. (n.written, w) }, p.1)
again_names (more_names {x} {xs} more) p =
    let n = name_again x p.0 in
    let b = again_names more p.1.1 in (
      record {
        spelled = λ rest. rw (n.same, b.0.separated rest) (more_names (b.0.spelled rest));
        separated = λ rest. refl;
        written = λ rest w. (n.written, rw (b.0.separated rest) (tt, b.0.written rest w));
      },
      b.1,
    )

pub record AgainBindings (bs : List BindingTree) : Type 0 where
  pub spelled : (rest : List Tok) → SpellsBindings (bindings_tokens true bs rest) bs rest
  pub separated : (rest : List Tok) → bindings_tokens false bs rest ≡ sign signs.Comma ∷ bindings_tokens true bs rest
  pub written : (rest : List Tok) → Each Written rest → Each Written (bindings_tokens true bs rest)

again_bindings : {ts rest : List Tok} {bs : List BindingTree} → SpellsBindings ts bs rest → Each Proper ts → AgainBindings bs × Each Proper rest
unfolding bindings_tokens
again_bindings (last_binding (stands_for sv sn)) p =
    let v = again_variable sv p in
    let n = again_names sn v.1.1.1 in (
      record {
        spelled = λ rest. last_binding (stands_for (v.0.spelled _) (n.0.spelled _));
        separated = λ rest. refl;
        written = λ rest w. (v.0.written, (tt, (tt, n.0.written _ (tt, w))));
      },
      n.1.1,
    )
again_bindings (more_bindings {bs} (stands_for sv sn) more) p =
    let v = again_variable sv p in
    let n = again_names sn v.1.1.1 in
    let b = again_bindings more n.1.1.1 in (
      record {
        spelled = λ rest. rw (b.0.separated rest) (more_bindings (stands_for (v.0.spelled _) (n.0.spelled _)) (b.0.spelled rest));
        separated = λ rest. refl;
        written = λ rest w. (v.0.written, (tt, (tt, n.0.written _ (tt, rw (b.0.separated rest) (tt, b.0.written rest w)))));
      },
      b.1,
    )

pub record AgainItemOf (i : ItemTree) : Type 0 where
  pub spelled : SpellsReturn (item_tokens i []) i
  pub written : Each Written (item_tokens i [])

again_return : {ts : List Tok} {i : ItemTree} → SpellsReturn ts i → Each Proper ts → AgainItemOf i
unfolding item_tokens
again_return (encoded s format) p =
    let a = again s p.1.1 in
    record { spelled = encoded (a.0.spelled _) csv_word; written = (tt, (tt, a.0.written _ (tt, (tt, (tt, tt))))) }
again_return (unencoded s) p =
    let a = again s p in
    record { spelled = unencoded (a.0.spelled []); written = a.0.written [] tt }

pub record AgainEnd (c : Condition) (i : ItemTree) : Type 0 where
  pub spelled : SpellsEnd (condition_tokens c (word words.Return ∷ item_tokens i [])) c i
  pub written : Each Written (condition_tokens c (word words.Return ∷ item_tokens i []))

again_end : {ts : List Tok} {c : Condition} {i : ItemTree} → SpellsEnd ts c i → Each Proper ts → AgainEnd c i
unfolding condition_tokens
again_end (for_all s) p = let r = again_return s p.1 in record { spelled = for_all r.spelled; written = (tt, r.written) }
again_end (for_some s sr) p =
    let a = again s p.1 in
    let r = again_return sr a.1.1 in
    record { spelled = for_some (loosest (operand a.0 _)) r.spelled; written = (tt, written_operand a.0 _ (tt, r.written)) }

pub record AgainQuery (q : QueryTree) : Type 0 where
  pub spelled : IsSpelled (query_tokens q) q
  pub written : Each Written (query_tokens q)

pub again_query : {ts : List Tok} {q : QueryTree} → IsSpelled ts q → Each Proper ts → AgainQuery q
unfolding query_tokens
again_query (query sb se) p =
    let b = again_bindings sb p.1 in
    let e = again_end se b.1 in
    record { spelled = query (b.0.spelled _) e.spelled; written = (tt, b.0.written _ e.written) }
