-- A printed query opens few brackets at once: at most three for each level of its tree, and one more.
use Rattle.std.proofs.Common.{◌≡◌, ℕ, ◌+◌, suc, ◌-◌, ◌*◌, ◌≤◌, Bool, true, false, List, [], ◌∷◌, cond, ◌==◌, ℤ, pos, negsuc, refl, arith, get_or, subst, sym, ◌<◌, ⊎_elim}
use Rattle.wcps_text.specs.declared.token.Symbol.TheVariants as signs
use Rattle.wcps_text.specs.declared.operator.UnaryOperator.{UnaryOperator}
use Rattle.wcps_text.specs.declared.operator.UnaryOperator.TheVariants as unaries
use Rattle.wcps_text.specs.declared.operator.BinaryOperator.{BinaryOperator}
use Rattle.wcps_text.specs.declared.operator.BinaryOperator.TheVariants as binaries
use Rattle.wcps_text.specs.declared.operator.Aggregate.{Aggregate}
use Rattle.wcps_text.specs.declared.operator.Aggregate.TheVariants as aggregates
use Rattle.wcps_text.specs.declared.tree.ListItem.{ListItem}
use Rattle.wcps_text.specs.declared.tree.ListItem.TheVariants as list_items
use Rattle.wcps_text.specs.Token.{Tok, number, name, dollar, word, sign}
use Rattle.wcps_text.specs.Tree as tree
use Rattle.wcps_text.specs.Tree.{Tree, Parts, no_parts, part, Subs, no_subs, sub, PlaceTree, trim, at, IntervalTree, bounds, domain, Iters, no_iters, iter, Condition, always, only, BindingTree, ItemTree, encode, plain, QueryTree}
use Rattle.wcps_text.specs.Limits.{depth_behind, deepest, height, parts_height, subs_height, place_height, interval_height, iters_height, condition_height, item_height, query_height}
use Rattle.wcps_text.specs.Grammar.{rank_of, binary_token, truth_word}
use Rattle.wcps_print.specs.Printing.{name_token, int_tokens, unary_token, between_tokens, bit_tokens, binary_tokens, reduce_token, condense_token, items_tokens, expr_tokens, parts_tokens, subs_tokens, place_tokens, interval_tokens, iters_tokens, condition_tokens, names_tokens, bindings_tokens, item_tokens, query_tokens}
use Rattle.wcps_print.proofs.Operators.{bit_or_between, between}

-- at most m brackets are open at once, where d are open at the front
unfoldable Within : ℕ → ℕ → List Tok → Type 0
Within m d ts = deepest d ts ≤ m

at-end : (m : ℕ) → Within m 0 []
unfolding Within
at-end m = omega arith

-- a token that is no bracket
flat : (m d : ℕ) (t : Tok) (ts : List Tok) → depth_behind d t ≡ d → d ≤ m → Within m d ts → Within m d (t ∷ ts)
unfolding Within
flat m d t ts e le h = let w : deepest (depth_behind d t) ts ≤ m = subst (λ k. deepest k ts ≤ m) (sym e) h in omega (arith, w, le)

opened : (m d : ℕ) (t : Tok) (ts : List Tok) → depth_behind d t ≡ d + 1 → d ≤ m → Within m (d + 1) ts → Within m d (t ∷ ts)
unfolding Within
opened m d t ts e le h = let w : deepest (depth_behind d t) ts ≤ m = subst (λ k. deepest k ts ≤ m) (sym e) h in omega (arith, w, le)

closed : (m d : ℕ) (t : Tok) (ts : List Tok) → depth_behind (d + 1) t ≡ d + 1 - 1 → d + 1 ≤ m → Within m d ts → Within m (d + 1) (t ∷ ts)
unfolding Within
closed m d t ts e le h =
    let back : d + 1 - 1 ≡ d = omega arith in
    let w : deepest (depth_behind (d + 1) t) ts ≤ m = subst (λ k. deepest k ts ≤ m) (sym e) (subst (λ k. deepest k ts ≤ m) (sym back) h) in
    omega (arith, w, le)

flat-name : (d : ℕ) (x : List ℕ) → depth_behind d (name_token x) ≡ d
unfolding name_token
flat-name d x = either (get_or x 0 0 == 36) d x
  where
    either : (b : Bool) (d : ℕ) (x : List ℕ) → depth_behind d (cond b (dollar x) (name x)) ≡ d
    either true d x = refl
    either false d x = refl

flat-binary : (d : ℕ) (op : BinaryOperator) → depth_behind d (binary_token op) ≡ d
flat-binary d binaries.Multiply = refl
flat-binary d binaries.Divide = refl
flat-binary d binaries.Add = refl
flat-binary d binaries.Subtract = refl
flat-binary d binaries.Less = refl
flat-binary d binaries.LessEqual = refl
flat-binary d binaries.Greater = refl
flat-binary d binaries.GreaterEqual = refl
flat-binary d binaries.Equal = refl
flat-binary d binaries.NotEqual = refl
flat-binary d binaries.And = refl
flat-binary d binaries.Or = refl
flat-binary d binaries.Xor = refl
flat-binary d binaries.Bit = refl

flat-condense : (d : ℕ) (op : Aggregate) → depth_behind d (condense_token op) ≡ d
flat-condense d aggregates.Sum = refl
flat-condense d aggregates.Product = refl
flat-condense d aggregates.Greatest = refl
flat-condense d aggregates.Least = refl
flat-condense d aggregates.Every = refl
flat-condense d aggregates.Any = refl
flat-condense d aggregates.Count = refl
flat-condense d aggregates.Average = refl

flat-reduce : (d : ℕ) (op : Aggregate) → depth_behind d (reduce_token op) ≡ d
flat-reduce d aggregates.Sum = refl
flat-reduce d aggregates.Product = refl
flat-reduce d aggregates.Greatest = refl
flat-reduce d aggregates.Least = refl
flat-reduce d aggregates.Every = refl
flat-reduce d aggregates.Any = refl
flat-reduce d aggregates.Count = refl
flat-reduce d aggregates.Average = refl

flat-unary : (d : ℕ) (op : UnaryOperator) → depth_behind d (unary_token op) ≡ d
flat-unary d unaries.Negate = refl
flat-unary d unaries.Plus = refl
flat-unary d unaries.Not = refl
flat-unary d unaries.Absolute = refl

int-within : (m d : ℕ) (z : ℤ) (rest : List Tok) → d ≤ m → Within m d rest → Within m d (int_tokens z rest)
int-within m d (pos n) rest le h = flat m d (number n) rest refl le h
int-within m d (negsuc n) rest le h = flat m d (sign signs.Minus) (number (suc n) ∷ rest) refl le (flat m d (number (suc n)) rest refl le h)

items-within : (m d : ℕ) (first : Bool) (xs : List ListItem) (rest : List Tok) → d ≤ m → Within m d rest → Within m d (items_tokens first xs rest)
unfolding items_tokens
items-within m d first [] rest le h = h
items-within m d true (list_items.Int z ∷ xs) rest le h = int-within m d z (items_tokens false xs rest) le (items-within m d false xs rest le h)
items-within m d false (list_items.Int z ∷ xs) rest le h = flat m d _ _ refl le (int-within m d z (items_tokens false xs rest) le (items-within m d false xs rest le h))
items-within m d true (list_items.Truth b ∷ xs) rest le h = flat m d (word (truth_word b)) _ refl le (items-within m d false xs rest le h)
items-within m d false (list_items.Truth b ∷ xs) rest le h = flat m d _ _ refl le (flat m d (word (truth_word b)) _ refl le (items-within m d false xs rest le h))

-- an expression in parentheses
grouped : (m d : ℕ) (e : Tree) (rest : List Tok) → d + 1 ≤ m → Within m d rest → ((after : List Tok) → Within m (d + 1) after → Within m (d + 1) (expr_tokens e after))
    → Within m d (sign signs.LeftParen ∷ expr_tokens e (sign signs.RightParen ∷ rest))
grouped m d e rest le h inner =
    opened m d (sign signs.LeftParen) (expr_tokens e (sign signs.RightParen ∷ rest)) refl (omega (arith, le)) (inner (sign signs.RightParen ∷ rest) (closed m d (sign signs.RightParen) rest refl le h))

-- an operand
abbrev Fits : ℕ → ℕ → (List Tok → List Tok) → Type 0
Fits m d a = (after : List Tok) → Within m (d + 1) after → Within m (d + 1) (a after)

-- an operator between two operands in parentheses
between_two : (m d : ℕ) (op : BinaryOperator) (a b : List Tok → List Tok) (rest : List Tok) → d + 1 ≤ m → Within m d rest → Fits m d a → Fits m d b → Within m d (between_tokens op a b rest)
between_two m d op a b rest le h left right =
    opened m d _ _ refl (omega (arith, le)) (left _ (closed m d _ _ refl le
    (flat m d (binary_token op) _ (flat-binary d op) (omega (arith, le)) (opened m d _ _ refl (omega (arith, le)) (right _ (closed m d _ rest refl le h))))))

bit : (m d : ℕ) (a b : List Tok → List Tok) (rest : List Tok) → d + 1 ≤ m → Within m d rest → Fits m d a → Fits m d b → Within m d (bit_tokens a b rest)
bit m d a b rest le h left right =
    flat m d _ _ refl (omega (arith, le)) (opened m d _ _ refl (omega (arith, le)) (left _ (flat m (d + 1) _ _ refl le (right _ (closed m d _ rest refl le h)))))

binary : (m d : ℕ) (op : BinaryOperator) (a b : List Tok → List Tok) (rest : List Tok) → d + 1 ≤ m → Within m d rest → Fits m d a → Fits m d b → Within m d (binary_tokens op a b rest)
binary m d op a b rest le h left right =
    ⊎_elim (λ (e : op ≡ binaries.Bit). subst (λ (o : BinaryOperator). Within m d (binary_tokens o a b rest)) (sym e) (bit m d a b rest le h left right))
    (λ (ranked : 0 < rank_of op). subst (λ (ts : List Tok). Within m d ts) (between op a b rest ranked) (between_two m d op a b rest le h left right)) (bit_or_between op)

mutual
  unfolding expr_tokens

  expr-within : (m d : ℕ) (e : Tree) (rest : List Tok) → d + 3 * height e ≤ m → Within m d rest → Within m d (expr_tokens e rest)
  expr-within m d (tree.number n) rest le h = flat m d (number n) rest refl (omega (arith, le)) h
  expr-within m d (tree.truth b) rest le h = flat m d (word (truth_word b)) rest refl (omega (arith, le)) h
  expr-within m d (tree.variable x) rest le h = flat m d (name_token x) rest (flat-name d x) (omega (arith, le)) h
  expr-within m d (tree.unary op e) rest le h = flat m d (unary_token op) _ (flat-unary d op) (omega (arith, le)) (grouped m d e rest (omega (arith, le)) h (λ r k. expr-within m (d + 1) e r (omega (arith, le)) k))
  expr-within m d (tree.binary op a b) rest le h = binary m d op (expr_tokens a) (expr_tokens b) rest (omega (arith, le)) h (λ r k. expr-within m (d + 1) a r (omega (arith, le)) k) (λ r k. expr-within m (d + 1) b r (omega (arith, le)) k)
  expr-within m d (tree.reduce op e) rest le h = flat m d (reduce_token op) _ (flat-reduce d op) (omega (arith, le)) (grouped m d e rest (omega (arith, le)) h (λ r k. expr-within m (d + 1) e r (omega (arith, le)) k))
  expr-within m d (tree.parts ps) rest le h =
      opened m d _ _ refl (omega (arith, le)) (parts-within m (d + 1) true ps _ (omega (arith, le)) (closed m d _ rest refl (omega (arith, le)) h))
  expr-within m d (tree.value_list is xs) rest le h =
      flat m d _ _ refl (omega (arith, le)) (flat m d _ _ refl (omega (arith, le)) (flat m d _ _ refl (omega (arith, le))
      (iters-within m d true is _ (omega (arith, le)) (flat m d _ _ refl (omega (arith, le)) (flat m d _ _ refl (omega (arith, le)) (flat m d _ _ refl (omega (arith, le))
      (items-within m d true xs _ (omega (arith, le)) (flat m d _ rest refl (omega (arith, le)) h))))))))
  expr-within m d (tree.field e x) rest le h =
      grouped m d e _ (omega (arith, le)) (flat m d _ _ refl (omega (arith, le)) (flat m d (name_token x) rest (flat-name d x) (omega (arith, le)) h)) (λ r k. expr-within m (d + 1) e r (omega (arith, le)) k)
  expr-within m d (tree.brackets e ss) rest le h =
      grouped m d e _ (omega (arith, le)) (opened m d _ _ refl (omega (arith, le)) (subs-within m (d + 1) true ss _ (omega (arith, le)) (closed m d _ rest refl (omega (arith, le)) h))) (λ r k. expr-within m (d + 1) e r (omega (arith, le)) k)
  expr-within m d (tree.coverage is e) rest le h =
      flat m d _ _ refl (omega (arith, le)) (flat m d _ _ refl (omega (arith, le)) (flat m d _ _ refl (omega (arith, le))
      (iters-within m d true is _ (omega (arith, le)) (flat m d _ _ refl (omega (arith, le)) (grouped m d e rest (omega (arith, le)) h (λ r k. expr-within m (d + 1) e r (omega (arith, le)) k))))))
  expr-within m d (tree.condense op is c e) rest le h =
      flat m d _ _ refl (omega (arith, le)) (flat m d (condense_token op) _ (flat-condense d op) (omega (arith, le)) (flat m d _ _ refl (omega (arith, le))
      (iters-within m d true is _ (omega (arith, le)) (condition-within m d c _ (omega (arith, le)) (flat m d _ _ refl (omega (arith, le)) (grouped m d e rest (omega (arith, le)) h (λ r k. expr-within m (d + 1) e r (omega (arith, le)) k)))))))

  parts-within : (m d : ℕ) (first : Bool) (ps : Parts) (rest : List Tok) → d + 3 * parts_height ps ≤ m → Within m d rest → Within m d (parts_tokens first ps rest)
  parts-within m d first no_parts rest le h = h
  parts-within m d true (part x e ps) rest le h =
      flat m d (name_token x) _ (flat-name d x) (omega (arith, le)) (flat m d _ _ refl (omega (arith, le)) (expr-within m d e _ (omega (arith, le)) (parts-within m d false ps rest (omega (arith, le)) h)))
  parts-within m d false (part x e ps) rest le h =
      flat m d _ _ refl (omega (arith, le)) (flat m d (name_token x) _ (flat-name d x) (omega (arith, le)) (flat m d _ _ refl (omega (arith, le)) (expr-within m d e _ (omega (arith, le)) (parts-within m d false ps rest (omega (arith, le)) h))))

  subs-within : (m d : ℕ) (first : Bool) (ss : Subs) (rest : List Tok) → d + 2 + 3 * subs_height ss ≤ m → Within m d rest → Within m d (subs_tokens first ss rest)
  subs-within m d first no_subs rest le h = h
  subs-within m d true (sub a p ss) rest le h =
      flat m d (name_token a) _ (flat-name d a) (omega (arith, le)) (opened m d _ _ refl (omega (arith, le))
      (place-within m (d + 1) p _ (omega (arith, le)) (closed m d _ _ refl (omega (arith, le)) (subs-within m d false ss rest (omega (arith, le)) h))))
  subs-within m d false (sub a p ss) rest le h =
      flat m d _ _ refl (omega (arith, le)) (flat m d (name_token a) _ (flat-name d a) (omega (arith, le)) (opened m d _ _ refl (omega (arith, le))
      (place-within m (d + 1) p _ (omega (arith, le)) (closed m d _ _ refl (omega (arith, le)) (subs-within m d false ss rest (omega (arith, le)) h)))))

  place-within : (m d : ℕ) (p : PlaceTree) (rest : List Tok) → d + 1 + 3 * place_height p ≤ m → Within m d rest → Within m d (place_tokens p rest)
  place-within m d (trim i) rest le h = interval-within m d i rest le h
  place-within m d (at e) rest le h = expr-within m d e rest (omega (arith, le)) h

  interval-within : (m d : ℕ) (i : IntervalTree) (rest : List Tok) → d + 1 + 3 * interval_height i ≤ m → Within m d rest → Within m d (interval_tokens i rest)
  interval-within m d (bounds lo hi) rest le h = int-within m d lo (sign signs.Colon ∷ int_tokens hi rest) (omega (arith, le)) (flat m d _ _ refl (omega (arith, le)) (int-within m d hi rest (omega (arith, le)) h))
  interval-within m d (domain e a) rest le h =
      flat m d _ _ refl (omega (arith, le)) (opened m d _ _ refl (omega (arith, le))
      (expr-within m (d + 1) e _ le (flat m (d + 1) _ _ refl (omega (arith, le)) (flat m (d + 1) (name_token a) _ (flat-name (d + 1) a) (omega (arith, le)) (closed m d _ rest refl (omega (arith, le)) h)))))

  iters-within : (m d : ℕ) (first : Bool) (is : Iters) (rest : List Tok) → d + 2 + 3 * iters_height is ≤ m → Within m d rest → Within m d (iters_tokens first is rest)
  iters-within m d first no_iters rest le h = h
  iters-within m d true (iter v a i is) rest le h =
      flat m d (name_token v) _ (flat-name d v) (omega (arith, le)) (flat m d (name_token a) _ (flat-name d a) (omega (arith, le)) (opened m d _ _ refl (omega (arith, le))
      (interval-within m (d + 1) i _ (omega (arith, le)) (closed m d _ _ refl (omega (arith, le)) (iters-within m d false is rest (omega (arith, le)) h)))))
  iters-within m d false (iter v a i is) rest le h =
      flat m d _ _ refl (omega (arith, le)) (flat m d (name_token v) _ (flat-name d v) (omega (arith, le)) (flat m d (name_token a) _ (flat-name d a) (omega (arith, le)) (opened m d _ _ refl (omega (arith, le))
      (interval-within m (d + 1) i _ (omega (arith, le)) (closed m d _ _ refl (omega (arith, le)) (iters-within m d false is rest (omega (arith, le)) h))))))

  condition-within : (m d : ℕ) (c : Condition) (rest : List Tok) → d + 1 + 3 * condition_height c ≤ m → Within m d rest → Within m d (condition_tokens c rest)
  condition-within m d always rest le h = h
  condition-within m d (only c) rest le h = flat m d _ _ refl (omega (arith, le)) (grouped m d c rest (omega (arith, le)) h (λ r k. expr-within m (d + 1) c r (omega (arith, le)) k))

names-within : (m d : ℕ) (first : Bool) (xs : List (List ℕ)) (rest : List Tok) → d ≤ m → Within m d rest → Within m d (names_tokens first xs rest)
unfolding names_tokens
names-within m d first [] rest le h = h
names-within m d true (x ∷ xs) rest le h = flat m d (name_token x) _ (flat-name d x) le (names-within m d false xs rest le h)
names-within m d false (x ∷ xs) rest le h = flat m d _ _ refl le (flat m d (name_token x) _ (flat-name d x) le (names-within m d false xs rest le h))

bindings-within : (m d : ℕ) (first : Bool) (bs : List BindingTree) (rest : List Tok) → d + 1 ≤ m → Within m d rest → Within m d (bindings_tokens first bs rest)
unfolding bindings_tokens
bindings-within m d first [] rest le h = h
bindings-within m d true (b ∷ bs) rest le h =
    flat m d (name_token b.variable) _ (flat-name d b.variable) (omega (arith, le)) (flat m d _ _ refl (omega (arith, le)) (opened m d _ _ refl (omega (arith, le))
    (names-within m (d + 1) true b.coverages _ le (closed m d _ _ refl le (bindings-within m d false bs rest le h)))))
bindings-within m d false (b ∷ bs) rest le h =
    flat m d _ _ refl (omega (arith, le)) (flat m d (name_token b.variable) _ (flat-name d b.variable) (omega (arith, le)) (flat m d _ _ refl (omega (arith, le)) (opened m d _ _ refl (omega (arith, le))
    (names-within m (d + 1) true b.coverages _ le (closed m d _ _ refl le (bindings-within m d false bs rest le h))))))

item-within : (m : ℕ) (i : ItemTree) → 1 + 3 * item_height i ≤ m → Within m 0 (item_tokens i [])
unfolding item_tokens
item-within m (encode e) le =
    flat m 0 _ _ refl (omega arith) (opened m 0 _ _ refl (omega arith)
    (expr-within m 1 e _ le (flat m 1 _ _ refl (omega (arith, le)) (flat m 1 _ _ refl (omega (arith, le)) (closed m 0 _ [] refl (omega (arith, le)) (at-end m))))))
item-within m (plain e) le = expr-within m 0 e [] (omega (arith, le)) (at-end m)

printed-within : (m : ℕ) (q : QueryTree) → 1 + 3 * query_height q ≤ m → Within m 0 (query_tokens q)
unfolding query_tokens
printed-within m q le =
    flat m 0 _ _ refl (omega arith) (bindings-within m 0 true q.bindings _ (omega (arith, le))
    (condition-within m 0 q.condition _ (omega (arith, le)) (flat m 0 _ _ refl (omega arith) (item-within m q.item (omega (arith, le))))))

-- a printed query
pub query-within : (m : ℕ) (q : QueryTree) → 1 + 3 * query_height q ≤ m → deepest 0 (query_tokens q) ≤ m
unfolding Within
query-within m q le = printed-within m q le
