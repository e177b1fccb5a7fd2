-- Reading tokens from left to right. Each function answers what was read and the tokens behind it. A reader of
-- expressions is passed where expressions stand inside; the number `m` bounds how often a loop goes round.
use Rattle.std.specs.Prelude.{ℕ, zero, suc, ◌-◌, List, [], ◌∷◌, ◌++◌, Option, Some, None}
use Rattle.wcps_text.specs.declared.token.Symbol.{Symbol}
use Rattle.wcps_text.specs.declared.token.Symbol.TheVariants as signs
use Rattle.arr_core.specs.declared.keyword.Keyword.TheVariants as words
use Rattle.wcps_text.specs.declared.operator.UnaryOperator.TheVariants as unaries
use Rattle.wcps_text.specs.declared.operator.BinaryOperator.TheVariants as binaries
use Rattle.wcps_text.specs.declared.tree.ListItem.{ListItem}
use Rattle.wcps_text.specs.Token.{Tok}
use Rattle.wcps_text.specs.Tree as tree
use Rattle.wcps_text.specs.Tree.{Tree, Parts, no_parts, part, Subs, no_subs, sub, PlaceTree, trim, at, IntervalTree, Iters, no_iters, iter, Condition, always, only, BindingTree, ItemTree, QueryTree}
use Rattle.wcps_text.specs.Grammar.{rank_of, max_rank}
use Rattle.wcps_parse.specs.declared.front.Postfix.{Postfix}
use Rattle.wcps_parse.specs.declared.front.Postfix.TheVariants as postfixes
use Rattle.wcps_parse.specs.Front.{Reading, ◌>>=◌, choose, sign_at, word_at, name_at, variable_at, bounds_at, item_at, prefix_at, binary_at, condenser_at, postfix_at, Begin, with_number, with_truth, with_variable, with_paren, with_brace, with_abs, with_bit, with_reduce, with_coverage, with_condense, start_at, format_at}

-- how expressions of a rank are read
abbrev pub Reader : Type 0
Reader = ℕ → List Tok → Reading Tree

abbrev pub NamedTree : Type 0
NamedTree = List ℕ × Tree

abbrev pub NamedPlace : Type 0
NamedPlace = List ℕ × PlaceTree

abbrev pub NamedInterval : Type 0
NamedInterval = List ℕ × List ℕ × IntervalTree

abbrev pub parts_from : List NamedTree → Parts
parts_from [] = no_parts
parts_from (p ∷ ps) = part p.0 p.1 (parts_from ps)

abbrev pub subs_from : List NamedPlace → Subs
subs_from [] = no_subs
subs_from (s ∷ ss) = sub s.0 s.1 (subs_from ss)

abbrev pub iters_from : List NamedInterval → Iters
iters_from [] = no_iters
iters_from (i ∷ is) = iter i.0 i.1 i.2 (iters_from is)

-- more things behind those in front, each behind a separator
unfoldable pub more : {A : Type 0} → Symbol → (List Tok → Reading A) → ℕ → List A → List Tok → Reading (List A)
more s f zero front ts = None
more s f (suc m) front ts = choose (sign_at s ts) (Some (front, ts))
    (λ next. f next >>= λ x. more s f m (front ++ x.0 ∷ []) x.1)

-- things with a separator between them
unfoldable pub separated : {A : Type 0} → Symbol → (List Tok → Reading A) → ℕ → List Tok → Reading (List A)
separated s f m ts = f ts >>= λ x. more s f m (x.0 ∷ []) x.1

unfoldable pub enclosed : Reader → List Tok → Reading Tree
enclosed l ts = l max_rank ts >>= λ e. sign_at signs.RightParen e.1 >>= λ rest. Some (e.0, rest)

unfoldable pub in_parens : Reader → List Tok → Reading Tree
in_parens l ts = sign_at signs.LeftParen ts >>= λ mid. enclosed l mid

unfoldable pub bit : Reader → List Tok → Reading Tree
bit l ts =
    sign_at signs.LeftParen ts >>= λ start. l max_rank start >>= λ a. sign_at signs.Comma a.1 >>= λ mid. enclosed l mid
    >>= λ b.
    Some (tree.binary binaries.Bit a.0 b.0, b.1)

unfoldable pub part_at : Reader → List Tok → Reading NamedTree
part_at l ts = name_at ts >>= λ x. sign_at signs.Colon x.1 >>= λ mid. l max_rank mid >>= λ e. Some ((x.0, e.0), e.1)

unfoldable pub parts : ℕ → Reader → List Tok → Reading (List NamedTree)
parts m l ts = separated signs.Semicolon (part_at l) m ts

unfoldable pub fields : ℕ → Reader → List Tok → Reading Tree
fields m l ts = parts m l ts >>= λ ps. sign_at signs.RightBrace ps.1 >>= λ rest. Some
    (tree.parts (parts_from ps.0), rest)

unfoldable pub domain : Reader → List Tok → Reading IntervalTree
domain l ts =
    sign_at signs.LeftParen ts >>= λ start. l max_rank start >>= λ e. sign_at signs.Comma e.1 >>= λ mid. name_at mid >>=
    λ a.
    sign_at signs.RightParen a.1 >>= λ rest. Some (tree.domain e.0 a.0, rest)

unfoldable pub place : Reader → List Tok → Reading PlaceTree
place l ts = choose (bounds_at ts)
    (choose (word_at words.ImageCrsDomain ts)
    (l max_rank ts >>= λ e. Some (at e.0, e.1))
    (λ mid. domain l mid >>= λ i. Some (trim i.0, i.1)))
    (λ i. Some (trim i.0, i.1))

unfoldable pub interval : Reader → List Tok → Reading IntervalTree
interval l ts = choose (bounds_at ts) (word_at words.ImageCrsDomain ts >>= λ mid. domain l mid) (λ i. Some (i.0, i.1))

unfoldable pub sub_at : Reader → List Tok → Reading NamedPlace
sub_at l ts =
    name_at ts >>= λ a. sign_at signs.LeftParen a.1 >>= λ mid. place l mid >>= λ p. sign_at signs.RightParen p.1 >>=
    λ rest. Some ((a.0, p.0), rest)

unfoldable pub subs : ℕ → Reader → List Tok → Reading (List NamedPlace)
subs m l ts = separated signs.Comma (sub_at l) m ts

unfoldable pub iter_at : Reader → List Tok → Reading NamedInterval
iter_at l ts =
    variable_at ts >>= λ v. name_at v.1 >>= λ a. sign_at signs.LeftParen a.1 >>= λ mid. interval l mid >>= λ i.
    sign_at signs.RightParen i.1 >>= λ rest. Some ((v.0, a.0, i.0), rest)

unfoldable pub iters : ℕ → Reader → List Tok → Reading (List NamedInterval)
iters m l ts = separated signs.Comma (iter_at l) m ts

unfoldable pub items : ℕ → List Tok → Reading (List ListItem)
items m ts = separated signs.Semicolon item_at m ts

-- `value list <..>`
unfoldable pub listed : ℕ → List Tok → Reading (List ListItem)
listed m ts =
    word_at words.Value ts >>= λ a. word_at words.List a >>= λ b. sign_at signs.Less b >>= λ mid. items m mid >>= λ xs.
    sign_at signs.Greater xs.1 >>= λ rest. Some (xs.0, rest)

-- what follows the word `coverage`
unfoldable pub coverage : ℕ → Reader → List Tok → Reading Tree
coverage m l ts =
    name_at ts >>= λ x. word_at words.Over x.1 >>= λ start. iters m l start >>= λ is. choose (word_at words.Values is.1)
    (listed m is.1 >>= λ xs. Some (tree.value_list (iters_from is.0) xs.0, xs.1))
    (λ mid. l max_rank mid >>= λ e. Some (tree.coverage (iters_from is.0) e.0, e.1))

unfoldable pub condition : Reader → List Tok → Reading Condition
condition l ts = choose (word_at words.Where ts) (Some (always, ts))
    (λ mid. l max_rank mid >>= λ e. Some (only e.0, e.1))

-- what follows the word `condense`
unfoldable pub condense : ℕ → Reader → List Tok → Reading Tree
condense m l ts =
    condenser_at ts >>= λ op. word_at words.Over op.1 >>= λ start. iters m l start >>= λ is. condition l is.1 >>= λ c.
    word_at words.Using c.1 >>= λ mid. l max_rank mid >>= λ e. Some (tree.condense op.0 (iters_from is.0) c.0 e.0, e.1)

-- what follows the first token of an expression that has no operator before it
unfoldable pub begun : ℕ → Reader → Begin → List Tok → Reading Tree
begun m l (with_number n) ts = Some (tree.number n, ts)
begun m l (with_truth b) ts = Some (tree.truth b, ts)
begun m l (with_variable x) ts = Some (tree.variable x, ts)
begun m l with_paren ts = enclosed l ts
begun m l with_brace ts = fields m l ts
begun m l with_abs ts = in_parens l ts >>= λ e. Some (tree.unary unaries.Absolute e.0, e.1)
begun m l with_bit ts = bit l ts
begun m l (with_reduce op) ts = in_parens l ts >>= λ e. Some (tree.reduce op e.0, e.1)
begun m l with_coverage ts = coverage m l ts
begun m l with_condense ts = condense m l ts

unfoldable pub prim : ℕ → Reader → List Tok → Reading Tree
prim m l ts = start_at ts >>= λ s. begun m l s.0 s.1

-- what follows a dot or an opening bracket
unfoldable pub postfix : ℕ → Reader → Postfix → Tree → List Tok → Reading Tree
postfix m l postfixes.Field e ts = name_at ts >>= λ x. Some (tree.field e x.0, x.1)
postfix m l postfixes.Brackets e ts =
    subs m l ts >>= λ ss. sign_at signs.RightBracket ss.1 >>= λ rest. Some (tree.brackets e (subs_from ss.0), rest)

-- the fields and brackets behind an expression
unfoldable pub behind : ℕ → Reader → Tree → List Tok → Reading Tree
behind zero l e ts = None
behind (suc m) l e ts = choose (postfix_at ts) (Some (e, ts)) (λ k. postfix m l k.0 e k.1 >>= λ x. behind m l x.0 x.1)

unfoldable pub post : ℕ → Reader → List Tok → Reading Tree
post m l ts = prim m l ts >>= λ e. behind m l e.0 e.1

unfoldable pub operand : ℕ → Reader → List Tok → Reading Tree
operand m l ts = choose (prefix_at ts) (post m l ts) (λ op. l 0 op.1 >>= λ e. Some (tree.unary op.0 e.0, e.1))

-- operators of at most that rank and their right operands, each of which binds tighter than its operator
unfoldable pub climb : ℕ → Reader → ℕ → Tree → List Tok → Reading Tree
climb zero l r a ts = None
climb (suc m) l r a ts = choose (binary_at r ts) (Some (a, ts))
    (λ op. l (rank_of op.0 - 1) op.1 >>= λ b. climb m l r (tree.binary op.0 a b.0) b.1)

unfoldable pub expression : ℕ → Reader → ℕ → List Tok → Reading Tree
expression m l r ts = operand m l ts >>= λ a. climb m l r a.0 a.1

-- an expression with no operator looser than the rank; the first number bounds how deep expressions stand in one
-- another
unfoldable pub level : ℕ → ℕ → List Tok → Reading Tree
level zero r ts = None
level (suc n) r ts = expression n (level n) r ts

unfoldable pub names : ℕ → List Tok → Reading (List (List ℕ))
names m ts = separated signs.Comma name_at m ts

unfoldable pub binding_at : ℕ → List Tok → Reading BindingTree
binding_at m ts =
    variable_at ts >>= λ v. word_at words.In v.1 >>= λ a. sign_at signs.LeftParen a >>= λ mid. names m mid >>= λ xs.
    sign_at signs.RightParen xs.1 >>= λ rest. Some (record { variable = v.0; coverages = xs.0 }, rest)

unfoldable pub bindings : ℕ → ℕ → List Tok → Reading (List BindingTree)
bindings n m ts = separated signs.Comma (binding_at n) m ts

-- the thing, if no token is left
abbrev pub at_end : {A : Type 0} → A → List Tok → Option A
at_end a [] = Some a
at_end a (t ∷ ts) = None

unfoldable pub encoded : Reader → List Tok → Option ItemTree
encoded l ts =
    sign_at signs.LeftParen ts >>= λ start. l max_rank start >>= λ e. sign_at signs.Comma e.1 >>= λ a. format_at a >>=
    λ b.
    sign_at signs.RightParen b >>= λ rest. at_end (tree.encode e.0) rest

unfoldable pub item : Reader → List Tok → Option ItemTree
item l ts = choose (word_at words.Encode ts) (l max_rank ts >>= λ e. at_end (tree.plain e.0) e.1) (λ mid. encoded l mid)

unfoldable pub query : ℕ → ℕ → Reader → List Tok → Option QueryTree
query n m l ts =
    word_at words.For ts >>= λ start. bindings n m start >>= λ bs. condition l bs.1 >>= λ c. word_at words.Return c.1
    >>= λ mid. item l mid >>= λ i.
    Some (record { bindings = bs.0; condition = c.0; item = i })
