-- What reading comes to, a turn of a loop or a call at a time.
use Rattle.std.proofs.Common.{◌≡◌, ℕ, suc, ◌-◌, List, [], ◌∷◌, ◌++◌, Some, None, refl, ap, subst, ◌∙◌}
use Rattle.wcps_text.specs.declared.token.Symbol.{Symbol}
use Rattle.wcps_text.specs.declared.token.Symbol.TheVariants as signs
use Rattle.wcps_text.specs.declared.operator.UnaryOperator.{UnaryOperator}
use Rattle.wcps_text.specs.declared.operator.BinaryOperator.{BinaryOperator}
use Rattle.wcps_text.specs.Token.{Tok}
use Rattle.wcps_text.specs.Tree as tree
use Rattle.wcps_text.specs.Tree.{Tree}
use Rattle.wcps_text.specs.Grammar.{rank_of}
use Rattle.wcps_parse.specs.declared.front.Postfix.{Postfix}
use Rattle.wcps_parse.specs.declared.front.Postfix.TheVariants as postfixes
use Rattle.wcps_parse.specs.Comes.{Comes}
use Rattle.wcps_parse.specs.Front.{Reading, ◌>>=◌, sign_at, name_at, prefix_at, binary_at, postfix_at, Begin, start_at}
use Rattle.wcps_parse.specs.Reading.{NamedPlace, subs_from, subs, more, separated, begun, prim, postfix, behind, post, operand, climb, expression, level}
use Rattle.wcps_parse.specs.Prefixes.{IsBehind, none, next, wrapped}
use Rattle.wcps_parse.proofs.Coming.{comes_now, comes_suc, comes_deeper, comes_then}
use Rattle.wcps_parse.proofs.Options.{found}
use Rattle.wcps_parse.proofs.Again.{quiet_zero}

pub more_end : {A : Type 0} (s : Symbol) (f : ℕ → List Tok → Reading A) (front : List A) (ts : List Tok) → sign_at s ts ≡ None → Comes (λ n m. more s (f n) m front ts) (Some (front, ts))
unfolding more
more_end s f front ts e = comes_suc (rw e (comes_now _))

pub more_next : {A : Type 0} (s : Symbol) (f : ℕ → List Tok → Reading A) (front : List A) (ts mid : List Tok) (o : Reading A) (p : Reading (List A)) → sign_at s ts ≡ Some mid → Comes (λ n m. f n mid) o
    → Comes (λ n m. o >>= λ x. more s (f n) m (front ++ x.0 ∷ []) x.1) p → Comes (λ n m. more s (f n) m front ts) p
unfolding more
more_next s f front ts mid o p e c d = comes_suc (rw e (comes_then _ c d))

pub separated_first : {A : Type 0} (s : Symbol) (f : ℕ → List Tok → Reading A) (ts : List Tok) (o : Reading A) (p : Reading (List A)) → Comes (λ n m. f n ts) o
    → Comes (λ n m. o >>= λ x. more s (f n) m (x.0 ∷ []) x.1) p → Comes (λ n m. separated s (f n) m ts) p
unfolding separated
separated_first s f ts o p c d = comes_then _ c d

pub climb_end : (r : ℕ) (a : Tree) (ts : List Tok) → binary_at r ts ≡ None → Comes (λ n m. climb m (level n) r a ts) (Some (a, ts))
unfolding climb
climb_end r a ts e = comes_suc (rw e (comes_now _))

pub climb_next : (r : ℕ) (a : Tree) (ts mid : List Tok) (op : BinaryOperator) (o p : Reading Tree) → binary_at r ts ≡ Some (op, mid) → Comes (λ n m. level n (rank_of op - 1) mid) o
    → Comes (λ n m. o >>= λ b. climb m (level n) r (tree.binary op a b.0) b.1) p → Comes (λ n m. climb m (level n) r a ts) p
unfolding climb
climb_next r a ts mid op o p e c d = comes_suc (rw e (comes_then _ c d))

deepens : (r : ℕ) (ts : List Tok) (n m : ℕ) → level (suc n) r ts ≡ expression n (level n) r ts
unfolding level
deepens r ts n m = refl

pub level_first : (r : ℕ) (ts : List Tok) (o p : Reading Tree) → Comes (λ n m. operand m (level n) ts) o → Comes (λ n m. o >>= λ a. climb m (level n) r a.0 a.1) p → Comes (λ n m. level n r ts) p
unfolding expression
level_first r ts o p c d = comes_deeper (deepens r ts) (comes_then _ c d)

pub behind_end : (e : Tree) (ts : List Tok) → postfix_at ts ≡ None → Comes (λ n m. behind m (level n) e ts) (Some (e, ts))
unfolding behind
behind_end e ts h = comes_suc (rw h (comes_now _))

pub behind_next : (e : Tree) (ts mid : List Tok) (k : Postfix) (o p : Reading Tree) → postfix_at ts ≡ Some (k, mid) → Comes (λ n m. postfix m (level n) k e mid) o
    → Comes (λ n m. o >>= λ x. behind m (level n) x.0 x.1) p → Comes (λ n m. behind m (level n) e ts) p
unfolding behind
behind_next e ts mid k o p h c d = comes_suc (rw h (comes_then _ c d))

pub postfix_field : (k : Postfix) (e : Tree) (ts rest : List Tok) (x : List ℕ) → k ≡ postfixes.Field → name_at ts ≡ Some (x, rest) → Comes (λ n m. postfix m (level n) k e ts) (Some (tree.field e x, rest))
unfolding postfix
postfix_field k e ts rest x is h = rw (is, h) (comes_now _)

pub postfix_no_field : (k : Postfix) (e : Tree) (ts : List Tok) → k ≡ postfixes.Field → name_at ts ≡ None → Comes (λ n m. postfix m (level n) k e ts) None
unfolding postfix
postfix_no_field k e ts is h = rw (is, h) (comes_now _)

pub postfix_subs : (k : Postfix) (e : Tree) (ts : List Tok) (o : Reading (List NamedPlace)) (p : Reading Tree) → k ≡ postfixes.Brackets → Comes (λ n m. subs m (level n) ts) o
    → (o >>= λ ss. sign_at signs.RightBracket ss.1 >>= λ rest. Some (tree.brackets e (subs_from ss.0), rest)) ≡ p → Comes (λ n m. postfix m (level n) k e ts) p
unfolding postfix
postfix_subs k e ts o p is c d = rw (is, ← d) (comes_then _ c (comes_now _))

pub post_first : (ts : List Tok) (o p : Reading Tree) → Comes (λ n m. prim m (level n) ts) o → Comes (λ n m. o >>= λ e. behind m (level n) e.0 e.1) p → Comes (λ n m. post m (level n) ts) p
unfolding post
post_first ts o p c d = comes_then _ c d

pub prim_begun : (ts mid : List Tok) (b : Begin) (o : Reading Tree) → start_at ts ≡ Some (b, mid) → Comes (λ n m. begun m (level n) b mid) o → Comes (λ n m. prim m (level n) ts) o
unfolding prim
prim_begun ts mid b o e c = rw e c

pub prim_by : (ts mid : List Tok) (a b : Begin) (o : Reading Tree) → start_at ts ≡ Some (a, mid) → a ≡ b → Comes (λ n m. begun m (level n) b mid) o → Comes (λ n m. prim m (level n) ts) o
prim_by ts mid a b o e f c = prim_begun ts mid b o (e ∙ ap (λ (x : Begin). found (x, mid)) f) c

pub prim_none : (ts : List Tok) → start_at ts ≡ None → Comes (λ n m. prim m (level n) ts) None
unfolding prim
prim_none ts e = rw e (comes_now _)

pub operand_post : (ts : List Tok) (o : Reading Tree) → prefix_at ts ≡ None → Comes (λ n m. post m (level n) ts) o → Comes (λ n m. operand m (level n) ts) o
unfolding operand
operand_post ts o e c = rw e c

pub operand_prefix : (ts mid : List Tok) (op : UnaryOperator) (o : Reading Tree) → prefix_at ts ≡ Some (op, mid) → Comes (λ n m. level n 0 mid) o → Comes (λ n m. operand m (level n) ts) (o >>= λ e. Some (tree.unary op e.0, e.1))
unfolding operand
operand_prefix ts mid op o e c = rw e (comes_then _ c (comes_now _))

climb_none : (o : Reading Tree) → Comes (λ n m. o >>= λ a. climb m (level n) 0 a.0 a.1) o
climb_none None = comes_now _
climb_none (Some (a, ts)) = climb_end 0 a ts (quiet_zero ts)

-- the tightest expression is an operand
pub level_operand : (ts : List Tok) (o : Reading Tree) → Comes (λ n m. operand m (level n) ts) o → Comes (λ n m. level n 0 ts) o
level_operand ts o c = level_first 0 ts o o c (climb_none o)

-- what was read, under operators
abbrev pub under : List UnaryOperator → Reading Tree → Reading Tree
under ops None = None
under ops (Some x) = Some (wrapped ops x.0, x.1)

under_none : (o : Reading Tree) → o ≡ under [] o
under_none None = refl
under_none (Some x) = refl

under_next : (op : UnaryOperator) (ops : List UnaryOperator) (o : Reading Tree) → (under ops o >>= λ (e : Tree × List Tok). Some (tree.unary op e.0, e.1)) ≡ under (op ∷ ops) o
under_next op ops None = refl
under_next op ops (Some x) = refl

pub operand_under : {ops : List UnaryOperator} {ts rest : List Tok} (o : Reading Tree) → IsBehind ops rest ts → Comes (λ n m. post m (level n) rest) o → Comes (λ n m. operand m (level n) ts) (under ops o)
operand_under o (none {ts = ts} e) c = subst (λ (p : Reading Tree). Comes (λ n m. operand m (level n) ts) p) (under_none o) (operand_post ts o e c)
operand_under o (next {op = op} {ops = ops} {ts = ts} {mid = mid} e more) c =
    subst (λ (p : Reading Tree). Comes (λ n m. operand m (level n) ts) p) (under_next op ops o)
    (operand_prefix ts mid op (under ops o) e (level_operand mid (under ops o) (operand_under o more c)))
