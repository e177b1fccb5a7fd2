-- What reading comes to at tokens that spell something, from what it comes to at their parts.
use Rattle.std.proofs.Common.{◌≡◌, ℕ, ℤ, List, [], ◌∷◌, ◌++◌, append_assoc, Option, Some, None, refl, ap, subst}
use Rattle.wcps_text.specs.declared.token.Symbol.{Symbol}
use Rattle.wcps_text.specs.declared.token.Symbol.TheVariants as signs
use Rattle.arr_core.specs.declared.keyword.Keyword.{Keyword}
use Rattle.arr_core.specs.declared.keyword.Keyword.TheVariants as words
use Rattle.wcps_text.specs.declared.operator.UnaryOperator.TheVariants as unaries
use Rattle.wcps_text.specs.declared.operator.BinaryOperator.TheVariants as binaries
use Rattle.wcps_text.specs.declared.operator.Aggregate.{Aggregate}
use Rattle.wcps_text.specs.declared.tree.ListItem.{ListItem}
use Rattle.wcps_text.specs.Token.{Tok, number, name, word, sign}
use Rattle.wcps_text.specs.Tree as tree
use Rattle.wcps_text.specs.Tree.{Tree, Parts, Subs, PlaceTree, trim, at, IntervalTree, Iters, Condition, always, only}
use Rattle.wcps_text.specs.Grammar.{Condenses, max_rank, SpellsInt, unsigned, positive, negative, SpellsItems, last_item, more_items, SpellsVariable}
use Rattle.wcps_parse.specs.Comes.{Comes}
use Rattle.wcps_parse.specs.Front.{Reading, ◌>>=◌, sign_at, word_at, int_at, bounds_at, item_at, prefix_at, postfix_at, Begin, with_number, start_at}
use Rattle.wcps_parse.specs.Reading.{NamedTree, NamedPlace, NamedInterval, parts_from, subs_from, iters_from, more, separated, enclosed, in_parens, bit, part_at, parts, fields, domain, place, interval, sub_at, iter_at, iters, items, listed, coverage, condition, condense, begun, behind, post, operand, level}
use Rattle.wcps_parse.proofs.Options.{bind_ok, found_is}
use Rattle.wcps_parse.proofs.Coming.{comes_now, comes_suc, comes_then, comes_one}
use Rattle.wcps_parse.proofs.Words.{sign_is, word_is, int_is}
use Rattle.wcps_parse.proofs.Again.{sign_again, word_again, name_again, variable_again, item_again, condenser_again, stops_colon}
use Rattle.wcps_parse.proofs.Turns.{more_end, climb_end, level_first, level_operand, behind_end, post_first, prim_begun, prim_none, operand_post, operand_prefix}
use Rattle.wcps_parse.proofs.Listed.{Listed, last, others}

-- each thing of a list is read
abbrev pub Come : {A : Type 0} → (ℕ → List Tok → Reading A) → List Tok → A → List Tok → Type 0
Come f ts x rest = Comes (λ n m. f n ts) (Some (x, rest))

more_goes : {A : Type 0} (s : Symbol) (f : ℕ → List Tok → Reading A) (front : List A) (mid : List Tok) (p : Reading (List A)) → Comes (λ n m. f n mid >>= λ x. more s (f n) m (front ++ x.0 ∷ []) x.1) p → Comes (λ n m. more s (f n) m front (sign s ∷ mid)) p
unfolding more
more_goes s f front mid p d = comes_suc (rw sign_again d)

ahead : {A : Type 0} (s : Symbol) (f : ℕ → List Tok → Reading A) (front : List A) {ts rest : List Tok} {xs : List A} → Listed s (Come f) ts xs rest → sign_at s rest ≡ None
    → Comes (λ n m. f n ts >>= λ x. more s (f n) m (front ++ x.0 ∷ []) x.1) (Some (front ++ xs, rest))
ahead s f front (last {rest = rest} {x = x} c) e = comes_then _ c (more_end s f (front ++ x ∷ []) rest e)
ahead {A} s f front (others {after = after} {rest = rest} {x = x} {xs = xs} c d) e =
    comes_then _ c (more_goes s f (front ++ x ∷ []) after _ (subst (λ (ys : List A). Comes (λ n m. f n after >>= λ y. more s (f n) m ((front ++ x ∷ []) ++ y.0 ∷ []) y.1) (Some (ys, rest))) (append_assoc front (x ∷ []) xs) (ahead s f (front ++ x ∷ []) d e)))

pub separated_whole : {A : Type 0} (s : Symbol) (f : ℕ → List Tok → Reading A) {ts rest : List Tok} {xs : List A} → Listed s (Come f) ts xs rest → sign_at s rest ≡ None → Comes (λ n m. separated s (f n) m ts) (Some (xs, rest))
unfolding separated
separated_whole s f d e = ahead s f [] d e

pub come_now : {A : Type 0} {o : Reading A} {x : A} {rest : List Tok} → o ≡ Some (x, rest) → Comes (λ n m. o) (Some (x, rest))
come_now e = rw e (comes_now _)

pub no_comma_bracket : (rest : List Tok) → sign_at signs.Comma (sign signs.RightBracket ∷ rest) ≡ None
unfolding sign_at
no_comma_bracket rest = refl

pub no_comma_paren : (rest : List Tok) → sign_at signs.Comma (sign signs.RightParen ∷ rest) ≡ None
unfolding sign_at
no_comma_paren rest = refl

pub no_comma_word : (w : Keyword) (rest : List Tok) → sign_at signs.Comma (word w ∷ rest) ≡ None
unfolding sign_at
no_comma_word w rest = refl

pub no_semicolon_brace : (rest : List Tok) → sign_at signs.Semicolon (sign signs.RightBrace ∷ rest) ≡ None
unfolding sign_at
no_semicolon_brace rest = refl

pub no_semicolon_greater : (rest : List Tok) → sign_at signs.Semicolon (sign signs.Greater ∷ rest) ≡ None
unfolding sign_at
no_semicolon_greater rest = refl

pub enclosed_whole : (ts rest : List Tok) (e : Tree) → Comes (λ n m. level n max_rank ts) (Some (e, sign signs.RightParen ∷ rest)) → Comes (λ n m. enclosed (level n) ts) (Some (e, rest))
unfolding enclosed
enclosed_whole ts rest e c = comes_then _ c (rw sign_again (comes_now _))

pub in_parens_whole : (ts rest : List Tok) (e : Tree) → Comes (λ n m. enclosed (level n) ts) (Some (e, rest)) → Comes (λ n m. in_parens (level n) (sign signs.LeftParen ∷ ts)) (Some (e, rest))
unfolding in_parens
in_parens_whole ts rest e c = rw sign_again c

pub bit_whole : (ts mid rest : List Tok) (a b : Tree) → Comes (λ n m. level n max_rank ts) (Some (a, sign signs.Comma ∷ mid)) → Comes (λ n m. enclosed (level n) mid) (Some (b, rest)) → Comes (λ n m. bit (level n) (sign signs.LeftParen ∷ ts)) (Some (tree.binary binaries.Bit a b, rest))
unfolding bit
bit_whole ts mid rest a b c d = rw sign_again (comes_then _ c (rw sign_again (comes_then _ d (comes_now _))))

pub part_whole : (x : List ℕ) (ts rest : List Tok) (e : Tree) → Comes (λ n m. level n max_rank ts) (Some (e, rest)) → Comes (λ n m. part_at (level n) (name x ∷ sign signs.Colon ∷ ts)) (Some ((x, e), rest))
unfolding part_at
part_whole x ts rest e c = rw (name_again, sign_again) (comes_then _ c (comes_now _))

pub fields_whole : (ts rest : List Tok) (ps : List NamedTree) → Comes (λ n m. parts m (level n) ts) (Some (ps, sign signs.RightBrace ∷ rest)) → Comes (λ n m. fields m (level n) ts) (Some (tree.parts (parts_from ps), rest))
unfolding fields
fields_whole ts rest ps c = comes_then _ c (rw sign_again (comes_now _))

pub domain_whole : (ts rest : List Tok) (e : Tree) (a : List ℕ) → Comes (λ n m. level n max_rank ts) (Some (e, sign signs.Comma ∷ name a ∷ sign signs.RightParen ∷ rest)) → Comes (λ n m. domain (level n) (sign signs.LeftParen ∷ ts)) (Some (tree.domain e a, rest))
unfolding domain
domain_whole ts rest e a c = rw sign_again (comes_then _ c (rw (sign_again, name_again, sign_again) (comes_now _)))

-- an interval is bounds, or the domain of an expression
pub data IntervalComes (ts : List Tok) (i : IntervalTree) (rest : List Tok) : Type 0 where
  by_bounds : bounds_at ts ≡ Some (i, rest) → IntervalComes ts i rest
  by_domain : {mid : List Tok} → bounds_at ts ≡ None → word_at words.ImageCrsDomain ts ≡ Some mid → Comes (λ n m. domain (level n) mid) (Some (i, rest)) → IntervalComes ts i rest

pub interval_whole : {ts rest : List Tok} {i : IntervalTree} → IntervalComes ts i rest → Comes (λ n m. interval (level n) ts) (Some (i, rest))
unfolding interval
interval_whole (by_bounds e) = rw e (comes_now _)
interval_whole (by_domain e f c) = rw (e, f) c

pub place_trim : {ts rest : List Tok} {i : IntervalTree} → IntervalComes ts i rest → Comes (λ n m. place (level n) ts) (Some (trim i, rest))
unfolding place
place_trim (by_bounds e) = rw e (comes_now _)
place_trim (by_domain e f c) = rw (e, f) (comes_then _ c (comes_now _))

pub place_at : (ts rest : List Tok) (e : Tree) → bounds_at ts ≡ None → word_at words.ImageCrsDomain ts ≡ None → Comes (λ n m. level n max_rank ts) (Some (e, rest)) → Comes (λ n m. place (level n) ts) (Some (at e, rest))
unfolding place
place_at ts rest e f g c = rw (f, g) (comes_then _ c (comes_now _))

pub no_bounds_word : (w : Keyword) (ts : List Tok) → bounds_at (word w ∷ ts) ≡ None
unfolding bounds_at int_at
no_bounds_word w ts = refl

pub sub_whole : (a : List ℕ) (ts rest : List Tok) (p : PlaceTree) → Comes (λ n m. place (level n) ts) (Some (p, sign signs.RightParen ∷ rest)) → Comes (λ n m. sub_at (level n) (name a ∷ sign signs.LeftParen ∷ ts)) (Some ((a, p), rest))
unfolding sub_at
sub_whole a ts rest p c = rw (name_again, sign_again) (comes_then _ c (rw sign_again (comes_now _)))

pub iter_whole : {ts : List Tok} {v : List ℕ} (a : List ℕ) (mid rest : List Tok) (i : IntervalTree) → SpellsVariable ts v (name a ∷ sign signs.LeftParen ∷ mid) → Comes (λ n m. interval (level n) mid) (Some (i, sign signs.RightParen ∷ rest)) → Comes (λ n m. iter_at (level n) ts) (Some ((v, a, i), rest))
unfolding iter_at
iter_whole a mid rest i v c = rw (variable_again v, name_again, sign_again) (comes_then _ c (rw sign_again (comes_now _)))

items_come : {ts rest : List Tok} {xs : List ListItem} → SpellsItems ts xs rest → Listed signs.Semicolon (Come (λ n. item_at)) ts xs rest
items_come (last_item s) = last (come_now (item_again s))
items_come (more_items s ss) = others (come_now (item_again s)) (items_come ss)

pub listed_whole : {mid rest : List Tok} {xs : List ListItem} → SpellsItems mid xs (sign signs.Greater ∷ rest) → Comes (λ n m. listed m (word words.Value ∷ word words.List ∷ sign signs.Less ∷ mid)) (Some (xs, rest))
unfolding listed items
listed_whole {rest = rest} s = rw (word_again, word_again, sign_again) (comes_then _ (separated_whole signs.Semicolon (λ n. item_at) (items_come s) (no_semicolon_greater rest)) (rw sign_again (comes_now _)))

-- the list that reading makes of iterators
pub record ItersCome (ts : List Tok) (is : Iters) (rest : List Tok) : Type 0 where
  pub list : List NamedInterval
  pub same : iters_from list ≡ is
  pub come : Listed signs.Comma (Come (λ n. iter_at (level n))) ts list rest

pub record PartsCome (ts : List Tok) (ps : Parts) (rest : List Tok) : Type 0 where
  pub list : List NamedTree
  pub same : parts_from list ≡ ps
  pub come : Listed signs.Semicolon (Come (λ n. part_at (level n))) ts list rest

pub record SubsCome (ts : List Tok) (ss : Subs) (rest : List Tok) : Type 0 where
  pub list : List NamedPlace
  pub same : subs_from list ≡ ss
  pub come : Listed signs.Comma (Come (λ n. sub_at (level n))) ts list rest

pub iters_whole : {ts rest : List Tok} {is : Iters} (c : ItersCome ts is rest) → sign_at signs.Comma rest ≡ None → Comes (λ n m. iters m (level n) ts) (Some (c.list, rest))
unfolding iters
iters_whole c e = separated_whole signs.Comma (λ n. iter_at (level n)) c.come e

no_values_value : (rest : List Tok) → word_at words.Values (word words.Value ∷ rest) ≡ None
unfolding word_at
no_values_value rest = refl

pub value_list_whole : (x : List ℕ) {ts mid rest : List Tok} {is : Iters} {xs : List ListItem} → ItersCome ts is (word words.Value ∷ word words.List ∷ sign signs.Less ∷ mid) → SpellsItems mid xs (sign signs.Greater ∷ rest)
    → Comes (λ n m. coverage m (level n) (name x ∷ word words.Over ∷ ts)) (Some (tree.value_list is xs, rest))
unfolding coverage
value_list_whole x {ts} {mid} {rest} {is} {xs} c s =
    subst (λ (js : Iters). Comes (λ n m. coverage m (level n) (name x ∷ word words.Over ∷ ts)) (Some (tree.value_list js xs, rest))) c.same
    (rw (name_again, word_again) (comes_then _ (iters_whole c (no_comma_word words.Value _)) (rw no_values_value (comes_then _ (listed_whole s) (comes_now _)))))

pub coverage_whole : (x : List ℕ) (ts mid rest : List Tok) (is : Iters) (e : Tree) → ItersCome ts is (word words.Values ∷ mid) → Comes (λ n m. level n max_rank mid) (Some (e, rest))
    → Comes (λ n m. coverage m (level n) (name x ∷ word words.Over ∷ ts)) (Some (tree.coverage is e, rest))
unfolding coverage
coverage_whole x ts mid rest is e c d =
    subst (λ (js : Iters). Comes (λ n m. coverage m (level n) (name x ∷ word words.Over ∷ ts)) (Some (tree.coverage js e, rest))) c.same
    (rw (name_again, word_again) (comes_then _ (iters_whole c (no_comma_word words.Values mid)) (rw word_again (comes_then _ d (comes_now _)))))

pub condition_always : (ts : List Tok) → word_at words.Where ts ≡ None → Comes (λ n m. condition (level n) ts) (Some (always, ts))
unfolding condition
condition_always ts h = rw h (comes_now _)

pub condition_only : (ts rest : List Tok) (e : Tree) → Comes (λ n m. level n max_rank ts) (Some (e, rest)) → Comes (λ n m. condition (level n) (word words.Where ∷ ts)) (Some (only e, rest))
unfolding condition
condition_only ts rest e c = rw word_again (comes_then _ c (comes_now _))

pub no_where_using : (rest : List Tok) → word_at words.Where (word words.Using ∷ rest) ≡ None
unfolding word_at
no_where_using rest = refl

pub no_where_return : (rest : List Tok) → word_at words.Where (word words.Return ∷ rest) ≡ None
unfolding word_at
no_where_return rest = refl

-- iterators and what stands behind them
pub record ConditionComes (ts : List Tok) (is : Iters) (c : Condition) (rest : List Tok) : Type 0 where
  pub mid : List Tok
  pub iterators : ItersCome ts is mid
  pub ends : sign_at signs.Comma mid ≡ None
  pub tested : Comes (λ n m. condition (level n) mid) (Some (c, rest))

pub condense_whole : (op : Aggregate) (t : Tok) (ts mid rest : List Tok) (is : Iters) (c : Condition) (e : Tree) → Condenses op t → ConditionComes ts is c (word words.Using ∷ mid) → Comes (λ n m. level n max_rank mid) (Some (e, rest))
    → Comes (λ n m. condense m (level n) (t ∷ word words.Over ∷ ts)) (Some (tree.condense op is c e, rest))
unfolding condense
condense_whole op t ts mid rest is c e joins d b =
    subst (λ (js : Iters). Comes (λ n m. condense m (level n) (t ∷ word words.Over ∷ ts)) (Some (tree.condense op js c e, rest))) d.iterators.same
    (rw (condenser_again (word words.Over ∷ ts) joins, word_again) (comes_then _ (iters_whole d.iterators d.ends) (comes_then _ d.tested (rw word_again (comes_then _ b (comes_now _))))))

-- an operand without operators before it
pub post_whole : (ts mid rest : List Tok) (b : Begin) (e : Tree) → start_at ts ≡ Some (b, mid) → Comes (λ n m. begun m (level n) b mid) (Some (e, rest)) → (p : Reading Tree) → Comes (λ n m. behind m (level n) e rest) p → Comes (λ n m. post m (level n) ts) p
post_whole ts mid rest b e h c p d = post_first ts (Some (e, rest)) p (prim_begun ts mid b _ h c) d

pub operand_whole : (ts mid rest : List Tok) (b : Begin) (e : Tree) → prefix_at ts ≡ None → start_at ts ≡ Some (b, mid) → Comes (λ n m. begun m (level n) b mid) (Some (e, rest)) → postfix_at rest ≡ None → Comes (λ n m. operand m (level n) ts) (Some (e, rest))
operand_whole ts mid rest b e none h c no_postfix = operand_post ts _ none (post_whole ts mid rest b e h c _ (behind_end e rest no_postfix))

begun_number : (k : ℕ) (ts : List Tok) → Comes (λ n m. begun m (level n) (with_number k) ts) (Some (tree.number k, ts))
unfolding begun
begun_number k ts = comes_now _

number_operand : (k : ℕ) (rest : List Tok) → Comes (λ n m. operand m (level n) (number k ∷ sign signs.Colon ∷ rest)) (Some (tree.number k, sign signs.Colon ∷ rest))
unfolding prefix_at start_at
number_operand k rest = operand_whole (number k ∷ sign signs.Colon ∷ rest) (sign signs.Colon ∷ rest) (sign signs.Colon ∷ rest) (with_number k) (tree.number k) refl refl (begun_number k (sign signs.Colon ∷ rest)) (stops_colon rest).no_postfix

-- a signed number before a colon is an expression that ends at the colon
pub int_level : {ts rest : List Tok} {z : ℤ} → SpellsInt ts z (sign signs.Colon ∷ rest) → (e : Tree) × Comes (λ n m. level n max_rank ts) (Some (e, sign signs.Colon ∷ rest))
unfolding prefix_at
int_level {rest = rest} (unsigned {n = k}) = (_, level_first max_rank _ _ _ (number_operand k rest) (climb_end max_rank (tree.number k) (sign signs.Colon ∷ rest) ((stops_colon rest).quiet max_rank)))
int_level {rest = rest} (positive {n = k}) = (
  _,
  level_first max_rank _ _ _ (operand_prefix (sign signs.Plus ∷ number k ∷ sign signs.Colon ∷ rest) (number k ∷ sign signs.Colon ∷ rest) unaries.Plus _ refl (level_operand (number k ∷ sign signs.Colon ∷ rest) _ (number_operand k rest)))
      (climb_end max_rank (tree.unary unaries.Plus (tree.number k)) (sign signs.Colon ∷ rest) ((stops_colon rest).quiet max_rank)),
)
int_level {rest = rest} (negative {n = k}) = (
  _,
  level_first max_rank _ _ _ (operand_prefix (sign signs.Minus ∷ number k ∷ sign signs.Colon ∷ rest) (number k ∷ sign signs.Colon ∷ rest) unaries.Negate _ refl (level_operand (number k ∷ sign signs.Colon ∷ rest) _ (number_operand k rest)))
      (climb_end max_rank (tree.unary unaries.Negate (tree.number k)) (sign signs.Colon ∷ rest) ((stops_colon rest).quiet max_rank)),
)

record BeforeColon (ts : List Tok) : Type 0 where
  value : ℤ
  rest : List Tok
  spelled : SpellsInt ts value (sign signs.Colon ∷ rest)

before_colon : (ts us : List Tok) (i : IntervalTree) → bounds_at ts ≡ Some (i, us) → BeforeColon ts
unfolding bounds_at
before_colon ts us i e =
    let lo = bind_ok _ _ _ e in
    let mid = bind_ok _ _ _ lo.2 in
    record { value = lo.0.0; rest = mid.0; spelled = subst (λ (vs : List Tok). SpellsInt ts lo.0.0 vs) (sign_is _ _ _ mid.1) (int_is _ _ _ lo.1) }

colon_or_paren : (ts us rest : List Tok) (i : IntervalTree) (e : Tree) → Comes (λ n m. level n max_rank ts) (Some (e, sign signs.RightParen ∷ rest)) → bounds_at ts ≡ Some (i, us) → ⊥
colon_or_paren ts us rest i e c h =
    let b = before_colon ts us i h in
    let f = int_level b.spelled in
    let same : sign signs.RightParen ∷ rest ≡ sign signs.Colon ∷ b.rest = ap (λ (p : Tree × List Tok). p.1) (found_is (e, sign signs.RightParen ∷ rest) (f.0, sign signs.Colon ∷ b.rest) (comes_one c f.1)) in
    absurd cc

pub none_of : {A : Type 0} (o : Option A) → ((a : A) → o ≡ Some a → ⊥) → o ≡ None
none_of None h = refl
none_of (Some a) h = absurd (h a refl)

pub no_bounds : (ts rest : List Tok) (e : Tree) → Comes (λ n m. level n max_rank ts) (Some (e, sign signs.RightParen ∷ rest)) → bounds_at ts ≡ None
no_bounds ts rest e c = none_of (bounds_at ts) (λ p h. colon_or_paren ts p.1 rest p.0 e c h)

domain_starts_none : (rest : List Tok) → Comes (λ n m. level n max_rank (word words.ImageCrsDomain ∷ rest)) None
unfolding prefix_at start_at
domain_starts_none rest = level_first max_rank _ None None (operand_post _ None refl (post_first _ None None (prim_none _ refl) (comes_now _))) (comes_now _)

starts_domain : (ts us rest : List Tok) (e : Tree) → Comes (λ n m. level n max_rank ts) (Some (e, rest)) → word_at words.ImageCrsDomain ts ≡ Some us → ⊥
starts_domain ts us rest e c h =
    let d = subst (λ (vs : List Tok). Comes (λ n m. level n max_rank vs) (Some (e, rest))) (word_is _ _ _ h) c in
    let same = comes_one d (domain_starts_none us) in
    absurd cc

pub no_domain : (ts rest : List Tok) (e : Tree) → Comes (λ n m. level n max_rank ts) (Some (e, rest)) → word_at words.ImageCrsDomain ts ≡ None
no_domain ts rest e c = none_of (word_at words.ImageCrsDomain ts) (λ us h. starts_domain ts us rest e c h)
