-- What is spelled is read.
use Rattle.std.proofs.Common.{◌≡◌, ℕ, zero, suc, ◌-◌, ◌≤◌, Bool, true, false, List, [], ◌∷◌, Some, None, refl, sym, ap, subst, ◌∙◌, arith}
use Rattle.wcps_text.specs.declared.token.Symbol.TheVariants as signs
use Rattle.arr_core.specs.declared.keyword.Keyword.{Keyword}
use Rattle.arr_core.specs.declared.keyword.Keyword.TheVariants as words
use Rattle.wcps_text.specs.declared.operator.UnaryOperator.{UnaryOperator}
use Rattle.wcps_text.specs.declared.operator.UnaryOperator.TheVariants as unaries
use Rattle.wcps_text.specs.declared.operator.BinaryOperator.{BinaryOperator}
use Rattle.wcps_text.specs.declared.operator.BinaryOperator.TheVariants as binaries
use Rattle.wcps_text.specs.declared.operator.Aggregate.{Aggregate}
use Rattle.wcps_text.specs.Token.{Tok, number, name, word, sign}
use Rattle.wcps_text.specs.Tree as tree
use Rattle.wcps_text.specs.Tree.{Tree, Parts, Subs, PlaceTree, at, IntervalTree, Iters, Condition}
use Rattle.wcps_text.specs.Grammar as grammar
use Rattle.wcps_text.specs.Grammar.{Prefixes, binary_token, rank_of, truth_word, Reduces, to_count, to_any, to_every, to_sum, to_average, to_least, to_greatest, max_rank, Openness, closed, open_ended, SpellsVariable, plain_name, dollar_name, Spells, SpellsInParens, SpellsPost, SpellsPart, SpellsParts, SpellsSub, SpellsSubs, SpellsPlace, SpellsInterval, SpellsIter, SpellsIters, SpellsCondition}
use Rattle.wcps_parse.specs.declared.front.Postfix.TheVariants as postfixes
use Rattle.wcps_parse.specs.Comes.{Comes}
use Rattle.wcps_parse.specs.Front.{Reading, sign_at, word_at, prefix_at, binary_at, postfix_at, Begin, with_number, with_truth, with_variable, with_paren, with_brace, with_abs, with_bit, with_reduce, with_coverage, with_condense, start_at}
use Rattle.wcps_parse.specs.Reading.{parts_from, subs_from, enclosed, in_parens, part_at, parts, domain, place, sub_at, subs, iter_at, coverage, condense, begun, postfix, behind, post, operand, climb, level}
use Rattle.wcps_parse.proofs.Coming.{comes_now, comes_then}
use Rattle.wcps_parse.proofs.Again.{sign_again, word_again, name_again, bounds_again, prefix_again, binary_again, binary_other, quiet_less, quiet_zero, no_postfix_binary, Stops, stops_right_paren, stops_right_brace, stops_comma, stops_semicolon, stops_using}
use Rattle.wcps_parse.proofs.Turns.{climb_end, climb_next, level_first, behind_end, behind_next, operand_post, operand_prefix}
use Rattle.wcps_parse.proofs.Listed.{last, others}
use Rattle.wcps_parse.proofs.Sound.{Ends}
use Rattle.wcps_parse.proofs.Levels.{Below}
use Rattle.wcps_parse.proofs.Whole.{separated_whole, no_comma_bracket, no_comma_word, no_semicolon_brace, enclosed_whole, in_parens_whole, bit_whole, part_whole, fields_whole, domain_whole, IntervalComes, by_bounds, by_domain, interval_whole, place_trim, place_at, no_bounds_word, sub_whole, iter_whole, ItersCome, PartsCome, SubsCome, value_list_whole, coverage_whole, condition_always, condition_only, no_where_using, ConditionComes, condense_whole, post_whole, operand_whole, no_bounds, no_domain}

-- what may follow an expression of a rank: no operator of a tighter one, none at all behind an open one, and no field
-- and no bracket
pub record CanFollow (o : Openness) (q : ℕ) (rest : List Tok) : Type 0 where
  pub below : Below q rest
  pub ends : Ends o rest
  pub no_postfix : postfix_at rest ≡ None

below_any : (q : ℕ) (rest : List Tok) → ((r : ℕ) → binary_at r rest ≡ None) → Below q rest
below_any zero rest h = tt
below_any (suc k) rest h = h k

ends_any : (o : Openness) (rest : List Tok) → binary_at max_rank rest ≡ None → Ends o rest
ends_any closed rest h = tt
ends_any open_ended rest h = h

pub follows : (o : Openness) (q : ℕ) (rest : List Tok) → Stops rest → CanFollow o q rest
follows o q rest s = record { below = below_any q rest s.quiet; ends = ends_any o rest (s.quiet max_rank); no_postfix = s.no_postfix }

below_less : (q : ℕ) (rest : List Tok) → binary_at q rest ≡ None → Below q rest
below_less zero rest h = tt
below_less (suc k) rest h = quiet_less k (suc k) rest (omega arith) h

follows_less : (o : Openness) (q : ℕ) (rest : List Tok) → CanFollow o (suc q) rest → CanFollow o q rest
follows_less o q rest c = record { below = below_less q rest c.below; ends = c.ends; no_postfix = c.no_postfix }

-- the last expression of an open form
follows_open : (o : Openness) (rest : List Tok) → CanFollow open_ended 0 rest → CanFollow o max_rank rest
follows_open o rest c = record { below = quiet_less 4 max_rank rest (omega arith) c.ends; ends = ends_any o rest c.ends; no_postfix = c.no_postfix }

before_operator : (op : BinaryOperator) (q : ℕ) (rest : List Tok) → rank_of op ≡ suc q → CanFollow closed (suc q) (binary_token op ∷ rest)
before_operator op q rest e = record { below = binary_other op q rest (omega (arith, e)); ends = tt; no_postfix = no_postfix_binary op rest }

truth_no_prefix : (b : Bool) (rest : List Tok) → prefix_at (word (truth_word b) ∷ rest) ≡ None
unfolding prefix_at
truth_no_prefix true rest = refl
truth_no_prefix false rest = refl

reduce_no_prefix : {op : Aggregate} {w : Keyword} (rest : List Tok) → Reduces op w → prefix_at (word w ∷ rest) ≡ None
unfolding prefix_at
reduce_no_prefix rest to_count = refl
reduce_no_prefix rest to_any = refl
reduce_no_prefix rest to_every = refl
reduce_no_prefix rest to_sum = refl
reduce_no_prefix rest to_average = refl
reduce_no_prefix rest to_least = refl
reduce_no_prefix rest to_greatest = refl

parens_no_prefix : {ts rest : List Tok} {e : Tree} → SpellsInParens ts e rest → prefix_at ts ≡ None
unfolding prefix_at
parens_no_prefix (grammar.parens s) = refl

-- what spells an expression behind brackets begins with no operator
post_no_prefix : {ts rest : List Tok} {e : Tree} → SpellsPost ts e rest → prefix_at ts ≡ None
unfolding prefix_at
post_no_prefix grammar.literal = refl
post_no_prefix (grammar.truth {b = b} {rest = rest}) = truth_no_prefix b rest
post_no_prefix (grammar.variable plain_name) = refl
post_no_prefix (grammar.variable dollar_name) = refl
post_no_prefix (grammar.grouped s) = parens_no_prefix s
post_no_prefix (grammar.abs s) = refl
post_no_prefix (grammar.bit s t) = refl
post_no_prefix (grammar.reduce {ts = ts} r s) = reduce_no_prefix ts r
post_no_prefix (grammar.parts s) = refl
post_no_prefix (grammar.value_list is xs) = refl
post_no_prefix (grammar.field s) = post_no_prefix s
post_no_prefix (grammar.brackets s ss) = post_no_prefix s

-- how each begins
variable_starts : {ts rest : List Tok} {x : List ℕ} → SpellsVariable ts x rest → start_at ts ≡ Some (with_variable x, rest)
unfolding start_at
variable_starts plain_name = refl
variable_starts dollar_name = refl

number_starts : (n : ℕ) (rest : List Tok) → start_at (number n ∷ rest) ≡ Some (with_number n, rest)
unfolding start_at
number_starts n rest = refl

truth_starts : (b : Bool) (rest : List Tok) → start_at (word (truth_word b) ∷ rest) ≡ Some (with_truth b, rest)
unfolding start_at
truth_starts true rest = refl
truth_starts false rest = refl

reduce_starts : {op : Aggregate} {w : Keyword} (rest : List Tok) → Reduces op w → start_at (word w ∷ rest) ≡ Some (with_reduce op, rest)
unfolding start_at
reduce_starts rest to_count = refl
reduce_starts rest to_any = refl
reduce_starts rest to_every = refl
reduce_starts rest to_sum = refl
reduce_starts rest to_average = refl
reduce_starts rest to_least = refl
reduce_starts rest to_greatest = refl

-- an expression without operators before it, as the code goes on with it
abbrev Posts : List Tok → Tree → List Tok → Type 0
Posts ts e rest = (p : Reading Tree) → Comes (λ n m. behind m (level n) e rest) p → Comes (λ n m. post m (level n) ts) p

literal_posts : (k : ℕ) (rest : List Tok) → Posts (number k ∷ rest) (tree.number k) rest
unfolding begun
literal_posts k rest = post_whole (number k ∷ rest) rest rest (with_number k) (tree.number k) (number_starts k rest) (comes_now _)

truth_posts : (b : Bool) (rest : List Tok) → Posts (word (truth_word b) ∷ rest) (tree.truth b) rest
unfolding begun
truth_posts b rest = post_whole (word (truth_word b) ∷ rest) rest rest (with_truth b) (tree.truth b) (truth_starts b rest) (comes_now _)

variable_posts : {ts rest : List Tok} {x : List ℕ} → SpellsVariable ts x rest → Posts ts (tree.variable x) rest
unfolding begun
variable_posts {ts} {rest} {x} v = post_whole ts rest rest (with_variable x) (tree.variable x) (variable_starts v) (comes_now _)

-- an expression in parentheses: the tokens inside, and what they are read as
pub record ParensCome (ts : List Tok) (e : Tree) (rest : List Tok) : Type 0 where
  pub mid : List Tok
  pub front : ts ≡ sign signs.LeftParen ∷ mid
  pub inside : Comes (λ n m. enclosed (level n) mid) (Some (e, rest))

grouped_posts : (ts rest : List Tok) (e : Tree) → ParensCome ts e rest → Posts ts e rest
unfolding begun start_at
grouped_posts ts rest e c = subst (λ (us : List Tok). Posts us e rest) (sym c.front) (post_whole (sign signs.LeftParen ∷ c.mid) c.mid rest with_paren e refl c.inside)

in_parens_comes : (ts rest : List Tok) (e : Tree) → ParensCome ts e rest → Comes (λ n m. in_parens (level n) ts) (Some (e, rest))
in_parens_comes ts rest e c = subst (λ (us : List Tok). Comes (λ n m. in_parens (level n) us) (Some (e, rest))) (sym c.front) (in_parens_whole c.mid rest e c.inside)

abs_posts : (ts rest : List Tok) (e : Tree) → ParensCome ts e rest → Posts (word words.Abs ∷ ts) (tree.unary unaries.Absolute e) rest
unfolding begun start_at
abs_posts ts rest e c = post_whole (word words.Abs ∷ ts) ts rest with_abs (tree.unary unaries.Absolute e) refl (comes_then _ (in_parens_comes ts rest e c) (comes_now _))

reduce_posts : (op : Aggregate) (w : Keyword) (ts rest : List Tok) (e : Tree) → Reduces op w → ParensCome ts e rest → Posts (word w ∷ ts) (tree.reduce op e) rest
unfolding begun
reduce_posts op w ts rest e r c = post_whole (word w ∷ ts) ts rest (with_reduce op) (tree.reduce op e) (reduce_starts ts r) (comes_then _ (in_parens_comes ts rest e c) (comes_now _))

bit_posts : (ts mid rest : List Tok) (a b : Tree) → Comes (λ n m. level n max_rank ts) (Some (a, sign signs.Comma ∷ mid)) → Comes (λ n m. level n max_rank mid) (Some (b, sign signs.RightParen ∷ rest)) → Posts (word words.Bit ∷ sign signs.LeftParen ∷ ts) (tree.binary binaries.Bit a b) rest
unfolding begun start_at
bit_posts ts mid rest a b c d = post_whole (word words.Bit ∷ sign signs.LeftParen ∷ ts) (sign signs.LeftParen ∷ ts) rest with_bit (tree.binary binaries.Bit a b) refl (bit_whole ts mid rest a b c (enclosed_whole mid rest b d))

parts_posts : (ts rest : List Tok) (ps : Parts) → PartsCome ts ps (sign signs.RightBrace ∷ rest) → Posts (sign signs.LeftBrace ∷ ts) (tree.parts ps) rest
unfolding begun start_at parts
parts_posts ts rest ps c = subst (λ (qs : Parts). Posts (sign signs.LeftBrace ∷ ts) (tree.parts qs) rest) c.same
    (post_whole (sign signs.LeftBrace ∷ ts) ts rest with_brace (tree.parts (parts_from c.list)) refl (fields_whole ts rest c.list (separated_whole signs.Semicolon (λ n. part_at (level n)) c.come (no_semicolon_brace rest))))

value_list_posts : (ts rest : List Tok) (e : Tree) → Comes (λ n m. coverage m (level n) ts) (Some (e, rest)) → Posts (word words.Coverage ∷ ts) e rest
unfolding begun start_at
value_list_posts ts rest e c = post_whole (word words.Coverage ∷ ts) ts rest with_coverage e refl c

field_posts : (ts rest : List Tok) (e : Tree) (x : List ℕ) → Posts ts e (sign signs.Dot ∷ name x ∷ rest) → Posts ts (tree.field e x) rest
unfolding postfix postfix_at
field_posts ts rest e x c p h = c p (behind_next e (sign signs.Dot ∷ name x ∷ rest) (name x ∷ rest) postfixes.Field (Some (tree.field e x, rest)) p refl (rw name_again (comes_now _)) h)

brackets_posts : (ts mid rest : List Tok) (e : Tree) (ss : Subs) → Posts ts e (sign signs.LeftBracket ∷ mid) → SubsCome mid ss (sign signs.RightBracket ∷ rest) → Posts ts (tree.brackets e ss) rest
unfolding postfix postfix_at subs
brackets_posts ts mid rest e ss c d =
    subst (λ (us : Subs). Posts ts (tree.brackets e us) rest) d.same
    (λ p h. c p (behind_next e (sign signs.LeftBracket ∷ mid) mid postfixes.Brackets (Some (tree.brackets e (subs_from d.list), rest)) p refl
    (comes_then _ (separated_whole signs.Comma (λ n. sub_at (level n)) d.come (no_comma_bracket rest)) (rw sign_again (comes_now _))) h))

-- an expression, as the code goes on with it
abbrev pub Levels : ℕ → List Tok → Tree → List Tok → Type 0
Levels q ts e rest = (r : ℕ) → q ≤ r → (p : Reading Tree) → Comes (λ n m. climb m (level n) r e rest) p → Comes (λ n m. level n r ts) p

-- an operand is an expression of each rank
operand_levels : (ts rest : List Tok) (e : Tree) → Comes (λ n m. operand m (level n) ts) (Some (e, rest)) → Levels 0 ts e rest
operand_levels ts rest e c r le p h = level_first r ts (Some (e, rest)) p c h

post_levels : (ts rest : List Tok) (e : Tree) → prefix_at ts ≡ None → Posts ts e rest → postfix_at rest ≡ None → Levels 0 ts e rest
post_levels ts rest e none c no_postfix = operand_levels ts rest e (operand_post ts (Some (e, rest)) none (c (Some (e, rest)) (behind_end e rest no_postfix)))

-- an expression that ends where nothing goes on with it
pub ended : (o : Openness) (q : ℕ) (ts rest : List Tok) (e : Tree) → Levels q ts e rest → binary_at q rest ≡ None → Comes (λ n m. level n q ts) (Some (e, rest))
ended o q ts rest e c quiet = c q (omega arith) (Some (e, rest)) (climb_end q e rest quiet)

pub stopped : (ts rest : List Tok) (e : Tree) → Levels max_rank ts e rest → Stops rest → Comes (λ n m. level n max_rank ts) (Some (e, rest))
stopped ts rest e c stops = ended closed max_rank ts rest e c (stops.quiet max_rank)

form_levels : (ts rest : List Tok) (b : Begin) (mid : List Tok) (e : Tree) → prefix_at ts ≡ None → start_at ts ≡ Some (b, mid) → Comes (λ n m. begun m (level n) b mid) (Some (e, rest)) → postfix_at rest ≡ None → Levels 0 ts e rest
form_levels ts rest b mid e none s c no_postfix = operand_levels ts rest e (operand_whole ts mid rest b e none s c no_postfix)

coverage_levels : (ts rest : List Tok) (e : Tree) → Comes (λ n m. coverage m (level n) ts) (Some (e, rest)) → postfix_at rest ≡ None → Levels 0 (word words.Coverage ∷ ts) e rest
unfolding begun start_at prefix_at
coverage_levels ts rest e c no_postfix = form_levels (word words.Coverage ∷ ts) rest with_coverage ts e refl refl c no_postfix

condense_levels : (ts rest : List Tok) (e : Tree) → Comes (λ n m. condense m (level n) ts) (Some (e, rest)) → postfix_at rest ≡ None → Levels 0 (word words.Condense ∷ ts) e rest
unfolding begun start_at prefix_at
condense_levels ts rest e c no_postfix = form_levels (word words.Condense ∷ ts) rest with_condense ts e refl refl c no_postfix

unary_levels : (op : UnaryOperator) (t : Tok) (ts rest : List Tok) (e : Tree) → Prefixes op t → Levels 0 ts e rest → Levels 0 (t ∷ ts) (tree.unary op e) rest
unary_levels op t ts rest e before c =
    operand_levels (t ∷ ts) rest (tree.unary op e) (operand_prefix (t ∷ ts) ts op (Some (e, rest)) (prefix_again ts before) (ended closed 0 ts rest e c (quiet_zero rest)))

tighter_levels : (q : ℕ) (ts rest : List Tok) (e : Tree) → Levels q ts e rest → Levels (suc q) ts e rest
tighter_levels q ts rest e c r le p h = c r (omega arith) p h

binary_levels : (op : BinaryOperator) (q : ℕ) (ts mid rest : List Tok) (a b : Tree) → rank_of op ≡ suc q → Levels (suc q) ts a (binary_token op ∷ mid) → Levels q mid b rest → binary_at q rest ≡ None → Levels (suc q) ts (tree.binary op a b) rest
binary_levels op q ts mid rest a b rank c d quiet r le p h =
    let same : q ≡ rank_of op - 1 = omega (arith, rank) in
    let right : Comes (λ n m. level n (rank_of op - 1) mid) (Some (b, rest)) = subst (λ (k : ℕ). Comes (λ n m. level n k mid) (Some (b, rest))) same (ended closed q mid rest b d quiet) in
    c r le p (climb_next r a (binary_token op ∷ mid) mid op (Some (b, rest)) p (binary_again op r mid (omega (arith, rank)) (omega (arith, rank, le))) right h)

domain_interval : (ts rest : List Tok) (i : IntervalTree) → Comes (λ n m. domain (level n) ts) (Some (i, rest)) → IntervalComes (word words.ImageCrsDomain ∷ ts) i rest
domain_interval ts rest i c = by_domain (no_bounds_word words.ImageCrsDomain ts) (word_again words.ImageCrsDomain ts) c

position_place : (ts rest : List Tok) (e : Tree) → Comes (λ n m. level n max_rank ts) (Some (e, sign signs.RightParen ∷ rest)) → Comes (λ n m. place (level n) ts) (Some (at e, sign signs.RightParen ∷ rest))
position_place ts rest e c = place_at ts (sign signs.RightParen ∷ rest) e (no_bounds ts rest e c) (no_domain ts (sign signs.RightParen ∷ rest) e c) c

-- behind a place a parenthesis closes
abbrev pub Places : List Tok → PlaceTree → List Tok → Type 0
Places ts p rest = (us : List Tok) → rest ≡ sign signs.RightParen ∷ us → Comes (λ n m. place (level n) ts) (Some (p, rest))

at_place : (ts rest : List Tok) (e : Tree) → ((stops : Stops rest) → Comes (λ n m. level n max_rank ts) (Some (e, rest))) → Places ts (at e) rest
at_place ts rest e c us front =
    let d = c (subst Stops (sym front) (stops_right_paren us)) in
    subst (λ (vs : List Tok). Comes (λ n m. place (level n) ts) (Some (at e, vs))) (sym front) (position_place ts us e (subst (λ (vs : List Tok). Comes (λ n m. level n max_rank ts) (Some (e, vs))) front d))

mutual
  pub level_comes : {o : Openness} {q : ℕ} {ts rest : List Tok} {e : Tree} → Spells o q ts e rest → CanFollow o q rest → Levels q ts e rest
  level_comes (grammar.post {ts = ts} {rest = rest} {e = e} s) can = post_levels ts rest e (post_no_prefix s) (post_comes s) can.no_postfix
  level_comes (grammar.coverage {o = o} {x = x} {ts = ts} {mid = mid} {rest = rest} {is = is} {e = e} over body) can =
      let inside = ended o max_rank mid rest e (level_comes body (follows_open o rest can)) can.ends in
      coverage_levels (name x ∷ word words.Over ∷ ts) rest (tree.coverage is e) (coverage_whole x ts mid rest is e (iters_come over) inside) can.no_postfix
  level_comes (grammar.condense {o = o} {t = t} {ts = ts} {mid = mid} {rest = rest} {is = is} {c = c} {e = e} {op = op} joins tests body) can =
      let inside = ended o max_rank mid rest e (level_comes body (follows_open o rest can)) can.ends in
      condense_levels (t ∷ word words.Over ∷ ts) rest (tree.condense op is c e) (condense_whole op t ts mid rest is c e joins (condition_comes tests mid refl) inside) can.no_postfix
  level_comes (grammar.unary {t = t} {ts = ts} {rest = rest} {e = e} {op = op} before s) can = unary_levels op t ts rest e before (level_comes s can)
  level_comes (grammar.tighter {o = o} {r = r} {ts = ts} {rest = rest} {e = e} s) can = tighter_levels r ts rest e (level_comes s (follows_less o r rest can))
  level_comes (grammar.binary {o = o} {r = r} {ts = ts} {mid = mid} {rest = rest} {a = a} {b = b} op rank left right) can =
      binary_levels op r ts mid rest a b rank (level_comes left (before_operator op r mid rank)) (level_comes right (follows_less o r rest can)) can.below

  parens_come : {ts rest : List Tok} {e : Tree} → SpellsInParens ts e rest → ParensCome ts e rest
  parens_come (grammar.parens {o = o} {ts = ts} {rest = rest} {e = e} s) =
      let stops = stops_right_paren rest in
      record { mid = ts; front = refl; inside = enclosed_whole ts rest e (stopped ts (sign signs.RightParen ∷ rest) e (level_comes s (follows o max_rank (sign signs.RightParen ∷ rest) stops)) stops) }

  post_comes : {ts rest : List Tok} {e : Tree} → SpellsPost ts e rest → Posts ts e rest
  post_comes (grammar.literal {n = k} {rest = rest}) = literal_posts k rest
  post_comes (grammar.truth {b = b} {rest = rest}) = truth_posts b rest
  post_comes (grammar.variable v) = variable_posts v
  post_comes (grammar.grouped {ts = ts} {rest = rest} {e = e} s) = grouped_posts ts rest e (parens_come s)
  post_comes (grammar.abs {ts = ts} {rest = rest} {e = e} s) = abs_posts ts rest e (parens_come s)
  post_comes (grammar.bit {o = o} {p = q} {ts = ts} {mid = mid} {rest = rest} {a = a} {b = b} s t) =
      let comma = stops_comma mid in
      let paren = stops_right_paren rest in
      bit_posts ts mid rest a b (stopped ts (sign signs.Comma ∷ mid) a (level_comes s (follows o max_rank (sign signs.Comma ∷ mid) comma)) comma) (stopped mid (sign signs.RightParen ∷ rest) b (level_comes t (follows q max_rank (sign signs.RightParen ∷ rest) paren)) paren)
  post_comes (grammar.reduce {w = w} {ts = ts} {rest = rest} {e = e} {op = op} r s) = reduce_posts op w ts rest e r (parens_come s)
  post_comes (grammar.parts {ts = ts} {rest = rest} {ps = ps} s) = parts_posts ts rest ps (parts_come s (stops_right_brace rest))
  post_comes (grammar.value_list {x = x} {ts = ts} {mid = mid} {rest = rest} {is = is} {xs = xs} over items) =
      value_list_posts (name x ∷ word words.Over ∷ ts) rest (tree.value_list is xs) (value_list_whole x (iters_come over) items)
  post_comes (grammar.field {ts = ts} {rest = rest} {e = e} {x = x} s) = field_posts ts rest e x (post_comes s)
  post_comes (grammar.brackets {ts = ts} {mid = mid} {rest = rest} {e = e} {ss = ss} s inside) = brackets_posts ts mid rest e ss (post_comes s) (subs_come inside)

  part_comes : {ts rest : List Tok} {x : List ℕ} {e : Tree} → SpellsPart ts x e rest → Stops rest → Comes (λ n m. part_at (level n) ts) (Some ((x, e), rest))
  part_comes (grammar.named {o = o} {x = x} {ts = ts} {rest = rest} {e = e} s) stops = part_whole x ts rest e (stopped ts rest e (level_comes s (follows o max_rank rest stops)) stops)

  parts_come : {ts rest : List Tok} {ps : Parts} → SpellsParts ts ps rest → Stops rest → PartsCome ts ps rest
  parts_come (grammar.last_part {x = x} {e = e} s) stops = record { list = (x, e) ∷ []; same = refl; come = last (part_comes s stops) }
  parts_come (grammar.more_parts {after = after} {x = x} {e = e} s ps) stops =
      let r = parts_come ps stops in
      record { list = (x, e) ∷ r.list; same = ap (tree.part x e) r.same; come = others (part_comes s (stops_semicolon after)) r.come }

  sub_comes : {ts rest : List Tok} {a : List ℕ} {p : PlaceTree} → SpellsSub ts a p rest → Comes (λ n m. sub_at (level n) ts) (Some ((a, p), rest))
  sub_comes (grammar.of_axis {ts = ts} {rest = rest} {a = a} {p = p} s) = sub_whole a ts rest p (place_comes s rest refl)

  subs_come : {ts rest : List Tok} {ss : Subs} → SpellsSubs ts ss rest → SubsCome ts ss rest
  subs_come (grammar.last_sub {a = a} {p = p} s) = record { list = (a, p) ∷ []; same = refl; come = last (sub_comes s) }
  subs_come (grammar.more_subs {a = a} {p = p} s ss) =
      let r = subs_come ss in
      record { list = (a, p) ∷ r.list; same = ap (tree.sub a p) r.same; come = others (sub_comes s) r.come }

  place_comes : {ts rest : List Tok} {p : PlaceTree} → SpellsPlace ts p rest → Places ts p rest
  place_comes (grammar.trimmed i) us front = place_trim (interval_comes i)
  place_comes (grammar.position {o = o} {ts = ts} {rest = rest} {e = e} s) us front = at_place ts rest e (λ stops. stopped ts rest e (level_comes s (follows o max_rank rest stops)) stops) us front

  interval_comes : {ts rest : List Tok} {i : IntervalTree} → SpellsInterval ts i rest → IntervalComes ts i rest
  interval_comes (grammar.between lo hi) = by_bounds (bounds_again lo hi)
  interval_comes (grammar.domain_of {o = o} {ts = ts} {rest = rest} {e = e} {a = a} s) =
      let after = name a ∷ sign signs.RightParen ∷ rest in
      let stops = stops_comma after in
      domain_interval (sign signs.LeftParen ∷ ts) rest (tree.domain e a) (domain_whole ts rest e a (stopped ts (sign signs.Comma ∷ after) e (level_comes s (follows o max_rank (sign signs.Comma ∷ after) stops)) stops))

  iter_comes : {ts rest : List Tok} {v a : List ℕ} {i : IntervalTree} → SpellsIter ts v a i rest → Comes (λ n m. iter_at (level n) ts) (Some ((v, a, i), rest))
  iter_comes (grammar.iterator {mid = mid} {rest = rest} {a = a} {i = i} v s) = iter_whole a mid rest i v (interval_whole (interval_comes s))

  iters_come : {ts rest : List Tok} {is : Iters} → SpellsIters ts is rest → ItersCome ts is rest
  iters_come (grammar.last_iter {v = v} {a = a} {i = i} s) = record { list = (v, a, i) ∷ []; same = refl; come = last (iter_comes s) }
  iters_come (grammar.more_iters {v = v} {a = a} {i = i} s is) =
      let r = iters_come is in
      record { list = (v, a, i) ∷ r.list; same = ap (tree.iter v a i) r.same; come = others (iter_comes s) r.come }

  condition_comes : {ts rest : List Tok} {is : Iters} {c : Condition} → SpellsCondition ts is c rest → (us : List Tok) → rest ≡ word words.Using ∷ us → ConditionComes ts is c rest
  condition_comes (grammar.unconditional {rest = rest} is) us front =
      record {
        mid = rest;
        iterators = iters_come is;
        ends = ap (sign_at signs.Comma) front ∙ no_comma_word words.Using us;
        tested = condition_always rest (ap (word_at words.Where) front ∙ no_where_using us);
      }
  condition_comes (grammar.conditional {o = o} {mid = mid} {rest = rest} {c = c} is s) us front =
      let stops : Stops rest = subst Stops (sym front) (stops_using us) in
      record {
        mid = word words.Where ∷ mid;
        iterators = iters_come is;
        ends = no_comma_word words.Where mid;
        tested = condition_only mid rest c (stopped mid rest c (level_comes s (follows o max_rank rest stops)) stops);
      }
