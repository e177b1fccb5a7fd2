-- What is read behind a first token is spelled, where the reader of expressions inside reads what is spelled.
use Rattle.std.proofs.Common.{◌≡◌, ℕ, ◌⊎◌, inl, inr, List, ◌∷◌, Some, None, sym, ap, subst, ◌∙◌}
use Rattle.wcps_text.specs.declared.token.Symbol.TheVariants as signs
use Rattle.arr_core.specs.declared.keyword.Keyword.TheVariants as words
use Rattle.wcps_text.specs.declared.operator.UnaryOperator.TheVariants as unaries
use Rattle.wcps_text.specs.declared.operator.BinaryOperator.TheVariants as binaries
use Rattle.wcps_text.specs.declared.tree.ListItem.{ListItem}
use Rattle.wcps_text.specs.Token.{Tok, name, word, sign}
use Rattle.wcps_text.specs.Tree as tree
use Rattle.wcps_text.specs.Tree.{Tree, PlaceTree, trim, at, IntervalTree, Iters, Condition, always, only}
use Rattle.wcps_text.specs.Grammar as grammar
use Rattle.wcps_text.specs.Grammar.{max_rank, Openness, closed, open_ended, Spells, SpellsInParens, SpellsPost, SpellsPart, SpellsParts, SpellsSub, SpellsSubs, SpellsPlace, SpellsInterval, SpellsIters, SpellsItems, SpellsCondition}
use Rattle.wcps_parse.specs.Front.{word_at, item_at, binary_at, postfix_at, Begin, with_number, with_truth, with_variable, with_paren, with_brace, with_abs, with_bit, with_reduce, with_coverage, with_condense}
use Rattle.wcps_parse.specs.Reading.{Reader, NamedTree, NamedPlace, NamedInterval, parts_from, subs_from, iters_from, enclosed, in_parens, bit, part_at, parts, fields, domain, place, interval, sub_at, subs, iter_at, iters, items, listed, coverage, condition, condense, begun}
use Rattle.wcps_parse.proofs.Options.{bind_ok, choose_ok, found_is}
use Rattle.wcps_parse.proofs.Words.{sign_is, word_is, name_is, variable_is, bounds_is, item_is, condenser_is, Begins}
use Rattle.wcps_parse.proofs.Listed.{separated_read, parts_listed, subs_listed, iters_listed, items_listed, IsPart, IsSub, IsIter}

-- no operator stands behind an open expression
abbrev pub Ends : Openness → List Tok → Type 0
Ends closed rest = Unit {0}
Ends open_ended rest = binary_at max_rank rest ≡ None

-- the tokens before the rest spell the tree, and reach as far as they can
pub record IsRead (r : ℕ) (ts : List Tok) (e : Tree) (rest : List Tok) : Type 0 where
  pub openness : Openness
  pub spelled : Spells openness r ts e rest
  pub ends : Ends openness rest
  pub quiet : binary_at r rest ≡ None
  pub no_postfix : postfix_at rest ≡ None

pub record IsSound (l : Reader) : Type 0 where
  pub reads : (r : ℕ) (ts rest : List Tok) (e : Tree) → l r ts ≡ Some (e, rest) → IsRead r ts e rest

-- an expression and the parenthesis behind it
record IsInside (ts : List Tok) (e : Tree) (rest : List Tok) : Type 0 where
  openness : Openness
  spelled : Spells openness max_rank ts e (sign signs.RightParen ∷ rest)

enclosed_read : (l : Reader) → IsSound l → (ts rest : List Tok) (e : Tree) → enclosed l ts ≡ Some (e, rest) → IsInside ts e rest
unfolding enclosed
enclosed_read l sound ts rest e h =
    let x = bind_ok _ _ _ h in
    let close = bind_ok _ _ _ x.2 in
    let inside = sound.reads max_rank ts x.0.1 x.0.0 x.1 in
    subst (λ (p : Tree × List Tok). IsInside ts p.0 p.1) (found_is (x.0.0, close.0) (e, rest) close.2)
    (record { openness = inside.openness; spelled = subst (λ (us : List Tok). Spells inside.openness max_rank ts x.0.0 us) (sign_is _ _ _ close.1) inside.spelled })

in_parens_read : (l : Reader) → IsSound l → (ts rest : List Tok) (e : Tree) → in_parens l ts ≡ Some (e, rest) → SpellsInParens ts e rest
unfolding in_parens
in_parens_read l sound ts rest e h =
    let start = bind_ok _ _ _ h in
    let inside = enclosed_read l sound start.0 rest e start.2 in
    subst (λ (us : List Tok). SpellsInParens us e rest) (sym (sign_is _ _ _ start.1)) (grammar.parens inside.spelled)

bit_read : (l : Reader) → IsSound l → (ts rest : List Tok) (e : Tree) → bit l ts ≡ Some (e, rest) → SpellsPost (word words.Bit ∷ ts) e rest
unfolding bit
bit_read l sound ts rest e h =
    let start = bind_ok _ _ _ h in
    let a = bind_ok _ _ _ start.2 in
    let mid = bind_ok _ _ _ a.2 in
    let b = bind_ok _ _ _ mid.2 in
    let left = sound.reads max_rank start.0 a.0.1 a.0.0 a.1 in
    let right = enclosed_read l sound mid.0 b.0.1 b.0.0 b.1 in
    let first : Spells left.openness max_rank start.0 a.0.0 (sign signs.Comma ∷ mid.0) = subst (λ (us : List Tok). Spells left.openness max_rank start.0 a.0.0 us) (sign_is _ _ _ mid.1) left.spelled in
    subst (λ (p : Tree × List Tok). SpellsPost (word words.Bit ∷ ts) p.0 p.1) (found_is (tree.binary binaries.Bit a.0.0 b.0.0, b.0.1) (e, rest) b.2)
    (subst (λ (us : List Tok). SpellsPost (word words.Bit ∷ us) (tree.binary binaries.Bit a.0.0 b.0.0) b.0.1) (sym (sign_is _ _ _ start.1)) (grammar.bit first right.spelled))

part_read : (l : Reader) → IsSound l → (ts rest : List Tok) (p : NamedTree) → part_at l ts ≡ Some (p, rest) → IsPart ts p rest
unfolding part_at
part_read l sound ts rest p h =
    let x = bind_ok _ _ _ h in
    let mid = bind_ok _ _ _ x.2 in
    let e = bind_ok _ _ _ mid.2 in
    let front : ts ≡ name x.0.0 ∷ sign signs.Colon ∷ mid.0 = name_is _ _ _ x.1 ∙ ap (λ (us : List Tok). name x.0.0 ∷ us) (sign_is _ _ _ mid.1) in
    subst (λ (q : NamedTree × List Tok). IsPart ts q.0 q.1) (found_is ((x.0.0, e.0.0), e.0.1) (p, rest) e.2)
    (subst (λ (us : List Tok). SpellsPart us x.0.0 e.0.0 e.0.1) (sym front) (grammar.named (sound.reads max_rank mid.0 e.0.1 e.0.0 e.1).spelled))

fields_read : (m : ℕ) (l : Reader) → IsSound l → (ts rest : List Tok) (e : Tree) → fields m l ts ≡ Some (e, rest) → SpellsPost (sign signs.LeftBrace ∷ ts) e rest
unfolding fields parts
fields_read m l sound ts rest e h =
    let ps = bind_ok _ _ _ h in
    let close = bind_ok _ _ _ ps.2 in
    let inside : SpellsParts ts (parts_from ps.0.0) ps.0.1 = parts_listed (separated_read signs.Semicolon IsPart (part_at l) (part_read l sound) m ts ps.0.1 ps.0.0 ps.1) in
    subst (λ (p : Tree × List Tok). SpellsPost (sign signs.LeftBrace ∷ ts) p.0 p.1) (found_is (tree.parts (parts_from ps.0.0), close.0) (e, rest) close.2)
    (grammar.parts (subst (λ (us : List Tok). SpellsParts ts (parts_from ps.0.0) us) (sign_is _ _ _ close.1) inside))

domain_read : (l : Reader) → IsSound l → (ts rest : List Tok) (i : IntervalTree) → domain l ts ≡ Some (i, rest) → SpellsInterval (word words.ImageCrsDomain ∷ ts) i rest
unfolding domain
domain_read l sound ts rest i h =
    let start = bind_ok _ _ _ h in
    let e = bind_ok _ _ _ start.2 in
    let mid = bind_ok _ _ _ e.2 in
    let a = bind_ok _ _ _ mid.2 in
    let close = bind_ok _ _ _ a.2 in
    let inside = sound.reads max_rank start.0 e.0.1 e.0.0 e.1 in
    let after : e.0.1 ≡ sign signs.Comma ∷ name a.0.0 ∷ sign signs.RightParen ∷ close.0 =
    sign_is _ _ _ mid.1 ∙ ap (λ (us : List Tok). sign signs.Comma ∷ us) (name_is _ _ _ a.1 ∙ ap (λ (us : List Tok). name a.0.0 ∷ us) (sign_is _ _ _ close.1)) in
    let s : SpellsInterval (word words.ImageCrsDomain ∷ sign signs.LeftParen ∷ start.0) (tree.domain e.0.0 a.0.0) close.0 =
    grammar.domain_of (subst (λ (us : List Tok). Spells inside.openness max_rank start.0 e.0.0 us) after inside.spelled) in
    subst (λ (p : IntervalTree × List Tok). SpellsInterval (word words.ImageCrsDomain ∷ ts) p.0 p.1) (found_is (tree.domain e.0.0 a.0.0, close.0) (i, rest) close.2)
    (subst (λ (us : List Tok). SpellsInterval (word words.ImageCrsDomain ∷ us) (tree.domain e.0.0 a.0.0) close.0) (sym (sign_is _ _ _ start.1)) s)

named_domain_read : (l : Reader) → IsSound l → (ts mid rest : List Tok) (i : IntervalTree) → word_at words.ImageCrsDomain ts ≡ Some mid → domain l mid ≡ Some (i, rest) → SpellsInterval ts i rest
named_domain_read l sound ts mid rest i w h = subst (λ (us : List Tok). SpellsInterval us i rest) (sym (word_is _ _ _ w)) (domain_read l sound mid rest i h)

interval_read : (l : Reader) → IsSound l → (ts rest : List Tok) (i : IntervalTree) → interval l ts ≡ Some (i, rest) → SpellsInterval ts i rest
unfolding interval
interval_read l sound ts rest i h =
    choose_ok _ _ _ _ h
    (λ none k. let w = bind_ok _ _ _ k in named_domain_read l sound ts w.0 rest i w.1 w.2)
    (λ j some k. subst (λ (p : IntervalTree × List Tok). SpellsInterval ts p.0 p.1) (found_is (j.0, j.1) (i, rest) k) (bounds_is ts j.1 j.0 some))

place_read : (l : Reader) → IsSound l → (ts rest : List Tok) (p : PlaceTree) → place l ts ≡ Some (p, rest) → SpellsPlace ts p rest
unfolding place
place_read l sound ts rest p h =
    choose_ok _ _ _ _ h
    (λ none k. choose_ok _ _ _ _ k
    (λ no_word j.
    let e = bind_ok _ _ _ j in
    subst (λ (q : PlaceTree × List Tok). SpellsPlace ts q.0 q.1) (found_is (at e.0.0, e.0.1) (p, rest) e.2) (grammar.position (sound.reads max_rank ts e.0.1 e.0.0 e.1).spelled))
    (λ mid some j.
    let i = bind_ok _ _ _ j in
    subst (λ (q : PlaceTree × List Tok). SpellsPlace ts q.0 q.1) (found_is (trim i.0.0, i.0.1) (p, rest) i.2) (grammar.trimmed (named_domain_read l sound ts mid i.0.1 i.0.0 some i.1))))
    (λ j some k. subst (λ (q : PlaceTree × List Tok). SpellsPlace ts q.0 q.1) (found_is (trim j.0, j.1) (p, rest) k) (grammar.trimmed (bounds_is ts j.1 j.0 some)))

sub_read : (l : Reader) → IsSound l → (ts rest : List Tok) (s : NamedPlace) → sub_at l ts ≡ Some (s, rest) → IsSub ts s rest
unfolding sub_at
sub_read l sound ts rest s h =
    let a = bind_ok _ _ _ h in
    let start = bind_ok _ _ _ a.2 in
    let p = bind_ok _ _ _ start.2 in
    let close = bind_ok _ _ _ p.2 in
    let front : ts ≡ name a.0.0 ∷ sign signs.LeftParen ∷ start.0 = name_is _ _ _ a.1 ∙ ap (λ (us : List Tok). name a.0.0 ∷ us) (sign_is _ _ _ start.1) in
    let inside : SpellsPlace start.0 p.0.0 (sign signs.RightParen ∷ close.0) = subst (λ (us : List Tok). SpellsPlace start.0 p.0.0 us) (sign_is _ _ _ close.1) (place_read l sound start.0 p.0.1 p.0.0 p.1) in
    subst (λ (q : NamedPlace × List Tok). IsSub ts q.0 q.1) (found_is ((a.0.0, p.0.0), close.0) (s, rest) close.2)
    (subst (λ (us : List Tok). SpellsSub us a.0.0 p.0.0 close.0) (sym front) (grammar.of_axis inside))

pub subs_read : (m : ℕ) (l : Reader) → IsSound l → (ts rest : List Tok) (ss : List NamedPlace) → subs m l ts ≡ Some (ss, rest) → SpellsSubs ts (subs_from ss) rest
unfolding subs
subs_read m l sound ts rest ss h = subs_listed (separated_read signs.Comma IsSub (sub_at l) (sub_read l sound) m ts rest ss h)

iter_read : (l : Reader) → IsSound l → (ts rest : List Tok) (i : NamedInterval) → iter_at l ts ≡ Some (i, rest) → IsIter ts i rest
unfolding iter_at
iter_read l sound ts rest i h =
    let v = bind_ok _ _ _ h in
    let a = bind_ok _ _ _ v.2 in
    let start = bind_ok _ _ _ a.2 in
    let j = bind_ok _ _ _ start.2 in
    let close = bind_ok _ _ _ j.2 in
    let front : v.0.1 ≡ name a.0.0 ∷ sign signs.LeftParen ∷ start.0 = name_is _ _ _ a.1 ∙ ap (λ (us : List Tok). name a.0.0 ∷ us) (sign_is _ _ _ start.1) in
    let inside : SpellsInterval start.0 j.0.0 (sign signs.RightParen ∷ close.0) = subst (λ (us : List Tok). SpellsInterval start.0 j.0.0 us) (sign_is _ _ _ close.1) (interval_read l sound start.0 j.0.1 j.0.0 j.1) in
    let named = subst (λ (us : List Tok). grammar.SpellsVariable ts v.0.0 us) front (variable_is _ _ _ v.1) in
    subst (λ (q : NamedInterval × List Tok). IsIter ts q.0 q.1) (found_is ((v.0.0, a.0.0, j.0.0), close.0) (i, rest) close.2) (grammar.iterator named inside)

iters_read : (m : ℕ) (l : Reader) → IsSound l → (ts rest : List Tok) (is : List NamedInterval) → iters m l ts ≡ Some (is, rest) → SpellsIters ts (iters_from is) rest
unfolding iters
iters_read m l sound ts rest is h = iters_listed (separated_read signs.Comma IsIter (iter_at l) (iter_read l sound) m ts rest is h)

record IsList (ts : List Tok) (xs : List ListItem) (rest : List Tok) : Type 0 where
  mid : List Tok
  front : ts ≡ word words.Value ∷ word words.List ∷ sign signs.Less ∷ mid
  spelled : SpellsItems mid xs (sign signs.Greater ∷ rest)

listed_read : (m : ℕ) (ts rest : List Tok) (xs : List ListItem) → listed m ts ≡ Some (xs, rest) → IsList ts xs rest
unfolding listed items
listed_read m ts rest xs h =
    let a = bind_ok _ _ _ h in
    let b = bind_ok _ _ _ a.2 in
    let c = bind_ok _ _ _ b.2 in
    let ys = bind_ok _ _ _ c.2 in
    let close = bind_ok _ _ _ ys.2 in
    let inside : SpellsItems c.0 ys.0.0 ys.0.1 = items_listed (separated_read signs.Semicolon grammar.SpellsItem item_at item_is m c.0 ys.0.1 ys.0.0 ys.1) in
    subst (λ (p : List ListItem × List Tok). IsList ts p.0 p.1) (found_is (ys.0.0, close.0) (xs, rest) close.2)
    (record {
      mid = c.0;
      front = word_is _ _ _ a.1 ∙ ap (λ (us : List Tok). word words.Value ∷ us) (word_is _ _ _ b.1 ∙ ap (λ (us : List Tok). word words.List ∷ us) (sign_is _ _ _ c.1));
      spelled = subst (λ (us : List Tok). SpellsItems c.0 ys.0.0 us) (sign_is _ _ _ close.1) inside;
    })

pub condition_read : (l : Reader) → IsSound l → (ts0 ts rest : List Tok) (is : Iters) (c : Condition) → SpellsIters ts0 is ts → condition l ts ≡ Some (c, rest) → SpellsCondition ts0 is c rest
unfolding condition
condition_read l sound ts0 ts rest is c s h =
    choose_ok _ _ _ _ h
    (λ none k. subst (λ (p : Condition × List Tok). SpellsCondition ts0 is p.0 p.1) (found_is (always, ts) (c, rest) k) (grammar.unconditional s))
    (λ mid some k.
    let x = bind_ok _ _ _ k in
    let inside = sound.reads max_rank mid x.0.1 x.0.0 x.1 in
    subst (λ (p : Condition × List Tok). SpellsCondition ts0 is p.0 p.1) (found_is (only x.0.0, x.0.1) (c, rest) x.2)
    (grammar.conditional (subst (λ (us : List Tok). SpellsIters ts0 is us) (word_is _ _ _ some) s) inside.spelled))

-- a form that ends in an expression
pub record IsOpen (ts : List Tok) (e : Tree) (rest : List Tok) : Type 0 where
  pub spelled : Spells open_ended 0 ts e rest
  pub quiet : binary_at max_rank rest ≡ None
  pub no_postfix : postfix_at rest ≡ None

abbrev pub IsPrim : List Tok → Tree → List Tok → Type 0
IsPrim ts e rest = SpellsPost ts e rest ⊎ IsOpen ts e rest

coverage_read : (m : ℕ) (l : Reader) → IsSound l → (ts rest : List Tok) (e : Tree) → coverage m l ts ≡ Some (e, rest) → IsPrim (word words.Coverage ∷ ts) e rest
unfolding coverage
coverage_read m l sound ts rest e h =
    let x = bind_ok _ _ _ h in
    let start = bind_ok _ _ _ x.2 in
    let is = bind_ok _ _ _ start.2 in
    let over = iters_read m l sound start.0 is.0.1 is.0.0 is.1 in
    let front : ts ≡ name x.0.0 ∷ word words.Over ∷ start.0 = name_is _ _ _ x.1 ∙ ap (λ (us : List Tok). name x.0.0 ∷ us) (word_is _ _ _ start.1) in
    choose_ok _ _ _ _ is.2
    (λ none k.
    let xs = bind_ok _ _ _ k in
    let inside = listed_read m is.0.1 xs.0.1 xs.0.0 xs.1 in
    let s = grammar.value_list {x = x.0.0} (subst (λ (us : List Tok). SpellsIters start.0 (iters_from is.0.0) us) inside.front over) inside.spelled in
    subst (λ (p : Tree × List Tok). IsPrim (word words.Coverage ∷ ts) p.0 p.1) (found_is (tree.value_list (iters_from is.0.0) xs.0.0, xs.0.1) (e, rest) xs.2)
    (inl (subst (λ (us : List Tok). SpellsPost (word words.Coverage ∷ us) (tree.value_list (iters_from is.0.0) xs.0.0) xs.0.1) (sym front) s)))
    (λ mid some k.
    let body = bind_ok _ _ _ k in
    let inside = sound.reads max_rank mid body.0.1 body.0.0 body.1 in
    let s = grammar.coverage {x = x.0.0} (subst (λ (us : List Tok). SpellsIters start.0 (iters_from is.0.0) us) (word_is _ _ _ some) over) inside.spelled in
    subst (λ (p : Tree × List Tok). IsPrim (word words.Coverage ∷ ts) p.0 p.1) (found_is (tree.coverage (iters_from is.0.0) body.0.0, body.0.1) (e, rest) body.2)
    (inr (record { spelled = subst (λ (us : List Tok). Spells open_ended 0 (word words.Coverage ∷ us) (tree.coverage (iters_from is.0.0) body.0.0) body.0.1) (sym front) s; quiet = inside.quiet; no_postfix = inside.no_postfix })))

condense_read : (m : ℕ) (l : Reader) → IsSound l → (ts rest : List Tok) (e : Tree) → condense m l ts ≡ Some (e, rest) → IsOpen (word words.Condense ∷ ts) e rest
unfolding condense
condense_read m l sound ts rest e h =
    let op = bind_ok _ _ _ h in
    let start = bind_ok _ _ _ op.2 in
    let is = bind_ok _ _ _ start.2 in
    let c = bind_ok _ _ _ is.2 in
    let using_at = bind_ok _ _ _ c.2 in
    let body = bind_ok _ _ _ using_at.2 in
    let inside = sound.reads max_rank using_at.0 body.0.1 body.0.0 body.1 in
    let tested : SpellsCondition start.0 (iters_from is.0.0) c.0.0 (word words.Using ∷ using_at.0) =
    subst (λ (us : List Tok). SpellsCondition start.0 (iters_from is.0.0) c.0.0 us) (word_is _ _ _ using_at.1) (condition_read l sound start.0 is.0.1 c.0.1 (iters_from is.0.0) c.0.0 (iters_read m l sound start.0 is.0.1 is.0.0 is.1) c.1) in
    let found = condenser_is _ _ _ op.1 in
    let front : ts ≡ found.token ∷ word words.Over ∷ start.0 = found.at_front ∙ ap (λ (us : List Tok). found.token ∷ us) (word_is _ _ _ start.1) in
    let s : Spells open_ended 0 (word words.Condense ∷ ts) (tree.condense op.0.0 (iters_from is.0.0) c.0.0 body.0.0) body.0.1 =
    subst (λ (us : List Tok). Spells open_ended 0 (word words.Condense ∷ us) (tree.condense op.0.0 (iters_from is.0.0) c.0.0 body.0.0) body.0.1) (sym front) (grammar.condense found.joins tested inside.spelled) in
    subst (λ (p : Tree × List Tok). IsOpen (word words.Condense ∷ ts) p.0 p.1) (found_is (tree.condense op.0.0 (iters_from is.0.0) c.0.0 body.0.0, body.0.1) (e, rest) body.2)
    (record { spelled = s; quiet = inside.quiet; no_postfix = inside.no_postfix })

pub begun_read : (m : ℕ) (l : Reader) → IsSound l → (b : Begin) (ts0 ts rest : List Tok) (e : Tree) → Begins ts0 b ts → begun m l b ts ≡ Some (e, rest) → IsPrim ts0 e rest
unfolding begun
begun_read m l sound (with_number n) ts0 ts rest e front h =
    subst (λ (p : Tree × List Tok). IsPrim ts0 p.0 p.1) (found_is (tree.number n, ts) (e, rest) h) (inl (subst (λ (us : List Tok). SpellsPost us (tree.number n) ts) (sym front) grammar.literal))
begun_read m l sound (with_truth b) ts0 ts rest e front h =
    subst (λ (p : Tree × List Tok). IsPrim ts0 p.0 p.1) (found_is (tree.truth b, ts) (e, rest) h) (inl (subst (λ (us : List Tok). SpellsPost us (tree.truth b) ts) (sym front) grammar.truth))
begun_read m l sound (with_variable x) ts0 ts rest e front h =
    subst (λ (p : Tree × List Tok). IsPrim ts0 p.0 p.1) (found_is (tree.variable x, ts) (e, rest) h) (inl (grammar.variable front))
begun_read m l sound with_paren ts0 ts rest e front h =
    inl (subst (λ (us : List Tok). SpellsPost us e rest) (sym front) (grammar.grouped (grammar.parens (enclosed_read l sound ts rest e h).spelled)))
begun_read m l sound with_brace ts0 ts rest e front h = inl (subst (λ (us : List Tok). SpellsPost us e rest) (sym front) (fields_read m l sound ts rest e h))
begun_read m l sound with_abs ts0 ts rest e front h =
    let x = bind_ok _ _ _ h in
    subst (λ (p : Tree × List Tok). IsPrim ts0 p.0 p.1) (found_is (tree.unary unaries.Absolute x.0.0, x.0.1) (e, rest) x.2)
    (inl (subst (λ (us : List Tok). SpellsPost us (tree.unary unaries.Absolute x.0.0) x.0.1) (sym front) (grammar.abs (in_parens_read l sound ts x.0.1 x.0.0 x.1))))
begun_read m l sound with_bit ts0 ts rest e front h = inl (subst (λ (us : List Tok). SpellsPost us e rest) (sym front) (bit_read l sound ts rest e h))
begun_read m l sound (with_reduce op) ts0 ts rest e front h =
    let x = bind_ok _ _ _ h in
    subst (λ (p : Tree × List Tok). IsPrim ts0 p.0 p.1) (found_is (tree.reduce op x.0.0, x.0.1) (e, rest) x.2)
    (inl (subst (λ (us : List Tok). SpellsPost us (tree.reduce op x.0.0) x.0.1) (sym front.at_front) (grammar.reduce front.reduces (in_parens_read l sound ts x.0.1 x.0.0 x.1))))
begun_read m l sound with_coverage ts0 ts rest e front h = subst (λ (us : List Tok). IsPrim us e rest) (sym front) (coverage_read m l sound ts rest e h)
begun_read m l sound with_condense ts0 ts rest e front h = inr (subst (λ (us : List Tok). IsOpen us e rest) (sym front) (condense_read m l sound ts rest e h))
