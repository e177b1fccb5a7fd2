-- What is read with operators is spelled.
use Rattle.std.proofs.Common.{◌≡◌, ℕ, zero, suc, ◌-◌, ◌<◌, ◌≤◌, ⊎_elim, true, false, List, ◌∷◌, Some, None, sym, subst, arith}
use Rattle.std.proofs.lemmas.Bool.Decides.{leb_tells}
use Rattle.std.proofs.Math.Dec.{leb}
use Rattle.wcps_text.specs.declared.token.Symbol.TheVariants as signs
use Rattle.wcps_text.specs.declared.operator.BinaryOperator.{BinaryOperator}
use Rattle.wcps_text.specs.Token.{Tok, sign}
use Rattle.wcps_text.specs.Tree as tree
use Rattle.wcps_text.specs.Tree.{Tree}
use Rattle.wcps_text.specs.Grammar as grammar
use Rattle.wcps_text.specs.Grammar.{binary_token, rank_of, max_rank, Openness, closed, open_ended, Spells, SpellsPost, SpellsSubs}
use Rattle.wcps_text.proofs.Ranks.{rank_most, rank_suc, raised}
use Rattle.wcps_text.proofs.Fronts.{none_equal}
use Rattle.wcps_parse.specs.declared.front.Postfix.{Postfix}
use Rattle.wcps_parse.specs.declared.front.Postfix.TheVariants as postfixes
use Rattle.wcps_parse.specs.Front.{binary_at, postfix_at}
use Rattle.wcps_parse.specs.Reading.{Reader, subs_from, prim, postfix, behind, post, operand, climb, expression, level}
use Rattle.wcps_parse.proofs.Options.{bind_ok, choose_ok, found_is}
use Rattle.wcps_parse.proofs.Words.{sign_is, name_is, prefix_is, binary_is, postfix_is, postfix_sign, start_is}
use Rattle.wcps_parse.proofs.Again.{binary_again, quiet_zero}
use Rattle.wcps_parse.proofs.Sound.{Ends, IsRead, IsSound, IsOpen, IsPrim, subs_read, begun_read}

prim_read : (m : ℕ) (l : Reader) → IsSound l → (ts rest : List Tok) (e : Tree) → prim m l ts ≡ Some (e, rest) → IsPrim ts e rest
unfolding prim
prim_read m l sound ts rest e h =
    let s = bind_ok _ _ _ h in
    begun_read m l sound s.0.0 ts s.0.1 rest e (start_is ts s.0.1 s.0.0 s.1) s.2

postfix_read : (m : ℕ) (l : Reader) → IsSound l → (k : Postfix) (ts0 ts rest : List Tok) (a e : Tree) → SpellsPost ts0 a (sign (postfix_sign k) ∷ ts) → postfix m l k a ts ≡ Some (e, rest) → SpellsPost ts0 e rest
unfolding postfix
postfix_read m l sound postfixes.Field ts0 ts rest a e s h =
    let x = bind_ok _ _ _ h in
    subst (λ (p : Tree × List Tok). SpellsPost ts0 p.0 p.1) (found_is (tree.field a x.0.0, x.0.1) (e, rest) x.2)
    (grammar.field (subst (λ (us : List Tok). SpellsPost ts0 a (sign signs.Dot ∷ us)) (name_is _ _ _ x.1) s))
postfix_read m l sound postfixes.Brackets ts0 ts rest a e s h =
    let ss = bind_ok _ _ _ h in
    let close = bind_ok _ _ _ ss.2 in
    let inside : SpellsSubs ts (subs_from ss.0.0) (sign signs.RightBracket ∷ close.0) = subst (λ (us : List Tok). SpellsSubs ts (subs_from ss.0.0) us) (sign_is _ _ _ close.1) (subs_read m l sound ts ss.0.1 ss.0.0 ss.1) in
    subst (λ (p : Tree × List Tok). SpellsPost ts0 p.0 p.1) (found_is (tree.brackets a (subs_from ss.0.0), close.0) (e, rest) close.2) (grammar.brackets s inside)

-- an expression behind which no field and no bracket stands
record IsPost (ts : List Tok) (e : Tree) (rest : List Tok) : Type 0 where
  spelled : SpellsPost ts e rest
  no_postfix : postfix_at rest ≡ None

behind_read : (m : ℕ) (l : Reader) → IsSound l → (ts0 ts rest : List Tok) (a e : Tree) → SpellsPost ts0 a ts → behind m l a ts ≡ Some (e, rest) → IsPost ts0 e rest
unfolding behind
behind_read zero l sound ts0 ts rest a e s h = absurd cc
behind_read (suc m) l sound ts0 ts rest a e s h =
    choose_ok _ _ _ _ h
    (λ none k. subst (λ (p : Tree × List Tok). IsPost ts0 p.0 p.1) (found_is (a, ts) (e, rest) k) (record { spelled = s; no_postfix = none }))
    (λ k some j.
    let x = bind_ok _ _ _ j in
    let front = subst (λ (us : List Tok). SpellsPost ts0 a us) (postfix_is ts k.1 k.0 some) s in
    behind_read m l sound ts0 x.0.1 rest x.0.0 e (postfix_read m l sound k.0 ts0 k.1 x.0.1 a x.0.0 front x.1) x.2)

-- nothing goes on behind an open form
behind_open : (m : ℕ) (l : Reader) (ts0 ts rest : List Tok) (a e : Tree) → IsOpen ts0 a ts → behind m l a ts ≡ Some (e, rest) → IsOpen ts0 e rest
unfolding behind
behind_open zero l ts0 ts rest a e s h = absurd cc
behind_open (suc m) l ts0 ts rest a e s h =
    choose_ok _ _ _ _ h
    (λ none k. subst (λ (p : Tree × List Tok). IsOpen ts0 p.0 p.1) (found_is (a, ts) (e, rest) k) s)
    (λ k some j. absurd (none_equal s.no_postfix some))

closed_read : {ts rest : List Tok} {e : Tree} → IsPost ts e rest → IsRead 0 ts e rest
closed_read {rest = rest} p = record { openness = closed; spelled = grammar.post p.spelled; ends = tt; quiet = quiet_zero rest; no_postfix = p.no_postfix }

open_read : {ts rest : List Tok} {e : Tree} → IsOpen ts e rest → IsRead 0 ts e rest
open_read {rest = rest} p = record { openness = open_ended; spelled = p.spelled; ends = p.quiet; quiet = quiet_zero rest; no_postfix = p.no_postfix }

post_read : (m : ℕ) (l : Reader) → IsSound l → (ts rest : List Tok) (e : Tree) → post m l ts ≡ Some (e, rest) → IsRead 0 ts e rest
unfolding post
post_read m l sound ts rest e h =
    let a = bind_ok _ _ _ h in
    ⊎_elim (λ p. closed_read (behind_read m l sound ts a.0.1 rest a.0.0 e p a.2)) (λ p. open_read (behind_open m l ts a.0.1 rest a.0.0 e p a.2)) (prim_read m l sound ts a.0.1 a.0.0 a.1)

operand_read : (m : ℕ) (l : Reader) → IsSound l → (ts rest : List Tok) (e : Tree) → operand m l ts ≡ Some (e, rest) → IsRead 0 ts e rest
unfolding operand
operand_read m l sound ts rest e h =
    choose_ok _ _ _ _ h
    (λ none k. post_read m l sound ts rest e k)
    (λ op some k.
    let x = bind_ok _ _ _ k in
    let front = prefix_is ts op.1 op.0 some in
    let inside = sound.reads 0 op.1 x.0.1 x.0.0 x.1 in
    let s : Spells inside.openness 0 ts (tree.unary op.0 x.0.0) x.0.1 = subst (λ (us : List Tok). Spells inside.openness 0 us (tree.unary op.0 x.0.0) x.0.1) (sym front.at_front) (grammar.unary front.before inside.spelled) in
    subst (λ (p : Tree × List Tok). IsRead 0 ts p.0 p.1) (found_is (tree.unary op.0 x.0.0, x.0.1) (e, rest) x.2)
    (record { openness = inside.openness; spelled = s; ends = inside.ends; quiet = inside.quiet; no_postfix = inside.no_postfix }))

-- no operator of a rank below stands at the front
abbrev pub Below : ℕ → List Tok → Type 0
Below zero ts = Unit {0}
Below (suc k) ts = binary_at k ts ≡ None

-- the operator at the front is of the rank or a looser one
reaches : (q : ℕ) (op : BinaryOperator) (ts mid : List Tok) → 0 < rank_of op → Below q ts → ts ≡ binary_token op ∷ mid → q ≤ rank_of op
reaches zero op ts mid ranked below e = omega arith
reaches (suc k) op ts mid ranked below e =
    ⊎_elim (λ (h : (leb (rank_of op) k ≡ true) × (rank_of op ≤ k)). absurd (none_equal (subst (λ (us : List Tok). binary_at k us ≡ None) e below) (binary_again op k mid ranked h.1)))
    (λ (h : (leb (rank_of op) k ≡ false) × (k < rank_of op)). omega (arith, h.1)) (leb_tells (rank_of op) k)

-- what stands to the left of an operator is closed
left_closed : (o : Openness) (q : ℕ) (ts0 ts mid : List Tok) (a : Tree) (op : BinaryOperator) → 0 < rank_of op → Ends o ts → ts ≡ binary_token op ∷ mid → Spells o q ts0 a ts → Spells closed q ts0 a (binary_token op ∷ mid)
left_closed closed q ts0 ts mid a op ranked ends e s = subst (λ (us : List Tok). Spells closed q ts0 a us) e s
left_closed open_ended q ts0 ts mid a op ranked ends e s = absurd (none_equal (subst (λ (us : List Tok). binary_at max_rank us ≡ None) e ends) (binary_again op max_rank mid ranked (rank_most op)))

climb_read : (m : ℕ) (l : Reader) → IsSound l → (o : Openness) (q r : ℕ) (ts0 ts rest : List Tok) (a e : Tree) → q ≤ r → Spells o q ts0 a ts → Ends o ts → Below q ts → postfix_at ts ≡ None → climb m l r a ts ≡ Some (e, rest) → IsRead r ts0 e rest
unfolding climb
climb_read zero l sound o q r ts0 ts rest a e le s ends below no_postfix h = absurd cc
climb_read (suc m) l sound o q r ts0 ts rest a e le s ends below no_postfix h =
    choose_ok _ _ _ _ h
    (λ none k. subst (λ (p : Tree × List Tok). IsRead r ts0 p.0 p.1) (found_is (a, ts) (e, rest) k)
    (record { openness = o; spelled = raised o q r ts0 ts a le s; ends = ends; quiet = none; no_postfix = no_postfix }))
    (λ op some k.
    let is = binary_is r ts op.1 op.0 some in
    let b = bind_ok _ _ _ k in
    let right = sound.reads (rank_of op.0 - 1) op.1 b.0.1 b.0.0 b.1 in
    let left = left_closed o q ts0 ts op.1 a op.0 is.ranked ends is.at_front s in
    let high = raised closed q (rank_of op.0) ts0 (binary_token op.0 ∷ op.1) a (reaches q op.0 ts op.1 is.ranked below is.at_front) left in
    let first : Spells closed (suc (rank_of op.0 - 1)) ts0 a (binary_token op.0 ∷ op.1) = subst (λ (k : ℕ). Spells closed k ts0 a (binary_token op.0 ∷ op.1)) (rank_suc op.0 is.ranked) high in
    let joined : Spells right.openness (suc (rank_of op.0 - 1)) ts0 (tree.binary op.0 a b.0.0) b.0.1 = grammar.binary op.0 (rank_suc op.0 is.ranked) first right.spelled in
    climb_read m l sound right.openness (suc (rank_of op.0 - 1)) r ts0 b.0.1 rest (tree.binary op.0 a b.0.0) e (omega (arith, is.of_rank, rank_suc op.0 is.ranked)) joined right.ends right.quiet right.no_postfix b.2)

expression_read : (m : ℕ) (l : Reader) → IsSound l → (r : ℕ) (ts rest : List Tok) (e : Tree) → expression m l r ts ≡ Some (e, rest) → IsRead r ts e rest
unfolding expression
expression_read m l sound r ts rest e h =
    let a = bind_ok _ _ _ h in
    let first = operand_read m l sound ts a.0.1 a.0.0 a.1 in
    climb_read m l sound first.openness 0 r ts a.0.1 rest a.0.0 e (omega arith) first.spelled first.ends tt first.no_postfix a.2

-- what is read is spelled
pub level_read : (n : ℕ) → IsSound (level n)
unfolding level
level_read zero = record { reads = λ r ts rest e h. absurd cc }
level_read (suc n) = record { reads = λ r ts rest e h. expression_read n (level n) (level_read n) r ts rest e h }
