-- The operators before an operand, one after another.
use Rattle.std.proofs.Common.{◌≡◌, ℕ, zero, suc, ◌+◌, ◌-◌, List, [], ◌∷◌, ◌++◌, length, take, drop, append_assoc, append-nil, arith, Some, None, refl, sym, ap, subst, ◌∙◌}
use Rattle.std.proofs.lemmas.List.{take_rest}
use Rattle.wcps_text.specs.declared.token.Token.{Token}
use Rattle.wcps_text.specs.declared.operator.UnaryOperator.{UnaryOperator}
use Rattle.wcps_text.specs.Token.{Tok, tok, toks}
use Rattle.wcps_text.specs.Tree.{Tree, unary}
use Rattle.wcps_text.proofs.Fronts.{behind}
use Rattle.wcps_parse.specs.Front.{prefix_at}
use Rattle.wcps_parse.specs.Prefixes.{IsBehind, none, next, wrapped}
use Rattle.wcps_parse.proofs.Words.{prefix_is}

nothing_before : (us : List Tok) (op : UnaryOperator) → prefix_at [] ≡ Some (op, us) → ⊥
nothing_before us op e = let front = (prefix_is [] us op e).at_front in absurd cc

one_more : (tokens : List Token) (n : ℕ) (op : UnaryOperator) (us : List Tok) → prefix_at (toks (drop n tokens)) ≡ Some (op, us) → us ≡ toks (drop (suc n) tokens)
one_more [] zero op us e = absurd (nothing_before us op e)
one_more [] (suc n) op us e = absurd (nothing_before us op e)
one_more (t ∷ ts) zero op us e = sym (behind (prefix_is (tok t ∷ toks ts) us op e).at_front)
one_more (t ∷ ts) (suc n) op us e = one_more ts n op us e

-- what `&tokens[i..]` is
abbrev pub from : List Token → ℕ → List Token
from tokens i = take (length tokens - i) (drop i tokens)

from_is : (tokens : List Token) (i n : ℕ) → i ≡ n → from tokens i ≡ drop n tokens
from_is tokens i n e = take_rest tokens i ∙ ap (λ (k : ℕ). drop k tokens) e

pub prefixed_more : (tokens : List Token) (i n k : ℕ) (front items : List UnaryOperator) (op : UnaryOperator) (us : List Tok) → prefix_at (toks (from tokens i)) ≡ Some (op, us) → i ≡ n → k ≡ n + 1 → items ≡ front ++ op ∷ []
    → ((ops : List UnaryOperator) (rest : List Tok) → IsBehind ops rest (toks (drop n tokens)) → IsBehind (front ++ ops) rest (toks tokens))
    → (ops : List UnaryOperator) (rest : List Tok) → IsBehind ops rest (toks (drop k tokens)) → IsBehind (items ++ ops) rest (toks tokens)
prefixed_more tokens i n k front items op us e at same pushed whole ops rest h =
    let here : prefix_at (toks (drop n tokens)) ≡ Some (op, us) = subst (λ (ts : List Token). prefix_at (toks ts) ≡ Some (op, us)) (from_is tokens i n at) e in
    let suc_is : k ≡ suc n = omega (arith, same) in
    let operators : IsBehind ops rest us = subst (λ (vs : List Tok). IsBehind ops rest vs) (sym (one_more tokens n op us here)) (subst (λ (j : ℕ). IsBehind ops rest (toks (drop j tokens))) suc_is h) in
    subst (λ (xs : List UnaryOperator). IsBehind xs rest (toks tokens)) (sym (ap (λ (xs : List UnaryOperator). xs ++ ops) pushed ∙ append_assoc front (op ∷ []) ops)) (whole (op ∷ ops) rest (next here operators))

pub prefixed_all : (tokens : List Token) (i j n : ℕ) (front : List UnaryOperator) → ((ops : List UnaryOperator) (rest : List Tok) → IsBehind ops rest (toks (drop n tokens)) → IsBehind (front ++ ops) rest (toks tokens))
    → prefix_at (toks (from tokens i)) ≡ None → i ≡ n → j ≡ n → IsBehind front (toks (from tokens j)) (toks tokens)
prefixed_all tokens i j n front whole e at again =
    let here : prefix_at (toks (drop n tokens)) ≡ None = subst (λ (ts : List Token). prefix_at (toks ts) ≡ None) (from_is tokens i n at) e in
    let all : IsBehind front (toks (drop n tokens)) (toks tokens) = subst (λ (xs : List UnaryOperator). IsBehind xs (toks (drop n tokens)) (toks tokens)) (append-nil front) (whole [] (toks (drop n tokens)) (none here)) in
    subst (λ (ts : List Token). IsBehind front (toks ts) (toks tokens)) (sym (from_is tokens j n again)) all

pub wrapped_last : (ops : List UnaryOperator) (op : UnaryOperator) (e : Tree) → wrapped (ops ++ op ∷ []) e ≡ wrapped ops (unary op e)
wrapped_last [] op e = refl
wrapped_last (p ∷ ops) op e = ap (unary p) (wrapped_last ops op e)
