-- Whole queries: what is read is spelled, what is spelled is read, and no tokens spell two.
use Rattle.std.proofs.Common.{◌≡◌, ℕ, List, [], ◌∷◌, Some, None, refl, sym, ap, subst, ◌∙◌, arith}
use Rattle.wcps_text.specs.declared.token.Symbol.TheVariants as signs
use Rattle.arr_core.specs.declared.keyword.Keyword.TheVariants as words
use Rattle.wcps_text.specs.Token.{Tok, word, sign}
use Rattle.wcps_text.specs.Tree as tree
use Rattle.wcps_text.specs.Tree.{Tree, Condition, always, only, BindingTree, ItemTree, QueryTree}
use Rattle.wcps_text.specs.Grammar as grammar
use Rattle.wcps_text.specs.Grammar.{max_rank, Spells, SpellsVariable, SpellsNames, SpellsBinding, SpellsBindings, IsFormat, SpellsReturn, SpellsEnd, IsSpelled}
use Rattle.wcps_parse.specs.Comes.{Comes}
use Rattle.wcps_parse.specs.Front.{sign_at, word_at, name_at, prefix_at, start_at}
use Rattle.wcps_parse.specs.Reading.{Reader, condition, level, names, binding_at, bindings, at_end, encoded, item, query}
use Rattle.wcps_parse.proofs.Options.{bind_ok, choose_ok, found_is}
use Rattle.wcps_parse.proofs.Coming.{comes_now, comes_then, comes_one, comes_first}
use Rattle.wcps_parse.proofs.Words.{sign_is, word_is, name_is, variable_is, format_is}
use Rattle.wcps_parse.proofs.Again.{sign_again, word_again, name_again, variable_again, format_again, stops_end, stops_comma, stops_return}
use Rattle.wcps_parse.proofs.Turns.{level_first, operand_post, post_first, prim_none}
use Rattle.wcps_parse.proofs.Listed.{Listed, last, others, separated_read, names_listed, bindings_listed, IsName}
use Rattle.wcps_parse.proofs.Sound.{IsSound}
use Rattle.wcps_parse.proofs.Levels.{level_read}
use Rattle.wcps_parse.proofs.Whole.{Come, come_now, separated_whole, no_comma_paren, no_comma_word, condition_always, condition_only, no_where_return, none_of}
use Rattle.wcps_parse.proofs.Complete.{follows, stopped, level_comes}

binding_read : (m : ℕ) (ts rest : List Tok) (b : BindingTree) → binding_at m ts ≡ Some (b, rest) → SpellsBinding ts b rest
unfolding binding_at names
binding_read m ts rest b h =
    let v = bind_ok _ _ _ h in
    let a = bind_ok _ _ _ v.2 in
    let start = bind_ok _ _ _ a.2 in
    let xs = bind_ok _ _ _ start.2 in
    let close = bind_ok _ _ _ xs.2 in
    let front : v.0.1 ≡ word words.In ∷ sign signs.LeftParen ∷ start.0 = word_is _ _ _ a.1 ∙ ap (λ (us : List Tok). word words.In ∷ us) (sign_is _ _ _ start.1) in
    let inside : SpellsNames start.0 xs.0.0 xs.0.1 = names_listed (separated_read signs.Comma IsName name_at name_is m start.0 xs.0.1 xs.0.0 xs.1) in
    subst (λ (p : BindingTree × List Tok). SpellsBinding ts p.0 p.1) (found_is (record { variable = v.0.0; coverages = xs.0.0 }, close.0) (b, rest) close.2)
    (grammar.stands_for (subst (λ (us : List Tok). SpellsVariable ts v.0.0 us) front (variable_is _ _ _ v.1)) (subst (λ (us : List Tok). SpellsNames start.0 xs.0.0 us) (sign_is _ _ _ close.1) inside))

bindings_read : (n m : ℕ) (ts rest : List Tok) (bs : List BindingTree) → bindings n m ts ≡ Some (bs, rest) → SpellsBindings ts bs rest
unfolding bindings
bindings_read n m ts rest bs h = bindings_listed (separated_read signs.Comma SpellsBinding (binding_at n) (binding_read n) m ts rest bs h)

record AtEnd {A : Type 0} (a b : A) (ts : List Tok) : Type 0 where
  same : a ≡ b
  none : ts ≡ []

at_end_is : {A : Type 0} (a b : A) (ts : List Tok) → at_end a ts ≡ Some b → AtEnd a b ts
at_end_is a b [] e = record { same = found_is a b e; none = refl }
at_end_is a b (t ∷ ts) e = absurd cc

encoded_read : (l : Reader) → IsSound l → (ts : List Tok) (i : ItemTree) → encoded l ts ≡ Some i → SpellsReturn (word words.Encode ∷ ts) i
unfolding encoded
encoded_read l sound ts i h =
    let start = bind_ok _ _ _ h in
    let e = bind_ok _ _ _ start.2 in
    let a = bind_ok _ _ _ e.2 in
    let b = bind_ok _ _ _ a.2 in
    let close = bind_ok _ _ _ b.2 in
    let end = at_end_is _ _ _ close.2 in
    let inside = sound.reads max_rank start.0 e.0.1 e.0.0 e.1 in
    let format = format_is _ _ b.1 in
    let closing : b.0 ≡ sign signs.RightParen ∷ [] = sign_is _ _ _ close.1 ∙ ap (λ (us : List Tok). sign signs.RightParen ∷ us) end.none in
    let after : e.0.1 ≡ sign signs.Comma ∷ format.token ∷ sign signs.RightParen ∷ [] =
    sign_is _ _ _ a.1 ∙ ap (λ (us : List Tok). sign signs.Comma ∷ us) (format.at_front ∙ ap (λ (us : List Tok). format.token ∷ us) closing) in
    let s : SpellsReturn (word words.Encode ∷ sign signs.LeftParen ∷ start.0) (tree.encode e.0.0) = grammar.encoded (subst (λ (us : List Tok). Spells inside.openness max_rank start.0 e.0.0 us) after inside.spelled) format.is_format in
    subst (λ (j : ItemTree). SpellsReturn (word words.Encode ∷ ts) j) end.same (subst (λ (us : List Tok). SpellsReturn (word words.Encode ∷ us) (tree.encode e.0.0)) (sym (sign_is _ _ _ start.1)) s)

item_read : (l : Reader) → IsSound l → (ts : List Tok) (i : ItemTree) → item l ts ≡ Some i → SpellsReturn ts i
unfolding item
item_read l sound ts i h =
    choose_ok _ _ _ _ h
    (λ none k.
    let e = bind_ok _ _ _ k in
    let end = at_end_is _ _ _ e.2 in
    let inside = sound.reads max_rank ts e.0.1 e.0.0 e.1 in
    subst (λ (j : ItemTree). SpellsReturn ts j) end.same (grammar.unencoded (subst (λ (us : List Tok). Spells inside.openness max_rank ts e.0.0 us) end.none inside.spelled)))
    (λ mid some k. subst (λ (us : List Tok). SpellsReturn us i) (sym (word_is _ _ _ some)) (encoded_read l sound mid i k))

end_read : (l : Reader) → IsSound l → (ts mid us : List Tok) (c : Condition) (i : ItemTree) → condition l ts ≡ Some (c, mid) → word_at words.Return mid ≡ Some us → SpellsReturn us i → SpellsEnd ts c i
unfolding condition
end_read l sound ts mid us c i h w s =
    choose_ok _ _ _ _ h
    (λ none k.
    let same = found_is (always, ts) (c, mid) k in
    subst (λ (d : Condition). SpellsEnd ts d i) (ap (λ (p : Condition × List Tok). p.0) same)
    (subst (λ (vs : List Tok). SpellsEnd vs always i) (sym (ap (λ (p : Condition × List Tok). p.1) same ∙ word_is _ _ _ w)) (grammar.for_all s)))
    (λ start some k.
    let x = bind_ok _ _ _ k in
    let same = found_is (only x.0.0, x.0.1) (c, mid) x.2 in
    let inside = sound.reads max_rank start x.0.1 x.0.0 x.1 in
    let tested = subst (λ (vs : List Tok). Spells inside.openness max_rank start x.0.0 vs) (ap (λ (p : Condition × List Tok). p.1) same ∙ word_is _ _ _ w) inside.spelled in
    subst (λ (d : Condition). SpellsEnd ts d i) (ap (λ (p : Condition × List Tok). p.0) same)
    (subst (λ (vs : List Tok). SpellsEnd vs (only x.0.0) i) (sym (word_is _ _ _ some)) (grammar.for_some tested s)))

pub query_read : (n m : ℕ) (ts : List Tok) (q : QueryTree) → query n m (level n) ts ≡ Some q → IsSpelled ts q
unfolding query
query_read n m ts q h =
    let sound = level_read n in
    let start = bind_ok _ _ _ h in
    let bs = bind_ok _ _ _ start.2 in
    let c = bind_ok _ _ _ bs.2 in
    let mid = bind_ok _ _ _ c.2 in
    let i = bind_ok _ _ _ mid.2 in
    let returned = item_read (level n) sound mid.0 i.0 i.1 in
    let end = end_read (level n) sound bs.0.1 c.0.1 mid.0 c.0.0 i.0 c.1 mid.1 returned in
    let s = grammar.query (bindings_read n m start.0 bs.0.1 bs.0.0 bs.1) end in
    subst (λ (p : QueryTree). IsSpelled ts p) (found_is (record { bindings = bs.0.0; condition = c.0.0; item = i.0 }) q i.2)
    (subst (λ (us : List Tok). IsSpelled us (record { bindings = bs.0.0; condition = c.0.0; item = i.0 })) (sym (word_is _ _ _ start.1)) s)

names_come : {ts rest : List Tok} {xs : List (List ℕ)} → SpellsNames ts xs rest → Listed signs.Comma (Come (λ n. name_at)) ts xs rest
names_come (grammar.last_name {x = x} {rest = rest}) = last (come_now (name_again x rest))
names_come (grammar.more_names {x = x} {ts = ts} s) = others (come_now (name_again x (sign signs.Comma ∷ ts))) (names_come s)

names_whole : {ts rest : List Tok} {xs : List (List ℕ)} → SpellsNames ts xs (sign signs.RightParen ∷ rest) → Comes (λ n m. names m ts) (Some (xs, sign signs.RightParen ∷ rest))
unfolding names
names_whole {rest = rest} s = separated_whole signs.Comma (λ n. name_at) (names_come s) (no_comma_paren rest)

binding_comes : {ts rest : List Tok} {b : BindingTree} → SpellsBinding ts b rest → Comes (λ n m. binding_at n ts) (Some (b, rest))
unfolding binding_at
binding_comes (grammar.stands_for {rest = rest} v xs) = rw (variable_again v, word_again, sign_again) (comes_then _ (comes_first (names_whole xs)) (rw sign_again (comes_now _)))

bindings_come : {ts rest : List Tok} {bs : List BindingTree} → SpellsBindings ts bs rest → Listed signs.Comma (Come (λ n. binding_at n)) ts bs rest
bindings_come (grammar.last_binding b) = last (binding_comes b)
bindings_come (grammar.more_bindings b bs) = others (binding_comes b) (bindings_come bs)

encode_starts_none : (rest : List Tok) → Comes (λ n m. level n max_rank (word words.Encode ∷ rest)) None
unfolding prefix_at start_at
encode_starts_none rest = level_first max_rank _ None None (operand_post _ None refl (post_first _ None None (prim_none _ refl) (comes_now _))) (comes_now _)

starts_encode : (ts us : List Tok) (e : Tree) → Comes (λ n m. level n max_rank ts) (Some (e, [])) → word_at words.Encode ts ≡ Some us → ⊥
starts_encode ts us e c h =
    let d = subst (λ (vs : List Tok). Comes (λ n m. level n max_rank vs) (Some (e, []))) (word_is _ _ _ h) c in
    let same = comes_one d (encode_starts_none us) in
    absurd cc

encoded_whole : (t : Tok) (ts : List Tok) (e : Tree) → Comes (λ n m. level n max_rank ts) (Some (e, sign signs.Comma ∷ t ∷ sign signs.RightParen ∷ [])) → IsFormat t → Comes (λ n m. encoded (level n) (sign signs.LeftParen ∷ ts)) (Some (tree.encode e))
unfolding encoded
encoded_whole t ts e c f = rw sign_again (comes_then _ c (rw (sign_again, format_again t (sign signs.RightParen ∷ []) f, sign_again) (comes_now _)))

item_comes : {ts : List Tok} {i : ItemTree} → SpellsReturn ts i → Comes (λ n m. item (level n) ts) (Some i)
unfolding item
item_comes (grammar.encoded {o = o} {t = t} {ts = ts} {e = e} s f) =
    let stops = stops_comma (t ∷ sign signs.RightParen ∷ []) in
    rw word_again (encoded_whole t ts e (stopped ts (sign signs.Comma ∷ t ∷ sign signs.RightParen ∷ []) e (level_comes s (follows o max_rank (sign signs.Comma ∷ t ∷ sign signs.RightParen ∷ []) stops)) stops) f)
item_comes (grammar.unencoded {o = o} {ts = ts} {e = e} s) =
    let c = stopped ts [] e (level_comes s (follows o max_rank [] stops_end)) stops_end in
    rw (none_of (word_at words.Encode ts) (λ us h. starts_encode ts us e c h)) (comes_then _ c (comes_now _))

record EndComes (ts : List Tok) (c : Condition) (i : ItemTree) : Type 0 where
  mid : List Tok
  no_comma : sign_at signs.Comma ts ≡ None
  tested : Comes (λ n m. condition (level n) ts) (Some (c, word words.Return ∷ mid))
  returned : Comes (λ n m. item (level n) mid) (Some i)

end_comes : {ts : List Tok} {c : Condition} {i : ItemTree} → SpellsEnd ts c i → EndComes ts c i
end_comes (grammar.for_all {ts = ts} s) = record { mid = ts; no_comma = no_comma_word words.Return ts; tested = condition_always (word words.Return ∷ ts) (no_where_return ts); returned = item_comes s }
end_comes (grammar.for_some {o = o} {ts = ts} {mid = mid} {c = c} s r) =
    let stops = stops_return mid in
    record {
      mid = mid;
      no_comma = no_comma_word words.Where ts;
      tested = condition_only ts (word words.Return ∷ mid) c (stopped ts (word words.Return ∷ mid) c (level_comes s (follows o max_rank (word words.Return ∷ mid) stops)) stops);
      returned = item_comes r;
    }

bindings_whole : {ts rest : List Tok} {bs : List BindingTree} → SpellsBindings ts bs rest → sign_at signs.Comma rest ≡ None → Comes (λ n m. bindings n m ts) (Some (bs, rest))
unfolding bindings
bindings_whole s e = separated_whole signs.Comma (λ n. binding_at n) (bindings_come s) e

pub query_comes : {ts : List Tok} {q : QueryTree} → IsSpelled ts q → Comes (λ n m. query n m (level n) ts) (Some q)
unfolding query
query_comes (grammar.query bs s) =
    let end = end_comes s in
    rw word_again (comes_then _ (bindings_whole bs end.no_comma) (comes_then _ end.tested (rw word_again (comes_then _ end.returned (comes_now _)))))

pub comes_spelled : (ts : List Tok) (q : QueryTree) → Comes (λ n m. query n m (level n) ts) (Some q) → IsSpelled ts q
comes_spelled ts q c = query_read c.from c.from ts q (c.there c.from c.from (omega arith) (omega arith))

pub none_spelled : (ts : List Tok) (q : QueryTree) → Comes (λ n m. query n m (level n) ts) None → IsSpelled ts q → ⊥
none_spelled ts q c s = let same = comes_one c (query_comes s) in absurd cc

-- no tokens spell two queries
pub one_spelled : (ts : List Tok) (p q : QueryTree) → IsSpelled ts p → IsSpelled ts q → p ≡ q
one_spelled ts p q s t = found_is p q (comes_one (query_comes s) (query_comes t))
