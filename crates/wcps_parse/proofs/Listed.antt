-- Lists with a separator.
use Rattle.std.proofs.Common.{◌≡◌, ℕ, zero, suc, List, [], ◌∷◌, ◌++◌, append_assoc, Some, refl, sym, subst, ◌∙◌}
use Rattle.wcps_text.specs.declared.token.Symbol.{Symbol}
use Rattle.wcps_text.specs.declared.token.Symbol.TheVariants as signs
use Rattle.wcps_text.specs.declared.tree.ListItem.{ListItem}
use Rattle.wcps_text.specs.Token.{Tok, name, sign}
use Rattle.wcps_text.specs.Tree.{BindingTree}
use Rattle.wcps_text.specs.Grammar.{SpellsPart, SpellsParts, last_part, more_parts, SpellsSub, SpellsSubs, last_sub, more_subs, SpellsIter, SpellsIters, last_iter, more_iters, SpellsItem, SpellsItems, last_item, more_items, SpellsNames, last_name, more_names, SpellsBinding, SpellsBindings, last_binding, more_bindings}
use Rattle.wcps_parse.specs.Front.{Reading}
use Rattle.wcps_parse.specs.Reading.{more, separated, NamedTree, NamedPlace, NamedInterval, parts_from, subs_from, iters_from}
use Rattle.wcps_parse.proofs.Options.{bind_ok, choose_ok, found_is}
use Rattle.wcps_parse.proofs.Words.{sign_is}

-- one thing, or more with a separator between them
pub data Listed {A : Type 0} (s : Symbol) (P : List Tok → A → List Tok → Type 0) : List Tok → List A → List Tok → Type 0 where
  last : {ts rest : List Tok} {x : A} → P ts x rest → Listed s P ts (x ∷ []) rest
  others : {ts after rest : List Tok} {x : A} {xs : List A} → P ts x (sign s ∷ after) → Listed s P after xs rest → Listed s P ts (x ∷ xs) rest

record HasMore {A : Type 0} (s : Symbol) (P : List Tok → A → List Tok → Type 0) (front xs : List A) (ts rest : List Tok) : Type 0 where
  behind : List A
  whole : xs ≡ front ++ behind
  spelled : Listed s P ts behind rest

more_read : {A : Type 0} (s : Symbol) (P : List Tok → A → List Tok → Type 0) (f : List Tok → Reading A) → ((ts rest : List Tok) (x : A) → f ts ≡ Some (x, rest) → P ts x rest)
    → (m : ℕ) (front xs : List A) (x : A) (ts0 ts rest : List Tok) → P ts0 x ts → more s f m (front ++ x ∷ []) ts ≡ Some (xs, rest) → HasMore s P front xs ts0 rest
unfolding more
more_read s P f each zero front xs x ts0 ts rest p e = absurd cc
more_read {A} s P f each (suc m) front xs x ts0 ts rest p e =
    choose_ok _ _ _ _ e
    (λ none h. subst (λ (q : List A × List Tok). HasMore s P front q.0 ts0 q.1) (found_is (front ++ x ∷ [], ts) (xs, rest) h) (record { behind = x ∷ []; whole = refl; spelled = last p }))
    (λ us some h.
    let next = bind_ok _ _ _ h in
    let r = more_read s P f each m (front ++ x ∷ []) xs next.0.0 us next.0.1 rest (each us next.0.1 next.0.0 next.1) next.2 in
    record {
      behind = x ∷ r.behind;
      whole = r.whole ∙ append_assoc front (x ∷ []) r.behind;
      spelled = others (subst (λ (vs : List Tok). P ts0 x vs) (sign_is _ _ _ some) p) r.spelled;
    })

pub separated_read : {A : Type 0} (s : Symbol) (P : List Tok → A → List Tok → Type 0) (f : List Tok → Reading A) → ((ts rest : List Tok) (x : A) → f ts ≡ Some (x, rest) → P ts x rest)
    → (m : ℕ) (ts rest : List Tok) (xs : List A) → separated s f m ts ≡ Some (xs, rest) → Listed s P ts xs rest
unfolding separated
separated_read s P f each m ts rest xs e =
    let first = bind_ok _ _ _ e in
    let r = more_read s P f each m [] xs first.0.0 ts first.0.1 rest (each ts first.0.1 first.0.0 first.1) first.2 in
    subst (λ ys. Listed s P ts ys rest) (sym r.whole) r.spelled

-- each list of the language
abbrev pub IsPart : List Tok → NamedTree → List Tok → Type 0
IsPart ts p rest = SpellsPart ts p.0 p.1 rest

abbrev pub IsSub : List Tok → NamedPlace → List Tok → Type 0
IsSub ts s rest = SpellsSub ts s.0 s.1 rest

abbrev pub IsIter : List Tok → NamedInterval → List Tok → Type 0
IsIter ts i rest = SpellsIter ts i.0 i.1 i.2 rest

abbrev pub IsName : List Tok → List ℕ → List Tok → Type 0
IsName ts x rest = ts ≡ name x ∷ rest

pub parts_listed : {ts rest : List Tok} {ps : List NamedTree} → Listed signs.Semicolon IsPart ts ps rest → SpellsParts ts (parts_from ps) rest
parts_listed (last p) = last_part p
parts_listed (others p ps) = more_parts p (parts_listed ps)

pub subs_listed : {ts rest : List Tok} {ss : List NamedPlace} → Listed signs.Comma IsSub ts ss rest → SpellsSubs ts (subs_from ss) rest
subs_listed (last s) = last_sub s
subs_listed (others s ss) = more_subs s (subs_listed ss)

pub iters_listed : {ts rest : List Tok} {is : List NamedInterval} → Listed signs.Comma IsIter ts is rest → SpellsIters ts (iters_from is) rest
iters_listed (last i) = last_iter i
iters_listed (others i is) = more_iters i (iters_listed is)

pub items_listed : {ts rest : List Tok} {xs : List ListItem} → Listed signs.Semicolon SpellsItem ts xs rest → SpellsItems ts xs rest
items_listed (last x) = last_item x
items_listed (others x xs) = more_items x (items_listed xs)

pub bindings_listed : {ts rest : List Tok} {bs : List BindingTree} → Listed signs.Comma SpellsBinding ts bs rest → SpellsBindings ts bs rest
bindings_listed (last b) = last_binding b
bindings_listed (others b bs) = more_bindings b (bindings_listed bs)

pub names_listed : {ts rest : List Tok} {xs : List (List ℕ)} → Listed signs.Comma IsName ts xs rest → SpellsNames ts xs rest
names_listed (last {rest = rest} {x = x} e) = subst (λ (us : List Tok). SpellsNames us (x ∷ []) rest) (sym e) last_name
names_listed (others {rest = rest} {x = x} {xs = xs} e more) = subst (λ (us : List Tok). SpellsNames us (x ∷ xs) rest) (sym e) (more_names (names_listed more))
