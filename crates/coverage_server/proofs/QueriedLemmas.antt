-- A query is typed over the coverages that it names as it is over all.
use Rattle.std.proofs.Common.{◌≡◌, ◌⊎◌, ℕ, Bool, true, false, true≢false, cond, List, [], ◌∷◌, ◌++◌, Option, None, Some, Ok, Err, refl, sym, ap, ◌∙◌, subst, inl, inr}
use Rattle.std.specs.Prelude.{All, ◌||◌}
use Rattle.std.specs.Option.{option_or}
use Rattle.std.specs.List.{list_any}
use Rattle.std.specs.Str.{bytes_eq}
use Rattle.std.proofs.lemmas.List.Elements.{All-head, All-tail, All-weaker}
use Rattle.std.proofs.lemmas.List.Folds.{find-append}
use Rattle.std.proofs.lemmas.Option.{none-some, same_Some}
use Rattle.std.proofs.lemmas.Slice.Eq.{bytes_eq-Decides}
use Rattle.arr_core.specs.declared.signature.Signature.{Signature}
use Rattle.catalogue.specs.Signatures.{listed}
use Rattle.wcps_text.specs.declared.tree.Binding.{Binding}
use Rattle.wcps_text.specs.Tree.{BindingTree, QueryTree, binding_view, bindings_of}
use Rattle.wcps_types.specs.declared.refusal.TypeRefusal.TheVariants.{NameTaken}
use Rattle.wcps_types.specs.Names.{coverage_place}
use Rattle.wcps_types.specs.Shapes.{Answer, then_of}
use Rattle.wcps_types.specs.Bindings.{BindingTrees, Placed, PlacedAll, no_bindings, known_signature, added, place_or, is_bound, with_choice, resolved, resolved_all, with_binding, bound_from, few_combinations, combinations}
use Rattle.wcps_types.specs.Queries.{typ_each, within_limits}
use Rattle.coverage_server.specs.Named.{IsFoundIn, AreAmong, StayFound, IsTypedAlike}
use Rattle.coverage_server.proofs.TypedLemmas.{looked, place_found}

-- each name that stands for a variable is found
abbrev pub FindsNames : List Signature → List Signature → Binding → Type 0
FindsNames all some b = All (IsFoundIn all some) b.coverages.items

-- ---- typing looks at nothing but the names that a query lists

module _ (all some : List Signature) where
  looked_alike : (name : List ℕ) → IsFoundIn all some name → looked name some ≡ looked name all
  looked_alike name e = ap known_signature (place_found name some ∙ e ∙ sym (place_found name all))

  resolved_alike : (cs : List Signature) (name : List ℕ) → IsFoundIn all some name → resolved some cs name ≡ resolved all cs name
  resolved_alike cs name e =
      ap (λ (a : Answer Signature). place_or (coverage_place name cs) cs (then_of a (added cs))) (looked_alike name e)

  all_alike : (cs : List Signature) (places : List ℕ) (names : List (List ℕ)) → All (IsFoundIn all some) names
      → resolved_all some cs places names ≡ resolved_all all cs places names
  all_alike cs places [] h = refl
  all_alike cs places (x ∷ names) h =
      ap (λ (a : Answer Placed). then_of a (λ (p : Placed). resolved_all some p.coverages (places ++ p.place ∷ []) names))
      (resolved_alike cs x (All-head (IsFoundIn all some) x names h))
      ∙ by_placed (λ (p : Placed). all_alike p.coverages (places ++ p.place ∷ []) names (All-tail (IsFoundIn all some) x names h)) (resolved all cs x)
    where
      by_placed : ((p : Placed) → resolved_all some p.coverages (places ++ p.place ∷ []) names ≡ resolved_all all p.coverages (places ++ p.place ∷ []) names)
          → (a : Answer Placed)
          → then_of a (λ (p : Placed). resolved_all some p.coverages (places ++ p.place ∷ []) names)
          ≡ then_of a (λ (p : Placed). resolved_all all p.coverages (places ++ p.place ∷ []) names)
      by_placed rest (Err f) = refl
      by_placed rest (Ok p) = rest p

  binding_alike : (b : BindingTrees) (t : BindingTree) → All (IsFoundIn all some) t.coverages
      → with_binding some b t ≡ with_binding all b t
  binding_alike b t h =
      ap (λ (a : Answer PlacedAll). cond (is_bound t.variable b.choices) (Err NameTaken) (then_of a (with_choice t.variable b.choices)))
      (all_alike b.coverages [] t.coverages h)

  bound_alike : (b : BindingTrees) (list : List Binding) → All (FindsNames all some) list
      → bound_from some b (bindings_of list) ≡ bound_from all b (bindings_of list)
  bound_alike b [] h = refl
  bound_alike b (t ∷ list) h =
      ap (λ (a : Answer BindingTrees). then_of a (λ (c : BindingTrees). bound_from some c (bindings_of list)))
      (binding_alike b (binding_view t) (All-head (FindsNames all some) t list h))
      ∙ by_bound (λ (c : BindingTrees). bound_alike c list (All-tail (FindsNames all some) t list h)) (with_binding all b (binding_view t))
    where
      by_bound : ((c : BindingTrees) → bound_from some c (bindings_of list) ≡ bound_from all c (bindings_of list))
          → (a : Answer BindingTrees)
          → then_of a (λ (c : BindingTrees). bound_from some c (bindings_of list))
          ≡ then_of a (λ (c : BindingTrees). bound_from all c (bindings_of list))
      by_bound rest (Err f) = refl
      by_bound rest (Ok c) = rest c

pub typed_alike : (all some : List Signature) (q : QueryTree) (list : List Binding) → q.bindings ≡ bindings_of list
    → All (FindsNames all some) list → IsTypedAlike all some q
typed_alike all some q list is h =
    ap (λ (a : Answer BindingTrees). then_of a (λ (b : BindingTrees). then_of (few_combinations b.choices)
    (λ (n : ℕ). then_of (typ_each b.coverages q [] (combinations b.choices)) (within_limits b.coverages))))
    (subst (λ (l : List BindingTree). bound_from some no_bindings l ≡ bound_from all no_bindings l) (sym is) (bound_alike all some no_bindings list h))

-- ---- one name after the other

pub is_listed : (text : List ℕ) (list : List Signature) → list_any (λ (s : Signature). bytes_eq s.name text) list ≡ true → listed text list ≡ None → ⊥
is_listed text [] e none = true≢false (sym e)
is_listed text (s ∷ list) e none = by_test (is_listed text list) (bytes_eq s.name text) refl
  where
    or_rest : Bool → Bool
    or_rest c = c || list_any (λ (t : Signature). bytes_eq t.name text) list

    or_later : Bool → Option Signature
    or_later c = cond c (Some s) (listed text list)

    by_test : (list_any (λ (t : Signature). bytes_eq t.name text) list ≡ true → listed text list ≡ None → ⊥)
        → (b : Bool) → bytes_eq s.name text ≡ b → ⊥
    by_test rest true t = none-some s (sym none ∙ ap or_later t)
    by_test rest false t = rest (sym (ap or_rest t) ∙ e) (sym (ap or_later t) ∙ none)

-- what is found by a name has that name
listed_name : (text : List ℕ) (list : List Signature) (s : Signature) → listed text list ≡ Some s → bytes_eq s.name text ≡ true
listed_name text [] s e = absurd (none-some s e)
listed_name text (t ∷ list) s e = by_test (listed_name text list s) (bytes_eq t.name text) refl
  where
    or_later : Bool → Option Signature
    or_later c = cond c (Some t) (listed text list)

    by_test : (listed text list ≡ Some s → bytes_eq s.name text ≡ true) → (b : Bool) → bytes_eq t.name text ≡ b → bytes_eq s.name text ≡ true
    by_test rest true x = subst (λ (u : Signature). bytes_eq u.name text ≡ true) (same_Some t s (sym (ap or_later x) ∙ e)) x
    by_test rest false x = rest (sym (ap or_later x) ∙ e)

-- the signature that is found by a name among all is put behind some
module _ (all some : List Signature) (text : List ℕ) (s : Signature) (is : listed text all ≡ Some s) where
  -- what is found then
  after : (name : List ℕ) (o : Option Signature) (b : Bool) → listed name some ≡ o → bytes_eq s.name name ≡ b
      → listed name (some ++ s ∷ []) ≡ option_or o (cond b (Some s) None)
  after name o b x y =
      find-append (λ (t : Signature). bytes_eq t.name name) some (s ∷ [])
      ∙ ap (λ (p : Option Signature). option_or p (cond (bytes_eq s.name name) (Some s) None)) x
      ∙ ap (λ (c : Bool). option_or o (cond c (Some s) None)) y

  -- its name alone leads to it
  among_all : (name : List ℕ) → bytes_eq s.name name ≡ true → listed name all ≡ Some s
  among_all name t =
      let same : text ≡ name = sym ((bytes_eq-Decides s.name text).0 (listed_name text all s is)) ∙ (bytes_eq-Decides s.name name).0 t in
      subst (λ (n : List ℕ). listed n all ≡ Some s) same is

  pub push_stays : StayFound all some (some ++ s ∷ [])
  push_stays name h = by_found (listed name all) (bytes_eq s.name name) refl refl
    where
      by_found : (o : Option Signature) (b : Bool) → listed name all ≡ o → bytes_eq s.name name ≡ b → IsFoundIn all (some ++ s ∷ []) name
      by_found (Some x) b e t = after name (Some x) b (h ∙ e) t ∙ sym e
      by_found None true e t = absurd (none-some s (sym e ∙ among_all name t))
      by_found None false e t = after name None false (h ∙ e) t ∙ sym e

  pub push_among : AreAmong all some → AreAmong all (some ++ s ∷ [])
  push_among among name = by_found (bytes_eq s.name name) refl (among name)
    where
      by_found : (b : Bool) → bytes_eq s.name name ≡ b → (listed name some ≡ None) ⊎ IsFoundIn all some name
          → (listed name (some ++ s ∷ []) ≡ None) ⊎ IsFoundIn all (some ++ s ∷ []) name
      by_found b t (inr h) = inr (push_stays name h)
      by_found true t (inl h) = inr (after name None true h t ∙ sym (among_all name t))
      by_found false t (inl h) = inl (after name None false h t)

  pub push_finds : AreAmong all some → IsFoundIn all (some ++ s ∷ []) text
  push_finds among = by_found (among text)
    where
      by_found : (listed text some ≡ None) ⊎ IsFoundIn all some text → IsFoundIn all (some ++ s ∷ []) text
      by_found (inl h) = after text None true h (listed_name text all s is) ∙ sym is
      by_found (inr h) = push_stays text h

-- a name that is among them already
pub found_already : (all some : List Signature) (text : List ℕ) → AreAmong all some → list_any (λ (s : Signature). bytes_eq s.name text) some ≡ true → IsFoundIn all some text
found_already all some text among t = by_found (among text)
  where
    by_found : (listed text some ≡ None) ⊎ IsFoundIn all some text → IsFoundIn all some text
    by_found (inl h) = absurd (is_listed text some t h)
    by_found (inr h) = h

-- what stays found by each name of a list
pub names_stay : (all old new : List Signature) (names : List (List ℕ)) → StayFound all old new → All (IsFoundIn all old) names → All (IsFoundIn all new) names
names_stay all old new names stay h = All-weaker (IsFoundIn all old) (IsFoundIn all new) stay names h

pub bindings_stay : (all old new : List Signature) (list : List Binding) → StayFound all old new → All (FindsNames all old) list → All (FindsNames all new) list
bindings_stay all old new list stay h =
    All-weaker (FindsNames all old) (FindsNames all new) (λ b k. names_stay all old new b.coverages.items stay k) list h
