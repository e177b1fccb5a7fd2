-- The coverages of a typed query are those of the store, and it has a combination of them.
use Rattle.std.proofs.Common.{◌≡◌, ℕ, ◌≤◌, Bool, true, false, List, [], ◌∷◌, ◌++◌, length, map, cond, Option, None, Some, Ok, Err, refl, sym, ap, ◌∙◌, subst, arith, inl, inr, ◌<◌, get_or}
use Rattle.std.specs.Prelude.{All, IsSomeAnd, nat_lt, option_map, slice_get, ◌⊎◌}
use Rattle.std.specs.List.{position_or_len}
use Rattle.std.proofs.lemmas.List.Folds.{find_at}
use Rattle.std.proofs.lemmas.Option.{slice_get_cases}
use borrow.Author.Tests.{ltb-false}
use Rattle.catalogue.specs.Signatures.{listed}
use Rattle.coverage_server.proofs.StoreLemmas.{listed_alike}
use Rattle.std.specs.Str.{bytes_eq}
use Rattle.std.proofs.lemmas.List.Elements.{All-nil, All-push}
use Rattle.std.proofs.lemmas.Slice.Eq.{bytes_eq-Decides}
use Rattle.arr_core.specs.declared.signature.Signature.{Signature}
use Rattle.arr_core.specs.Stores.{Coverage, Store, found}
use Rattle.raster_store.specs.Calls.{signature_of}
use Rattle.wcps_text.specs.Tree.{QueryTree, BindingTree}
use Rattle.wcps_types.specs.Names.{coverage_place}
use Rattle.wcps_types.specs.Shapes.{Answer, then_of}
use Rattle.wcps_types.specs.Typed.{CombinationTree, TypedTree}
use Rattle.wcps_types.specs.Bindings as bindings
use Rattle.wcps_types.specs.Bindings.{BindingTrees, Placed, PlacedAll, no_bindings, signature_at, added, place_or, is_bound, resolved, resolved_all, with_binding, bound_from, few_combinations, combinations}
use Rattle.wcps_types.specs.declared.refusal.TypeRefusal.TheVariants.{TooMuchWork, ResultTooLarge}
use Rattle.wcps_types.specs.Cells.{result_cells, max_cells}
use Rattle.wcps_types.specs.Work.{query_work, max_work}
use Rattle.wcps_types.specs.Queries.{typ_query, typ_each, within_limits}
use Rattle.wcps_types.proofs.Gives.{Gives, gives-then, gives-cond}
use Rattle.wcps_types.proofs.Counted.{some-combinations}
use Rattle.coverage_server.specs.Views.{IsHeld}

-- the signature that a name is looked up as
abbrev pub looked : List ℕ → List Signature → Answer Signature
looked name signatures = bindings.known_signature (signature_at (coverage_place name signatures) signatures)

-- a signature with that name, which is that of the store's coverage
abbrev IsOf : Store → List ℕ → Signature → Type 0
IsOf store name s = (s.name ≡ name) × IsHeld store s

-- nothing stands past the end
slice_get_past : {X : Type 0} (xs : List X) (n : ℕ) → length xs ≤ n → slice_get xs n ≡ None
slice_get_past xs n past = by_cases (slice_get_cases xs n).1
  where
    by_cases : ((y : _) × (n < length xs) × (slice_get xs n ≡ Some y) × (get_or xs n y ≡ y)) ⊎ ((length xs ≤ n) × (slice_get xs n ≡ None)) → slice_get xs n ≡ None
    by_cases (inl c) = absurd (omega (arith, c.1, past))
    by_cases (inr c) = c.1

-- what is found by its name has that name
found_name : (name : List ℕ) (store : Store) (c : Coverage) → found name store ≡ Some c → c.name ≡ name
found_name name [] c e = absurd cc
found_name name (d ∷ store) c e = by_test (λ x. found_name name store c x) (bytes_eq d.name name) refl
  where
    by_test : (found name store ≡ Some c → c.name ≡ name) → (b : Bool) → bytes_eq d.name name ≡ b → c.name ≡ name
    by_test rest true t =
        let here : found name (d ∷ store) ≡ Some d = rw t refl in
        let same : d ≡ c = cc in ap (λ (x : Coverage). x.name) (sym same) ∙ (bytes_eq-Decides d.name name).0 t
    by_test rest false t = let later : found name (d ∷ store) ≡ found name store = rw t refl in rest (sym later ∙ e)

-- the place of a name leads to what is found by it
pub place_found : (name : List ℕ) (signatures : List Signature) → signature_at (coverage_place name signatures) signatures ≡ listed name signatures
place_found name signatures = by_test (nat_lt (position_or_len is_named signatures) (length signatures)) refl
  where
    is_named : Signature → Bool
    is_named s = bytes_eq s.name name

    by_test : (b : Bool) → nat_lt (position_or_len is_named signatures) (length signatures) ≡ b → signature_at (coverage_place name signatures) signatures ≡ listed name signatures
    by_test true t = rw t (sym (find_at is_named signatures))
    by_test false t =
        let past : length signatures ≤ position_or_len is_named signatures = ltb-false (position_or_len is_named signatures) (length signatures) t in
        rw t (sym (find_at is_named signatures ∙ slice_get_past signatures (position_or_len is_named signatures) past))

-- what a name is looked up as is that of the store's coverage with the name
looked_up : (store : Store) (name : List ℕ) → Gives (IsOf store name) (looked name (map signature_of store))
looked_up store name =
    subst (λ (o : Option Signature). Gives (IsOf store name) (bindings.known_signature o)) (sym (place_found name (map signature_of store) ∙ listed_alike name store))
    (by_found (found name store) refl)
  where
    by_found : (o : Option Coverage) → found name store ≡ o → Gives (IsOf store name) (bindings.known_signature (option_map signature_of o))
    by_found None e = tt
    by_found (Some c) e =
        let same = found_name name store c e in
        let held : IsHeld store (signature_of c) = subst (λ (o : Option Coverage). IsSomeAnd o (λ d. signature_of d ≡ signature_of c)) (sym (ap (λ x. found x store) same ∙ e)) refl in
        (same, held)

module _ (store : Store) where
  abbrev AreHeld : List Signature → Type 0
  AreHeld cs = All (IsHeld store) cs

  placed-held : (cs : List Signature) (name : List ℕ) (o : Option ℕ) (a : Answer Signature) → AreHeld cs → Gives (IsOf store name) a
      → Gives (λ (p : Placed). AreHeld p.coverages) (place_or o cs (then_of a (added cs)))
  placed-held cs name (Some k) a h x = h
  placed-held cs name None (Err f) h x = tt
  placed-held cs name None (Ok s) h x = All-push (IsHeld store) cs s h x.1

  all-held : (cs : List Signature) (places : List ℕ) (names : List (List ℕ)) → AreHeld cs
      → Gives (λ (p : PlacedAll). AreHeld p.coverages) (resolved_all (map signature_of store) cs places names)
  all-held cs places [] h = h
  all-held cs places (x ∷ names) h =
      gives-then (λ (p : Placed). AreHeld p.coverages) (λ (p : PlacedAll). AreHeld p.coverages) (resolved (map signature_of store) cs x) _
      (placed-held cs x (coverage_place x cs) (looked x (map signature_of store)) h (looked_up store x))
      (λ p k. all-held p.coverages (places ++ p.place ∷ []) names k)

  bound-held : (b : BindingTrees) (list : List BindingTree) → AreHeld b.coverages → Gives (λ (c : BindingTrees). AreHeld c.coverages) (bound_from (map signature_of store) b list)
  bound-held b [] h = h
  bound-held b (t ∷ list) h =
      gives-then (λ (c : BindingTrees). AreHeld c.coverages) (λ (c : BindingTrees). AreHeld c.coverages) (with_binding (map signature_of store) b t) _
      (gives-cond (λ (c : BindingTrees). AreHeld c.coverages) (is_bound t.variable b.choices) _ _ (λ _. tt)
      (λ _. gives-then (λ (p : PlacedAll). AreHeld p.coverages) (λ (c : BindingTrees). AreHeld c.coverages) (resolved_all (map signature_of store) b.coverages [] t.coverages) _ (all-held b.coverages [] t.coverages h) (λ p k. k)))
      (λ c k. bound-held c list k)

-- what the limits let through has those coverages and combinations
within : (P : List Signature → Type 0) (Q : List CombinationTree → Type 0) (cs : List Signature) (all : List CombinationTree) → P cs → Q all
    → Gives (λ (t : TypedTree). P t.coverages × Q t.combinations) (within_limits cs all)
within P Q cs all p q =
    gives-cond (λ (t : TypedTree). P t.coverages × Q t.combinations) (nat_lt max_cells (result_cells all)) (Err ResultTooLarge)
    (cond (nat_lt max_work (query_work all)) (Err TooMuchWork) (Ok (record { coverages = cs; combinations = all }))) (λ _. tt)
    (λ _. gives-cond (λ (t : TypedTree). P t.coverages × Q t.combinations) (nat_lt max_work (query_work all)) (Err TooMuchWork) (Ok (record { coverages = cs; combinations = all })) (λ _. tt) (λ _. (p, q)))

-- where a check gives something, it is such by what it is told to be
told : {A : Type 0} (P : A → Type 0) (a : Answer A) → ((x : A) → a ≡ Ok x → P x) → Gives P a
told P (Err f) h = tt
told P (Ok x) h = h x refl

-- of a typed query
pub typed : (store : Store) (q : QueryTree) (t : TypedTree) → typ_query (map signature_of store) q ≡ Ok t → All (IsHeld store) t.coverages × (1 ≤ length t.combinations)
typed store q t e =
    subst (Gives (λ (t : TypedTree). All (IsHeld store) t.coverages × (1 ≤ length t.combinations))) e
    (gives-then (λ (b : BindingTrees). All (IsHeld store) b.coverages) (λ (t : TypedTree). All (IsHeld store) t.coverages × (1 ≤ length t.combinations))
    (bound_from (map signature_of store) no_bindings q.bindings) _ (bound-held store no_bindings q.bindings (All-nil (IsHeld store)))
    (λ b held. gives-then (λ n. few_combinations b.choices ≡ Ok n) (λ (t : TypedTree). All (IsHeld store) t.coverages × (1 ≤ length t.combinations))
    (few_combinations b.choices) _ (told (λ n. few_combinations b.choices ≡ Ok n) (few_combinations b.choices) (λ n is. is))
    (λ n few. gives-then (λ (all : List CombinationTree). 1 ≤ length all) (λ (t : TypedTree). All (IsHeld store) t.coverages × (1 ≤ length t.combinations))
    (typ_each b.coverages q [] (combinations b.choices)) _
    (told (λ (all : List CombinationTree). 1 ≤ length all) (typ_each b.coverages q [] (combinations b.choices)) (λ all is. some-combinations b.coverages q b.choices n all few is))
    (λ all some. within (All (IsHeld store)) (λ (all : List CombinationTree). 1 ≤ length all) b.coverages all held some))))

pub typed-held : (store : Store) (q : QueryTree) (t : TypedTree) → typ_query (map signature_of store) q ≡ Ok t → All (IsHeld store) t.coverages
typed-held store q t e = (typed store q t e).0

pub typed-some : (store : Store) (q : QueryTree) (t : TypedTree) → typ_query (map signature_of store) q ≡ Ok t → 1 ≤ length t.combinations
typed-some store q t e = (typed store q t e).1
