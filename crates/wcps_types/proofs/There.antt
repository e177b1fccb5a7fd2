-- The coverages that the variables of a query stand for are there.
use Rattle.std.proofs.Common.{◌≡◌, ℕ, zero, suc, ◌/◌, ◌%◌, ◌<◌, ◌≤◌, List, [], ◌∷◌, ◌++◌, length, refl, subst, arith, length-append}
use Rattle.std.specs.Prelude.{Option, Some, None, slice_index, Ok, Err}
use Rattle.std.specs.Str.{bytes_eq}
use Rattle.std.proofs.Math.Nat.{mod-lt}
use Rattle.std.proofs.lemmas.Nat.{div_below}
use Rattle.std.proofs.lemmas.List.Quantifiers.{position-Some}
use Rattle.arr_core.specs.declared.signature.Signature.{Signature}
use Rattle.wcps_text.specs.Tree.{BindingTree}
use Rattle.wcps_types.specs.Names.{coverage_place}
use Rattle.wcps_types.specs.Shapes.{Answer, then_of}
use Rattle.wcps_types.specs.Bindings.{ChoiceTree, BindingTrees, Placed, PlacedAll, no_bindings, signature_at, known_signature, added, place_or, resolved, resolved_all, is_bound, with_binding, bound_from, combination_count, combination_at}
use Rattle.wcps_types.specs.Sharing.{coverages_in, AreBelow, ChoicesAreBelow}
use Rattle.wcps_types.proofs.Gives.{Gives, gives-then, gives-cond}
use Rattle.wcps_types.proofs.Choices.{right_positive}

below-more : (n m : ℕ) (places : List ℕ) → n ≤ m → AreBelow n places → AreBelow m places
below-more n m [] le h = tt
below-more n m (k ∷ places) le h = (omega (arith, le, h.0), below-more n m places le h.1)

below-last : (n : ℕ) (places : List ℕ) (k : ℕ) → AreBelow n places → k < n → AreBelow n (places ++ k ∷ [])
below-last n [] k h lt = (lt, tt)
below-last n (j ∷ places) k h lt = (h.0, below-last n places k h.1 lt)

choices-more : (n m : ℕ) (choices : List ChoiceTree) → n ≤ m → ChoicesAreBelow n choices → ChoicesAreBelow m choices
choices-more n m [] le h = tt
choices-more n m (c ∷ choices) le h = (below-more n m c.coverages le h.0, choices-more n m choices le h.1)

choices-last : (n : ℕ) (choices : List ChoiceTree) (c : ChoiceTree) → ChoicesAreBelow n choices → AreBelow n c.coverages → ChoicesAreBelow n (choices ++ c ∷ [])
choices-last n [] c h k = (k, tt)
choices-last n (d ∷ choices) c h k = (h.0, choices-last n choices c h.1 k)

abbrev OneThere : List Signature → Placed → Type 0
OneThere cs p = (p.place < length p.coverages) × (length cs ≤ length p.coverages)

abbrev AllThere : List Signature → PlacedAll → Type 0
AllThere cs p = AreBelow (length p.coverages) p.places × (length cs ≤ length p.coverages)

abbrev ChoicesThere : BindingTrees → Type 0
ChoicesThere b = ChoicesAreBelow (length b.coverages) b.choices

place-below : (name : List ℕ) (cs : List Signature) (k : ℕ) → coverage_place name cs ≡ Some k → k < length cs
place-below name cs k e = (position-Some (λ (s : Signature). bytes_eq s.name name) cs k (record { name = []; domain = []; fields = [] }) e).0

placed-there : (cs : List Signature) (name : List ℕ) (o : Option ℕ) (a : Answer Signature) → coverage_place name cs ≡ o → Gives (OneThere cs) (place_or o cs (then_of a (added cs)))
placed-there cs name (Some k) a e = (place-below name cs k e, omega arith)
placed-there cs name None (Err f) e = tt
placed-there cs name None (Ok s) e = (omega (arith, length-append cs (s ∷ [])), omega (arith, length-append cs (s ∷ [])))

resolved-there : (signatures cs : List Signature) (name : List ℕ) → Gives (OneThere cs) (resolved signatures cs name)
resolved-there signatures cs name = placed-there cs name (coverage_place name cs) (known_signature (signature_at (coverage_place name signatures) signatures)) refl

all-there : (signatures cs : List Signature) (start : ℕ) (places : List ℕ) (names : List (List ℕ)) → AreBelow (length cs) places → start ≤ length cs
    → Gives (λ (p : PlacedAll). AreBelow (length p.coverages) p.places × (start ≤ length p.coverages)) (resolved_all signatures cs places names)
all-there signatures cs start places [] h le = (h, le)
all-there signatures cs start places (x ∷ names) h le =
    gives-then (OneThere cs) (λ (p : PlacedAll). AreBelow (length p.coverages) p.places × (start ≤ length p.coverages)) (resolved signatures cs x) _ (resolved-there signatures cs x)
    (λ p k. all-there signatures p.coverages start (places ++ p.place ∷ []) names (below-last (length p.coverages) places p.place (below-more (length cs) (length p.coverages) places k.1 h) k.0) (omega (arith, le, k.1)))

binding-there : (signatures : List Signature) (b : BindingTrees) (t : BindingTree) → ChoicesThere b → Gives ChoicesThere (with_binding signatures b t)
binding-there signatures b t h =
    gives-cond ChoicesThere (is_bound t.variable b.choices) _ _ (λ _. tt)
    (λ _. gives-then (AllThere b.coverages) ChoicesThere (resolved_all signatures b.coverages [] t.coverages) _ (all-there signatures b.coverages (length b.coverages) [] t.coverages tt (omega arith))
    (λ p k. choices-last (length p.coverages) b.choices (record { variable = t.variable; coverages = p.places }) (choices-more (length b.coverages) (length p.coverages) b.choices k.1 h) k.0))

bound-there : (signatures : List Signature) (b : BindingTrees) (list : List BindingTree) → ChoicesThere b → Gives ChoicesThere (bound_from signatures b list)
bound-there signatures b [] h = h
bound-there signatures b (t ∷ list) h =
    gives-then ChoicesThere ChoicesThere (with_binding signatures b t) _ (binding-there signatures b t h) (λ c k. bound-there signatures c list k)

-- of a whole `for` list
pub choices-there : (signatures : List Signature) (list : List BindingTree) (b : BindingTrees) → bound_from signatures no_bindings list ≡ Ok b → ChoicesAreBelow (length b.coverages) b.choices
choices-there signatures list b e = subst (Gives ChoicesThere) e (bound-there signatures no_bindings list tt)

index-below : (n : ℕ) (places : List ℕ) (k : ℕ) → AreBelow n places → k < length places → slice_index places k < n
index-below n [] k h lt = absurd (omega (arith, lt))
index-below n (p ∷ places) zero h lt = h.0
index-below n (p ∷ places) (suc k) h lt = index-below n places k h.1 (omega (arith, lt))

-- of one combination
pub combination-there : (n : ℕ) (choices : List ChoiceTree) (k : ℕ) → ChoicesAreBelow n choices → k < combination_count choices → AreBelow n (coverages_in (combination_at choices k))
combination-there n [] k h lt = tt
combination-there n (c ∷ choices) k h lt =
    let size = combination_count choices in
    let some : 0 < size = right_positive (length c.coverages) size k lt in
    (index-below n c.coverages (k / size) h.0 (div_below k size (length c.coverages) some lt), combination-there n choices (k % size) h.1 (mod-lt k some))
