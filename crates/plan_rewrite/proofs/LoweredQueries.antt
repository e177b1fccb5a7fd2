-- A lowered query gives the query's answer, is well-formed, and has its units within the work: each combination has the
-- steps of its tree.
use Rattle.std.proofs.Common.{◌≡◌, ℕ, zero, suc, ◌+◌, ◌*◌, ◌^◌, ◌<◌, ◌≤◌, List, [], ◌∷◌, ◌++◌, length, map, refl, sym, ap, ◌∙◌, subst, arith, ℤ, take, Result, Ok, Err}
use Rattle.std.specs.Prelude.{Option, Some, None, slice_get, option_map, IsSomeAnd, All, sum_by}
use Rattle.std.proofs.lemmas.List.{length-map, map-append}
use Rattle.std.proofs.lemmas.List.Sums.{sum_by-cons}
use Rattle.arr_core.specs.declared.signature.Signature.{Signature}
use Rattle.wcps_types.specs.declared.typed.Tree.{Tree}
use Rattle.wcps_types.specs.declared.typed_query.Combination.{Combination}
use Rattle.wcps_types.specs.Typed.{CombinationTree, tree_view}
use Rattle.wcps_types.specs.Renamed.{over, combination_view}
use Rattle.wcps_types.specs.WellTyped.{CombinationIsTyped, AreTyped}
use Rattle.wcps_types.specs.Work.{query_work, max_work}
use Rattle.wcps_types.proofs.SharedEfforts.{work_over}
use Rattle.wcps_mean.specs.declared.cell.PointFault.{PointFault}
use Rattle.wcps_mean.specs.declared.item.Item.{Item}
use Rattle.wcps_mean.specs.Answer.{then_of, joined, combination_answer}
use Rattle.plan_ir.specs.Plans.{StepsTree, Choice, PlanTree, signature_of}
use Rattle.plan_ir.specs.Placed.{AreSteps, IsPlan}
use Rattle.plan_ir.specs.Planned.{choice_planned, planned}
use Rattle.plan_ir.specs.Units.{steps_units, units}
use Rattle.plan_ir.proofs.Parts.{slice_get-map}
use Rattle.plan_ir.specs.FoldPoints.{steps_folds, fold_points, unit_bound}
use Rattle.plan_rewrite.specs.LoweredPlans.{lowered_tree, StandsFor, IsLowered, AreLowered, lowered_choice, lowered_choices}
use Rattle.plan_rewrite.proofs.LoweredPlans.{tree-means, tree-placed}
use Rattle.plan_rewrite.proofs.LoweredWork.{tree-within}

-- the steps of a tree stand for it
pub stands : (t : Tree) → StandsFor (tree_view t) (lowered_tree t)
stands t = record {
  planned = λ s ks. tree-means t ks s;
  placed = λ cs ks typed. tree-placed t cs ks typed;
  within = tree-within t;
}

-- where there is a tree, its steps are those of the place
pub lowered-tree-at : (o : Option Tree) (p : Option CombinationTree) (t : Tree) → option_map tree_view o ≡ p → o ≡ Some t → (u : StepsTree) → u ≡ lowered_tree t → IsLowered p (Some u)
lowered-tree-at o p t e is u f =
    let at : Some (tree_view t) ≡ p = sym (ap (option_map tree_view) is) ∙ e in
    subst (λ v. IsLowered p (Some v)) (sym f) (subst (λ q. IsLowered q (Some (lowered_tree t))) at (stands t))

lowered-at : (trees : List CombinationTree) (steps : List StepsTree) (k : ℕ) → AreLowered trees steps → IsLowered (slice_get trees k) (slice_get steps k)
lowered-at [] [] k h = tt
lowered-at [] (t ∷ steps) k h = absurd h
lowered-at (c ∷ trees) [] k h = absurd h
lowered-at (c ∷ trees) (t ∷ steps) zero h = h.0
lowered-at (c ∷ trees) (t ∷ steps) (suc k) h = lowered-at trees steps k h.1

pub as-many : (trees : List CombinationTree) (steps : List StepsTree) → AreLowered trees steps → length steps ≡ length trees
as-many [] [] h = refl
as-many [] (t ∷ steps) h = absurd h
as-many (c ∷ trees) [] h = absurd h
as-many (c ∷ trees) (t ∷ steps) h = ap suc (as-many trees steps h.1)

-- the first steps, and those of the next tree, if there is one
pub lowered-next : (trees : List CombinationTree) (steps : List StepsTree) (t : StepsTree) → AreLowered (take (length steps) trees) steps → IsLowered (slice_get trees (length steps)) (Some t)
    → AreLowered (take (length (steps ++ t ∷ [])) trees) (steps ++ t ∷ [])
lowered-next [] [] t h is = absurd is
lowered-next (c ∷ trees) [] t h is = (is, tt)
lowered-next [] (u ∷ steps) t h is = absurd h
lowered-next (c ∷ trees) (u ∷ steps) t h is = (h.0, lowered-next trees steps t h.1 is)

pub lowered-all : (trees : List CombinationTree) (steps : List StepsTree) → AreLowered (take (length steps) trees) steps → IsLowered (slice_get trees (length steps)) None → AreLowered trees steps
lowered-all [] [] h is = tt
lowered-all (c ∷ trees) [] h is = absurd is
lowered-all [] (u ∷ steps) h is = absurd h
lowered-all (c ∷ trees) (u ∷ steps) h is = (h.0, lowered-all trees steps h.1 is)

-- the steps of one more tree
pub lowered-more : {X : Type 0} (view : X → StepsTree) (trees : List CombinationTree) (list new : List X) (o : Option X) (x : X) (k : ℕ) → IsLowered (slice_get trees k) (option_map view o) → o ≡ Some x → k ≡ length list
    → new ≡ list ++ x ∷ [] → AreLowered (take (length (map view list)) trees) (map view list) → AreLowered (take (length (map view new)) trees) (map view new)
lowered-more view trees list new o x k is there many more h =
    let at : IsLowered (slice_get trees k) (Some (view x)) = subst (λ p. IsLowered (slice_get trees k) (option_map view p)) there is in
    let next : IsLowered (slice_get trees (length (map view list))) (Some (view x)) = subst (λ n. IsLowered (slice_get trees n) (Some (view x))) (many ∙ sym (length-map list view)) at in
    subst (λ l. AreLowered (take (length (map view l)) trees) (map view l)) (sym more)
    (subst (λ (l : List StepsTree). AreLowered (take (length l) trees) l) (sym (map-append view list (x ∷ []))) (lowered-next trees (map view list) (view x) h next))

-- where there is no further tree, these are all
pub lowered-ended : {X : Type 0} (view : X → StepsTree) (trees : List CombinationTree) (list : List X) (o : Option X) (k : ℕ) → IsLowered (slice_get trees k) (option_map view o) → o ≡ None → k ≡ length list
    → AreLowered (take (length (map view list)) trees) (map view list) → AreLowered trees (map view list)
lowered-ended view trees list o k is there many h =
    let at : IsLowered (slice_get trees k) None = subst (λ p. IsLowered (slice_get trees k) (option_map view p)) there is in
    lowered-all trees (map view list) h (subst (λ n. IsLowered (slice_get trees n) None) (many ∙ sym (length-map list view)) at)

choice-map : {X Y : Type 0} (f : X → Y) (o : Option X) (c : Combination) → lowered_choice (option_map f o) c ≡ lowered_choice o c
choice-map f None c = refl
choice-map f (Some x) c = refl

pub choices-map : {X Y : Type 0} (f : X → Y) (steps : List X) (all : List Combination) → lowered_choices (map f steps) all ≡ lowered_choices steps all
choices-map f steps [] = refl
choices-map f steps (c ∷ all) =
    ap (λ (l : List Choice). l ++ lowered_choices (map f steps) all) (ap (λ o. lowered_choice o c) (slice_get-map f steps c.tree) ∙ choice-map f (slice_get steps c.tree) c)
    ∙ ap (λ (l : List Choice). lowered_choice (slice_get steps c.tree) c ++ l) (choices-map f steps all)

-- what the combinations of a plan give, one by one
abbrev each : (ℕ → ℕ → List ℤ → ℤ) → List StepsTree → List Choice → List (Result (List Item) PointFault)
each s steps all = map (λ (c : Choice). choice_planned s c.coverages (slice_get steps c.steps)) all

then-same : (r : Result (List Item) PointFault) → r ≡ then_of r (λ ys. Ok ys)
then-same (Ok ys) = refl
then-same (Err f) = refl

one-means : (o : Option CombinationTree) (p : Option StepsTree) → IsLowered o p → (steps : List StepsTree) (c : Combination) (rest : List Choice) (s : ℕ → ℕ → List ℤ → ℤ) → slice_get steps c.tree ≡ p
    → joined (each s steps (lowered_choice p c ++ rest)) ≡ then_of (combination_answer s (over c.coverages.items o)) (λ xs. then_of (joined (each s steps rest)) (λ ys. Ok (xs ++ ys)))
one-means None None b steps c rest s e = then-same (joined (each s steps rest))
one-means None (Some t) b steps c rest s e = absurd b
one-means (Some x) None b steps c rest s e = absurd b
one-means (Some x) (Some t) b steps c rest s e =
    ap (λ r. then_of r (λ xs. then_of (joined (each s steps rest)) (λ ys. Ok (xs ++ ys)))) (ap (choice_planned s c.coverages.items) e ∙ b.planned s c.coverages.items)

choices-mean : (all : List Combination) (trees : List CombinationTree) (steps : List StepsTree) (s : ℕ → ℕ → List ℤ → ℤ) → AreLowered trees steps
    → joined (each s steps (lowered_choices steps all)) ≡ joined (map (combination_answer s) (map (combination_view trees) all))
choices-mean [] trees steps s h = refl
choices-mean (c ∷ all) trees steps s h =
    one-means (slice_get trees c.tree) (slice_get steps c.tree) (lowered-at trees steps c.tree h) steps c (lowered_choices steps all) s refl
    ∙ ap (λ (r : Result (List Item) PointFault). then_of (combination_answer s (combination_view trees c)) (λ xs. then_of r (λ ys. Ok (xs ++ ys)))) (choices-mean all trees steps s h)

abbrev pub plan_of : List Signature → List StepsTree → List Choice → PlanTree
plan_of cs steps all = record { coverages = cs; steps = steps; combinations = all }

-- the plan gives the answer
pub query-means : (cs : List Signature) (trees : List CombinationTree) (steps : List StepsTree) (all : List Combination) (s : ℕ → ℕ → List ℤ → ℤ) → AreLowered trees steps
    → planned s (plan_of cs steps (lowered_choices steps all)) ≡ joined (map (combination_answer s) (map (combination_view trees) all))
query-means cs trees steps all s h = choices-mean all trees steps s h

all-more : (P : Choice → Type 0) (x : Choice) (xs : List Choice) → P x → All P xs → All P (x ∷ xs)
all-more P x xs h a zero d lt = h
all-more P x xs h a (suc k) d lt = a k d (omega (arith, lt))

abbrev Stands : List Signature → List StepsTree → Choice → Type 0
Stands cs steps c = IsSomeAnd (slice_get steps c.steps) (AreSteps (signature_of cs c.coverages))

one-placed : (o : Option CombinationTree) (p : Option StepsTree) → IsLowered o p → (cs : List Signature) (steps : List StepsTree) (c : Combination) (rest : List Choice) → slice_get steps c.tree ≡ p
    → CombinationIsTyped cs (over c.coverages.items o) → All (Stands cs steps) rest → All (Stands cs steps) (lowered_choice p c ++ rest)
one-placed None None b cs steps c rest e t h = h
one-placed None (Some u) b cs steps c rest e t h = absurd b
one-placed (Some x) None b cs steps c rest e t h = absurd b
one-placed (Some x) (Some u) b cs steps c rest e t h =
    let ks = c.coverages.items in
    all-more (Stands cs steps) (record { steps = c.tree; coverages = ks }) rest (subst (λ o. IsSomeAnd o (AreSteps (signature_of cs ks))) (sym e) (b.placed cs ks t)) h

choices-placed : (all : List Combination) (cs : List Signature) (trees : List CombinationTree) (steps : List StepsTree) → AreLowered trees steps → AreTyped cs (map (combination_view trees) all)
    → All (Stands cs steps) (lowered_choices steps all)
choices-placed [] cs trees steps h t = λ k d lt. absurd (omega (arith, lt))
choices-placed (c ∷ all) cs trees steps h t =
    one-placed (slice_get trees c.tree) (slice_get steps c.tree) (lowered-at trees steps c.tree h) cs steps c (lowered_choices steps all) refl t.0 (choices-placed all cs trees steps h t.1)

abbrev units_at : List StepsTree → Choice → ℕ
units_at steps c = steps_units (slice_get steps c.steps)

abbrev folds_at : List StepsTree → Choice → ℕ
folds_at steps c = steps_folds (slice_get steps c.steps)

abbrev units_in : List StepsTree → List Choice → ℕ
units_in steps all = sum_by (units_at steps) all

abbrev folds_in : List StepsTree → List Choice → ℕ
folds_in steps all = sum_by (folds_at steps) all

one-within : (o : Option CombinationTree) (p : Option StepsTree) → IsLowered o p → (steps : List StepsTree) (c : Combination) (rest : List Choice) (n : ℕ) → slice_get steps c.tree ≡ p
    → units_in steps rest + folds_in steps rest ≤ n
    → units_in steps (lowered_choice p c ++ rest) + folds_in steps (lowered_choice p c ++ rest) ≤ (1 + query_work (over c.coverages.items o ∷ [])) + n
one-within None None b steps c rest n e h = omega (arith, h)
one-within None (Some t) b steps c rest n e h = absurd b
one-within (Some x) None b steps c rest n e h = absurd b
one-within (Some x) (Some t) b steps c rest n e h =
    let a = subst (λ o. steps_units o + steps_folds o ≤ 1 + query_work (x ∷ [])) (sym e) b.within in
    let d : query_work (over c.coverages.items (Some x) ∷ []) ≡ query_work (x ∷ []) = work_over c.coverages.items x in
    let y : Choice = record { steps = c.tree; coverages = c.coverages.items } in
    let u : units_in steps (lowered_choice (Some t) c ++ rest) ≡ steps_units (slice_get steps c.tree) + units_in steps rest = sum_by-cons (units_at steps) y rest in
    let v : folds_in steps (lowered_choice (Some t) c ++ rest) ≡ steps_folds (slice_get steps c.tree) + folds_in steps rest = sum_by-cons (folds_at steps) y rest in
    omega (arith, h, a, d, u, v)

choices-within : (all : List Combination) (trees : List CombinationTree) (steps : List StepsTree) → AreLowered trees steps
    → units_in steps (lowered_choices steps all) + folds_in steps (lowered_choices steps all) ≤ length all + query_work (map (combination_view trees) all)
choices-within [] trees steps h = omega arith
choices-within (c ∷ all) trees steps h =
    let a = choices-within all trees steps h in
    let b = one-within (slice_get trees c.tree) (slice_get steps c.tree) (lowered-at trees steps c.tree h) steps c (lowered_choices steps all) (length all + query_work (map (combination_view trees) all)) refl a in
    omega (arith, b)

-- the plan is well-formed
pub query-placed : (cs : List Signature) (trees : List CombinationTree) (steps : List StepsTree) (all : List Combination) → AreLowered trees steps → AreTyped cs (map (combination_view trees) all)
    → length all < 2 ^ 63 → query_work (map (combination_view trees) all) ≤ max_work → IsPlan (plan_of cs steps (lowered_choices steps all))
query-placed cs trees steps all h t many work = record {
  choices = choices-placed all cs trees steps h t;
  few =
      let a : unit_bound (plan_of cs steps (lowered_choices steps all)) ≤ length all + query_work (map (combination_view trees) all) = choices-within all trees steps h in
      omega (arith, a, many, work);
}

within-product : (n w : ℕ) → 1 ≤ n → 2 * n + w ≤ n * (2 + w)
within-product zero w h = absurd (omega (arith, h))
within-product (suc n) w h = let e : suc n * (2 + w) ≡ 2 * suc n + (w + n * w) = grind arith in omega (arith, e)

-- the units of a query's plan and the points of its folds
pub query-within : (cs : List Signature) (trees : List CombinationTree) (steps : List StepsTree) (all : List Combination) → AreLowered trees steps → 1 ≤ length all
    → units (plan_of cs steps (lowered_choices steps all)) + fold_points (plan_of cs steps (lowered_choices steps all)) ≤ length (map (combination_view trees) all) * (2 + query_work (map (combination_view trees) all))
query-within cs trees steps all h some =
    let a = choices-within all trees steps h in
    let b = within-product (length all) (query_work (map (combination_view trees) all)) some in
    subst (λ n. units_in steps (lowered_choices steps all) + folds_in steps (lowered_choices steps all) ≤ n * (2 + query_work (map (combination_view trees) all))) (sym (length-map all (combination_view trees))) (omega (arith, a, b))

-- plans with the same parts
pub same-plan : (cs ds : List Signature) (steps : List StepsTree) (all rest : List Choice) → cs ≡ ds → all ≡ rest → plan_of cs steps all ≡ plan_of ds steps rest
same-plan cs ds steps all rest e f = ap (λ l. plan_of l steps all) e ∙ ap (plan_of ds steps) f
