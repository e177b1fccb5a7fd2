-- How many combinations a typed query has.
use Rattle.std.proofs.Common.{◌≡◌, ℕ, zero, suc, ◌+◌, ◌≤◌, cond, List, [], ◌∷◌, ◌++◌, length, subst, arith, length-append}
use Rattle.std.specs.Prelude.{nat_eq, nat_lt, Ok, Err}
use Rattle.arr_core.specs.declared.signature.Signature.{Signature}
use Rattle.wcps_text.specs.Tree.{QueryTree}
use Rattle.wcps_types.specs.declared.refusal.TypeRefusal.TheVariants.{BadSyntax, TooManyCombinations}
use Rattle.wcps_types.specs.declared.bound.Bound.{Bound}
use Rattle.wcps_types.specs.Typed.{CombinationTree}
use Rattle.wcps_types.specs.Shapes.{Answer}
use Rattle.wcps_types.specs.Bindings.{ChoiceTree, combinations, combination_count, max_combinations, few_combinations}
use Rattle.wcps_types.specs.Queries.{typ_combination, typ_each}
use Rattle.wcps_types.proofs.Gives.{Gives, gives-then, gives-any}
use Rattle.wcps_types.proofs.Choices.{length-combinations}

-- as many as there are choices of coverages
each-counted : (cs : List Signature) (q : QueryTree) (done : List CombinationTree) (choices : List (List Bound)) → Gives (λ (all : List CombinationTree). length all ≡ length done + length choices) (typ_each cs q done choices)
each-counted cs q done [] = omega arith
each-counted cs q done (bound ∷ choices) =
    gives-then (λ (_ : CombinationTree). Unit {0}) (λ (all : List CombinationTree). length all ≡ length done + length (bound ∷ choices)) (typ_combination cs q bound) _ (gives-any (typ_combination cs q bound))
    (λ c _. let e : length (done ++ c ∷ []) + length choices ≡ length done + length (bound ∷ choices) = omega (arith, length-append done (c ∷ [])) in
    subst (λ n. Gives (λ (all : List CombinationTree). length all ≡ n) (typ_each cs q (done ++ c ∷ []) choices)) e (each-counted cs q (done ++ c ∷ []) choices))

abbrev few_of : ℕ → Answer ℕ
few_of n = cond (nat_eq n 0) (Err BadSyntax) (cond (nat_lt max_combinations n) (Err TooManyCombinations) (Ok n))

some-count : (n m : ℕ) → few_of n ≡ Ok m → 1 ≤ n
some-count zero m h = absurd (cc)
some-count (suc n) m h = omega arith

-- a query has at least one
pub some-combinations : (cs : List Signature) (q : QueryTree) (choices : List ChoiceTree) (n : ℕ) (all : List CombinationTree) → few_combinations choices ≡ Ok n → typ_each cs q [] (combinations choices) ≡ Ok all → 1 ≤ length all
some-combinations cs q choices n all few is =
    let counted : length all ≡ 0 + length (combinations choices) = subst (Gives (λ (l : List CombinationTree). length l ≡ 0 + length (combinations choices))) is (each-counted cs q [] (combinations choices)) in
    omega (arith, counted, length-combinations choices, some-count (combination_count choices) n few)
