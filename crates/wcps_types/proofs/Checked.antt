-- What the check of a query comes to where each combination has its tree.
use Rattle.std.proofs.Common.{◌≡◌, ℕ, ◌<◌, ◌≤◌, Bool, true, false, List, [], map, refl, arith}
use Rattle.std.specs.Prelude.{nat_lt, Ok, Err}
use Rattle.std.proofs.lemmas.Bool.{ltb-true, lt-ltb}
use Rattle.arr_core.specs.declared.signature.Signature.{Signature}
use Rattle.wcps_text.specs.Tree.{QueryTree}
use Rattle.wcps_types.specs.declared.refusal.TypeRefusal.TheVariants.{ResultTooLarge, TooMuchWork}
use Rattle.wcps_types.specs.declared.bindings.Choice.{Choice}
use Rattle.wcps_types.specs.declared.bound.Bound.{Bound}
use Rattle.wcps_types.specs.declared.typed_query.Combination.{Combination}
use Rattle.wcps_types.specs.declared.typed_query.Maker.{Maker}
use Rattle.wcps_types.specs.Typed.{CombinationTree}
use Rattle.wcps_types.specs.Renamed.{combination_view}
use Rattle.wcps_types.specs.Sharing.{trees_of}
use Rattle.wcps_types.specs.Bindings.{ChoiceTree, choice_view, no_bindings, bound_from, combinations, few_combinations}
use Rattle.wcps_types.specs.Cells.{result_cells, max_cells, capped_cells}
use Rattle.wcps_types.specs.Work.{query_work, max_work, capped}
use Rattle.wcps_types.specs.Queries.{typ_each, typ_query, within_limits}

pub checked : (signatures cs : List Signature) (q : QueryTree) (choices : List ChoiceTree) (n : ℕ) (all : List CombinationTree)
    → bound_from signatures no_bindings q.bindings ≡ Ok (record { coverages = cs; choices = choices }) → few_combinations choices ≡ Ok n → typ_each cs q [] (combinations choices) ≡ Ok all
    → typ_query signatures q ≡ within_limits cs all
checked signatures cs q choices n all bound few each = rw (bound, few, each) refl

-- the combinations, typed over slices of the lists
pub of_source : (cs : List Signature) (q : QueryTree) (vs : List Bound) (choices : List Choice) (makers : List Maker) (list : List Combination) (ks : List Signature) (ds : List Choice)
    → ks ≡ cs → ds ≡ choices → typ_each ks q [] (combinations (map choice_view ds)) ≡ Ok (map (combination_view (trees_of ks q vs makers)) list)
    → typ_each cs q [] (combinations (map choice_view choices)) ≡ Ok (map (combination_view (trees_of cs q vs makers)) list)
of_source cs q vs choices makers list ks ds e f said = rw (← e, ← f) said

no-lt : (a b : ℕ) → b ≤ a → (t : Bool) → nat_lt a b ≡ t → nat_lt a b ≡ false
no-lt a b le false e = e
no-lt a b le true e = absurd (omega (arith, le, ltb-true a b e))

pub too_large : (cs : List Signature) (all : List CombinationTree) (n : ℕ) → n ≡ capped_cells (result_cells all) → max_cells < n → within_limits cs all ≡ Err ResultTooLarge
too_large cs all n e lt = let large = lt-ltb max_cells (result_cells all) (omega (arith, e, lt)) in rw large refl

pub too_much : (cs : List Signature) (all : List CombinationTree) (n m : ℕ) → n ≡ capped_cells (result_cells all) → n ≤ max_cells → m ≡ capped (query_work all) → max_work < m → within_limits cs all ≡ Err TooMuchWork
too_much cs all n m e le f lt =
    let few = no-lt max_cells (result_cells all) (omega (arith, e, le)) _ refl in
    let much = lt-ltb max_work (query_work all) (omega (arith, f, lt)) in
    rw (few, much) refl

pub within : (cs : List Signature) (all : List CombinationTree) (n m : ℕ) → n ≡ capped_cells (result_cells all) → n ≤ max_cells → m ≡ capped (query_work all) → m ≤ max_work
    → within_limits cs all ≡ Ok (record { coverages = cs; combinations = all })
within cs all n m e le f lf =
    let few = no-lt max_cells (result_cells all) (omega (arith, e, le)) _ refl in
    let little = no-lt max_work (query_work all) (omega (arith, f, lf)) _ refl in
    rw (few, little) refl
