-- The `for` list, and the choices of coverages for its variables.
use Rattle.std.specs.Prelude.{ℕ, ◌*◌, ◌/◌, ◌%◌, List, [], ◌∷◌, ◌++◌, map, length, Bool, cond, nat_eq, nat_lt, Option, Some, None, slice_get, slice_index, Ok, Err}
use Rattle.std.specs.List.{list_any, flat_map}
use Rattle.std.specs.Str.{bytes_eq}
use Rattle.arr_core.specs.declared.signature.Signature.{Signature}
use Rattle.wcps_text.specs.Tree.{BindingTree}
use Rattle.wcps_types.specs.declared.refusal.TypeRefusal.TheVariants.{NoSuchCoverage, BadSyntax, NameTaken, TooManyCombinations}
use Rattle.wcps_types.specs.declared.bound.Bound.{Bound}
use Rattle.wcps_types.specs.declared.bindings.Choice.{Choice}
use Rattle.wcps_types.specs.declared.bindings.Bindings.{Bindings}
use Rattle.wcps_types.specs.declared.bindings.PlacedOne.{PlacedOne}
use Rattle.wcps_types.specs.declared.bindings.PlacedMany.{PlacedMany}
use Rattle.wcps_types.specs.Names.{coverage_place}
use Rattle.wcps_types.specs.Shapes.{Answer, then_of}

-- a variable, and the places of the coverages that it stands for in turn
pub record ChoiceTree : Type 0 where
  pub variable : List ℕ
  pub coverages : List ℕ

-- the list so far: the coverages that it names, each once, and its variables
pub record BindingTrees : Type 0 where
  pub coverages : List Signature
  pub choices : List ChoiceTree

-- coverages with the place of one of them
pub record Placed : Type 0 where
  pub coverages : List Signature
  pub place : ℕ

-- coverages with the places of several
pub record PlacedAll : Type 0 where
  pub coverages : List Signature
  pub places : List ℕ

abbrev pub placed_view : PlacedOne → Placed
placed_view p = record { coverages = p.coverages.items; place = p.place }

abbrev pub placed_all_view : PlacedMany → PlacedAll
placed_all_view p = record { coverages = p.coverages.items; places = p.places.items }

abbrev pub choice_view : Choice → ChoiceTree
choice_view c = record { variable = c.variable; coverages = c.coverages.items }

abbrev pub bindings_view : Bindings → BindingTrees
bindings_view b = record { coverages = b.coverages.items; choices = map choice_view b.choices.items }

-- no variable yet
abbrev pub no_bindings : BindingTrees
no_bindings = record { coverages = []; choices = [] }

abbrev pub signature_at : Option ℕ → List Signature → Option Signature
signature_at None signatures = None
signature_at (Some k) signatures = slice_get signatures k

abbrev pub known_signature : Option Signature → Answer Signature
known_signature None = Err NoSuchCoverage
known_signature (Some s) = Ok s

abbrev pub added : List Signature → Signature → Answer Placed
added cs s = Ok (record { coverages = cs ++ s ∷ []; place = length cs })

abbrev pub place_or : Option ℕ → List Signature → Answer Placed → Answer Placed
place_or (Some k) cs a = Ok (record { coverages = cs; place = k })
place_or None cs a = a

-- a coverage that is named already has its place; another one is added at the end
abbrev pub resolved : List Signature → List Signature → List ℕ → Answer Placed
resolved signatures cs name = place_or (coverage_place name cs) cs
    (then_of (known_signature (signature_at (coverage_place name signatures) signatures)) (added cs))

-- names in turn, after those at the places so far
abbrev pub resolved_all : List Signature → List Signature → List ℕ → List (List ℕ) → Answer PlacedAll
resolved_all signatures cs places [] = Ok (record { coverages = cs; places = places })
resolved_all signatures cs places (x ∷ names) =
    then_of (resolved signatures cs x)
    (λ (p : Placed). resolved_all signatures p.coverages (places ++ p.place ∷ []) names)

-- a variable is taken
abbrev pub is_bound : List ℕ → List ChoiceTree → Bool
is_bound name choices = list_any (λ (c : ChoiceTree). bytes_eq c.variable name) choices

abbrev pub with_choice : List ℕ → List ChoiceTree → PlacedAll → Answer BindingTrees
with_choice variable choices p =
    Ok (record {
      coverages = p.coverages;
      choices =
          choices ++ record { variable = variable; coverages = p.places } ∷ [];
    })

-- one variable more: whether it is taken, then its coverages
abbrev pub with_binding : List Signature → BindingTrees → BindingTree → Answer BindingTrees
with_binding signatures b t =
    cond (is_bound t.variable b.choices) (Err NameTaken)
    (then_of (resolved_all signatures b.coverages [] t.coverages) (with_choice t.variable b.choices))

-- the list in source order
abbrev pub bound_from : List Signature → BindingTrees → List BindingTree → Answer BindingTrees
bound_from signatures b [] = Ok b
bound_from signatures b (t ∷ more) =
    then_of (with_binding signatures b t) (λ (c : BindingTrees). bound_from signatures c more)

-- how many combinations there are
abbrev pub combination_count : List ChoiceTree → ℕ
combination_count [] = 1
combination_count (c ∷ choices) = length c.coverages * combination_count choices

-- how many are allowed
abbrev pub max_combinations : ℕ
max_combinations = 64

-- at least one, since each variable of a query that is spelled stands for some coverage, and not too many
abbrev pub few_combinations : List ChoiceTree → Answer ℕ
few_combinations choices =
    cond (nat_eq (combination_count choices) 0) (Err BadSyntax)
    (cond (nat_lt max_combinations (combination_count choices)) (Err TooManyCombinations)
    (Ok (combination_count choices)))

abbrev pub bound_to : List ℕ → ℕ → Bound
bound_to variable place = record { variable = variable; coverage = place }

-- the combination of a number, computed
abbrev pub combination_at : List ChoiceTree → ℕ → List Bound
combination_at [] n = []
combination_at (c ∷ choices) n =
    bound_to c.variable (slice_index c.coverages (n / combination_count choices)) ∷ combination_at choices
    (n % combination_count choices)

-- all combinations, the first variable outermost, coverages in listed order
abbrev pub combinations : List ChoiceTree → List (List Bound)
combinations [] = [] ∷ []
combinations (c ∷ choices) = flat_map
    (λ (place : ℕ). map (λ (rest : List Bound). bound_to c.variable place ∷ rest) (combinations choices)) c.coverages
