-- Lowered queries: steps for each tree, which all combinations that have the tree share.
use Rattle.std.specs.Prelude.{◌≡◌, ℕ, ◌+◌, ◌≤◌, ℤ, List, [], ◌∷◌, ◌++◌, Option, Some, None, slice_get}
use Rattle.arr_core.specs.declared.signature.Signature.{Signature}
use Rattle.wcps_types.specs.declared.typed.Tree.{Tree}
use Rattle.wcps_types.specs.declared.typed_query.Combination.{Combination}
use Rattle.wcps_types.specs.Typed.{CombinationTree}
use Rattle.wcps_types.specs.Renamed.{renamed_combination}
use Rattle.wcps_types.specs.WellTyped.{CombinationIsTyped}
use Rattle.wcps_types.specs.Work.{query_work}
use Rattle.wcps_mean.specs.Answer.{combination_answer}
use Rattle.plan_ir.specs.Plans.{StepsTree, Choice, signature_of}
use Rattle.plan_ir.specs.Planned.{cells_of, steps_planned}
use Rattle.plan_ir.specs.Placed.{AreSteps}
use Rattle.plan_ir.specs.Units.{steps_units}
use Rattle.plan_ir.specs.FoldPoints.{steps_folds}
use Rattle.plan_rewrite.specs.LoweredItems.{lowered_steps}

-- the steps of a tree
abbrev pub lowered_tree : Tree → StepsTree
lowered_tree t = lowered_steps t.condition t.item

-- Steps that stand for a tree: over the coverages of any combination they give what the tree gives, and each of their
-- reads has its place; their units and the points of their folds are within the work of the tree.
pub record StandsFor (c : CombinationTree) (t : StepsTree) : Type 0 where
  pub planned : (s : ℕ → ℕ → List ℤ → ℤ) (ks : List ℕ)
      → steps_planned (cells_of s ks) t ≡ combination_answer s (renamed_combination ks c)
  pub placed : (cs : List Signature) (ks : List ℕ) → CombinationIsTyped cs (renamed_combination ks c)
      → AreSteps (signature_of cs ks) t
  pub within : steps_units (Some t) + steps_folds (Some t) ≤ 1 + query_work (c ∷ [])

-- there are steps where there is a tree, and they stand for it
abbrev pub IsLowered : Option CombinationTree → Option StepsTree → Type 0
IsLowered None None = Unit {0}
IsLowered (Some c) (Some t) = StandsFor c t
IsLowered None (Some t) = ⊥
IsLowered (Some c) None = ⊥

-- one by one
abbrev pub AreLowered : List CombinationTree → List StepsTree → Type 0
AreLowered [] [] = Unit {0}
AreLowered (c ∷ trees) (t ∷ steps) = StandsFor c t × AreLowered trees steps
AreLowered [] (t ∷ steps) = ⊥
AreLowered (c ∷ trees) [] = ⊥

-- the steps at the place of its tree, over its coverages
abbrev pub choice_of : Combination → Choice
choice_of c = record { steps = c.tree; coverages = c.coverages.items }

-- a combination has the steps at the place of its tree; without a tree, which is so in no query, it returns nothing
abbrev pub lowered_choice : {X : Type 0} → Option X → Combination → List Choice
lowered_choice None c = []
lowered_choice (Some t) c = choice_of c ∷ []

abbrev pub lowered_choices : {X : Type 0} → List X → List Combination → List Choice
lowered_choices steps [] = []
lowered_choices steps (c ∷ all) = lowered_choice (slice_get steps c.tree) c ++ lowered_choices steps all
