-- What is kept of two lists of values at once.
use Rattle.std.specs.Prelude.{ℤ, List, [], ◌∷◌, ◌++◌, Option, Some, None}
use Rattle.wcps_text.specs.declared.operator.Aggregate.{Aggregate}
use Rattle.wcps_text.specs.declared.operator.Aggregate.TheVariants.{Greatest}
use Rattle.wcps_mean.specs.Condensers.{larger, smaller}

-- what holds of one list and what holds of another give what holds of both, one after the other
abbrev pub HoldsOfBoth : {X : Type 0} → (List X → Type 0) → (List X → Type 0) → (List X → Type 0) → Type 0
HoldsOfBoth P Q R = (xs ys : List _) → P xs → Q ys → R (xs ++ ys)

-- what holds of a list gives what holds of it with one more
abbrev pub HoldsWith : {X : Type 0} → X → (List X → Type 0) → (List X → Type 0) → Type 0
HoldsWith x P Q = (xs : List _) → P xs → Q (xs ++ x ∷ [])

-- the better of two values: of a greatest the larger one, else the smaller one
abbrev pub better : Aggregate → ℤ → ℤ → ℤ
better Greatest x y = larger x y
better _ x y = smaller x y

abbrev pub best_both : Aggregate → Option ℤ → Option ℤ → Option ℤ
best_both op None b = b
best_both op (Some x) None = Some x
best_both op (Some x) (Some y) = Some (better op x y)
