-- Bindings that grow at their end.
use Rattle.std.proofs.Common.{◌≡◌, List, [], ◌∷◌, ◌++◌, refl, ap}
use Rattle.wcps_text.specs.declared.tree.Binding.{Binding}
use Rattle.wcps_text.specs.Tree.{BindingTree, binding_view, bindings_of}

pub bindings_of_push : (bs : List Binding) (b : Binding) → bindings_of (bs ++ b ∷ []) ≡ bindings_of bs ++ binding_view b ∷ []
bindings_of_push [] b = refl
bindings_of_push (a ∷ bs) b = ap (λ (xs : List BindingTree). binding_view a ∷ xs) (bindings_of_push bs b)
