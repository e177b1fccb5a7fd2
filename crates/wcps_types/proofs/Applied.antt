-- Cuts at the end of a list are made first, and what one cut is.
use Rattle.std.proofs.Common.{◌≡◌, ℕ, List, [], ◌∷◌, ◌++◌, map, refl, ap, sym, ◌∙◌}
use Rattle.std.specs.Prelude.{Some, slice_get, remove, option_map}
use Rattle.arr_core.specs.declared.domain.Axis.{Axis}
use Rattle.arr_core.specs.Domains.{axis_place}
use Rattle.wcps_types.specs.Shapes.{SlotTree, ShapeTree}
use Rattle.wcps_types.specs.Brackets.{BoundsOf, bounds_of, CutTree, sliced_slot, cut_between, cut_at, cut_out, all_cut_out}

pub all_cut_out_last : (cs : List CutTree) (c : CutTree) (s : ShapeTree) → all_cut_out (cs ++ c ∷ []) s ≡ all_cut_out cs (cut_out c s)
all_cut_out_last [] c s = refl
all_cut_out_last (d ∷ cs) c s = ap (cut_out d) (all_cut_out_last cs c s)

abbrev shape_on : List Axis → List SlotTree → ShapeTree
shape_on axes slots = record { domain = axes; fields = slots }

-- a cut at an axis that is there
pub sliced_shape : (c : CutTree) (s : ShapeTree) (k : ℕ) (i : BoundsOf) (axes : List Axis) (slots : List SlotTree) → axis_place c.axis s.domain ≡ Some k
    → option_map bounds_of (slice_get s.domain k) ≡ Some i → axes ≡ remove s.domain k → slots ≡ map (sliced_slot k i.lo i.hi c.position) s.fields
    → shape_on axes slots ≡ cut_out c s
sliced_shape c s k i axes slots at found fewer sliced =
    ap (λ a. shape_on a slots) fewer ∙ ap (shape_on (remove s.domain k)) sliced ∙ sym (ap (λ o. cut_at o c.position s) at ∙ ap (λ o. cut_between o k c.position s) found)
