-- A part of a tree over coverages is the tree's part over them.
use Rattle.std.proofs.Common.{◌≡◌, ℕ, zero, suc, List, [], ◌∷◌, map, refl, ap, ◌∙◌, true, false}
use Rattle.std.specs.Prelude.{Option, Some, None, slice_get, option_map, option_and_then, is_some, unwrap_or}
use Rattle.wcps_types.specs.Typed.{Typed, number, iterator, cell, unary, binary, scalar, select, bracket, slice, array, listed, condense, condense_where, reduce, FieldTree, CombinationTree}
use Rattle.wcps_types.specs.Renamed.{renamed, renamed_field, renamed_combination, over}
use Rattle.wcps_mean.specs.declared.part.Part.{Part}
use Rattle.wcps_mean.specs.declared.part.Part.TheVariants.{Condition, Field, CondenserCondition, CondenserValue}
use Rattle.wcps_mean.specs.Parts.{PartTree, at_point, condition_part, body_part, tree_of_field, part_of, part_over}

condition_over : (cs : List ℕ) (t : Typed) → condition_part (renamed cs t) ≡ option_map (part_over cs) (condition_part t)
condition_over cs (number z) = refl
condition_over cs (iterator k) = refl
condition_over cs (cell v f) = refl
condition_over cs (unary op e) = refl
condition_over cs (binary op l r) = refl
condition_over cs (scalar e) = refl
condition_over cs (select e) = refl
condition_over cs (bracket e) = refl
condition_over cs (slice e axis lo hi i) = refl
condition_over cs (array e) = refl
condition_over cs (listed box items) = refl
condition_over cs (condense op box e) = refl
condition_over cs (condense_where op box c e) = refl
condition_over cs (reduce op box e) = refl

body_over : (cs : List ℕ) (t : Typed) → body_part (renamed cs t) ≡ option_map (part_over cs) (body_part t)
body_over cs (number z) = refl
body_over cs (iterator k) = refl
body_over cs (cell v f) = refl
body_over cs (unary op e) = refl
body_over cs (binary op l r) = refl
body_over cs (scalar e) = refl
body_over cs (select e) = refl
body_over cs (bracket e) = refl
body_over cs (slice e axis lo hi i) = refl
body_over cs (array e) = refl
body_over cs (listed box items) = refl
body_over cs (condense op box e) = refl
body_over cs (condense_where op box c e) = refl
body_over cs (reduce op box e) = refl

field_over : (cs : List ℕ) (fields : List FieldTree) (f : ℕ) → option_map (λ (t : FieldTree). t.tree) (slice_get (map (renamed_field cs) fields) f) ≡ option_map (renamed cs) (option_map (λ (t : FieldTree). t.tree) (slice_get fields f))
field_over cs [] f = refl
field_over cs (t ∷ fields) zero = refl
field_over cs (t ∷ fields) (suc f) = field_over cs fields f

point_over : (cs : List ℕ) (o : Option Typed) → option_map at_point (option_map (renamed cs) o) ≡ option_map (part_over cs) (option_map at_point o)
point_over cs None = refl
point_over cs (Some t) = refl

inner_over : (cs : List ℕ) (g : Typed → Option PartTree) (o : Option Typed) → ((t : Typed) → g (renamed cs t) ≡ option_map (part_over cs) (g t)) → option_and_then g (option_map (renamed cs) o) ≡ option_map (part_over cs) (option_and_then g o)
inner_over cs g None h = refl
inner_over cs g (Some t) h = h t

pub part_of-over : (cs : List ℕ) (part : Part) (c : CombinationTree) → part_of part (renamed_combination cs c) ≡ option_map (part_over cs) (part_of part c)
part_of-over cs Condition c = point_over cs c.condition
part_of-over cs (Field f) c = ap (option_map at_point) (field_over cs c.item.fields f) ∙ point_over cs (tree_of_field c f)
part_of-over cs (CondenserCondition f) c = ap (option_and_then condition_part) (field_over cs c.item.fields f) ∙ inner_over cs condition_part (tree_of_field c f) (condition_over cs)
part_of-over cs (CondenserValue f) c = ap (option_and_then body_part) (field_over cs c.item.fields f) ∙ inner_over cs body_part (tree_of_field c f) (body_over cs)

pub is_some-map : {A B : Type 0} (f : A → B) (o : Option A) → is_some (option_map f o) ≡ is_some o
is_some-map f None = refl
is_some-map f (Some x) = refl

-- what is there is what stands for it in any case
pub Some-unwrap_or : {A : Type 0} (o : Option A) (x : A) → is_some o ≡ true → Some (unwrap_or o x) ≡ o
Some-unwrap_or None x h = absurd (cc)
Some-unwrap_or (Some y) x h = refl

pub None-is_some : {A : Type 0} (o : Option A) → is_some o ≡ false → None ≡ o
None-is_some None h = refl
None-is_some (Some x) h = absurd (cc)

-- whether there is a part is read off the tree
pub there-over : (cs : List ℕ) (part : Part) (t : CombinationTree) → is_some (part_of part (over cs (Some t))) ≡ is_some (part_of part t)
there-over cs part t = ap is_some (part_of-over cs part t) ∙ is_some-map (part_over cs) (part_of part t)
