-- The query of each template as text. A layer's coverage is bound to a variable, and its field follows that behind a
-- dot.
use Rattle.std.specs.Prelude.{ℕ, ◌+◌, List, [], ◌∷◌, ◌++◌, codes, Option, Some, None, decimal}
use Rattle.std.specs.Fmt.{signed_decimal}
use Rattle.arr_core.specs.declared.domain.Axis.{Axis}
use Rattle.map_templates.specs.declared.params.Layer.{Layer}
use Rattle.map_templates.specs.declared.template.LocalOperation.{LocalOperation}
use Rattle.map_templates.specs.declared.template.LocalOperation.TheVariants as locals
use Rattle.map_templates.specs.declared.template.Summary.{Summary}
use Rattle.map_templates.specs.Templates.{summary_text}

abbrev pub field_text : Option (List ℕ) → List ℕ
field_text None = []
field_text (Some field) = codes "." ++ field

-- the value of a layer whose coverage is bound to a variable
abbrev pub layer_text : List ℕ → Layer → List ℕ
layer_text variable layer = variable ++ field_text layer.field

-- a value times a comparison of the two values at a location
abbrev pub chosen_text : List ℕ → List ℕ → List ℕ → List ℕ → List ℕ
chosen_text value a test b = value ++ codes " * (" ++ a ++ test ++ b ++ codes ")"

abbrev pub sum_text : List ℕ → List ℕ → List ℕ
sum_text a b = a ++ codes " + " ++ b

-- of the two values at a location
abbrev pub local_value : LocalOperation → List ℕ → List ℕ → List ℕ
local_value locals.Sum a b = sum_text a b
local_value locals.Difference a b = a ++ codes " - " ++ b
local_value locals.Product a b = a ++ codes " * " ++ b
local_value locals.Maximum a b = sum_text (chosen_text a a (codes " >= ") b) (chosen_text b a (codes " < ") b)
local_value locals.Minimum a b = sum_text (chosen_text a a (codes " <= ") b) (chosen_text b a (codes " > ") b)

-- of two coverages, bound to `a` and `b`
abbrev pub pair_text : List ℕ → List ℕ → List ℕ → List ℕ
pair_text first second value =
    codes "for a in (" ++ first ++ codes "), b in (" ++ second ++ codes ") return encode(" ++ value ++ codes ", csv)"

abbrev pub local_text : LocalOperation → Layer → Layer → List ℕ
local_text op first second = pair_text first.coverage second.coverage
    (local_value op (layer_text (codes "a") first) (layer_text (codes "b") second))

-- an axis with its bounds
abbrev pub axis_text : Axis → List ℕ
axis_text x = x.name ++ codes "(" ++ signed_decimal x.lo ++ codes ":" ++ signed_decimal x.hi ++ codes ")"

-- an axis with offsets up to the radius, to both sides
abbrev pub window_text : Axis → ℕ → List ℕ
window_text x radius = x.name ++ codes "(-" ++ decimal radius ++ codes ":" ++ decimal radius ++ codes ")"

-- a coordinate and its offset together stay on the axis
abbrev pub edge_text : List ℕ → Axis → List ℕ
edge_text moved x = moved ++ codes " >= " ++ signed_decimal x.lo ++ codes " and " ++ moved ++ codes
    " <= " ++ signed_decimal x.hi

-- one after the other
abbrev pub four_texts : List ℕ → List ℕ → List ℕ → List ℕ → List ℕ
four_texts a b c d = a ++ (b ++ (c ++ d))

abbrev pub focal_head : List ℕ → List ℕ → List ℕ → List ℕ
focal_head coverage x y = codes "for a in (" ++ coverage ++ codes ") return encode(coverage f over $p " ++ x ++ codes
    ", $q " ++ y

abbrev pub focal_window : List ℕ → List ℕ → List ℕ → List ℕ
focal_window operator x y = codes " values condense " ++ operator ++ codes " over $u " ++ x ++ codes ", $v " ++ y

abbrev pub focal_edges : List ℕ → List ℕ → List ℕ
focal_edges x y = codes " where " ++ x ++ codes " and " ++ y

abbrev pub focal_value : List ℕ → List ℕ → List ℕ → List ℕ
focal_value value x y = codes " using " ++ value ++ codes "[" ++ x ++ codes "($p + $u), " ++ y ++ codes
    "($q + $v)], csv)"

abbrev pub focal_text : Summary → Layer → Axis → Axis → ℕ → List ℕ
focal_text op layer x y radius =
    four_texts (focal_head layer.coverage (axis_text x) (axis_text y))
    (focal_window (summary_text op) (window_text x radius) (window_text y radius))
    (focal_edges (edge_text (codes "$p + $u") x) (edge_text (codes "$q + $v") y))
    (focal_value (layer_text (codes "a") layer) x.name y.name)

-- an iterator over an axis: its variable is the stem and the axis's number
abbrev pub iterator_text : List ℕ → ℕ → Axis → List ℕ
iterator_text stem k x = stem ++ decimal k ++ codes " " ++ axis_text x

-- a list and what follows its first item
abbrev pub listed_text : List ℕ → List ℕ → List ℕ
listed_text first rest = first ++ codes ", " ++ rest

-- one over each axis, from the k-th on
abbrev pub iterators_text : List ℕ → ℕ → List Axis → List ℕ
iterators_text stem k [] = []
iterators_text stem k (x ∷ []) = iterator_text stem k x
iterators_text stem k (x ∷ y ∷ axes) = listed_text (iterator_text stem k x) (iterators_text stem (k + 1) (y ∷ axes))

-- an axis at the iterator of its number
abbrev pub position_text : List ℕ → ℕ → Axis → List ℕ
position_text stem k x = x.name ++ codes "(" ++ stem ++ decimal k ++ codes ")"

-- each axis, from the k-th on
abbrev pub positions_text : List ℕ → ℕ → List Axis → List ℕ
positions_text stem k [] = []
positions_text stem k (x ∷ []) = position_text stem k x
positions_text stem k (x ∷ y ∷ axes) = listed_text (position_text stem k x) (positions_text stem (k + 1) (y ∷ axes))

-- a layer at the iterators with that stem
abbrev pub located_text : List ℕ → List ℕ → List Axis → List ℕ
located_text layer stem axes = layer ++ codes "[" ++ positions_text stem 1 axes ++ codes "]"

abbrev pub zonal_head : List ℕ → List ℕ → List ℕ → List ℕ
zonal_head coverage zones places =
    codes "for a in (" ++ coverage ++ codes "), z in (" ++ zones ++ codes ") return encode(coverage f over " ++ places

abbrev pub zonal_box : List ℕ → List ℕ → List ℕ
zonal_box operator others = codes " values condense " ++ operator ++ codes " over " ++ others

abbrev pub zonal_test : List ℕ → List ℕ → List ℕ
zonal_test other own = codes " where " ++ other ++ codes " = " ++ own

-- the other location is in the zone of the own one
abbrev pub same_zone_text : Layer → List Axis → List ℕ
same_zone_text zones axes = zonal_test (located_text (layer_text (codes "z") zones) (codes "$u") axes)
    (located_text (layer_text (codes "z") zones) (codes "$p") axes)

abbrev pub zonal_value : List ℕ → List ℕ
zonal_value value = codes " using " ++ value ++ codes ", csv)"

abbrev pub zonal_text : Summary → Layer → Layer → List Axis → List ℕ
zonal_text op layer zones axes =
    four_texts (zonal_head layer.coverage zones.coverage (iterators_text (codes "$p") 1 axes))
    (zonal_box (summary_text op) (iterators_text (codes "$u") 1 axes))
    (same_zone_text zones axes) (zonal_value (located_text (layer_text (codes "a") layer) (codes "$u") axes))
