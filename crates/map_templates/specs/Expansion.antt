-- What a template is expanded to, or its first refusal.
use Rattle.std.specs.Prelude.{ℕ, ℤ, pos, List, [], ◌∷◌, length, nat_eq, int_le, unsigned_abs, cond, ◌&&◌, Option, Some, None, Ok, Err, ok_or}
use Rattle.arr_core.specs.declared.domain.Axis.{Axis}
use Rattle.arr_core.specs.declared.field.Field.{Field}
use Rattle.arr_core.specs.declared.signature.Signature.{Signature}
use Rattle.arr_core.specs.Fields.{field_place}
use Rattle.wcps_types.specs.Names.{coverage_place}
use Rattle.wcps_types.specs.Bindings.{signature_at}
use Rattle.wcps_types.specs.Shapes.{then_of}
use Rattle.wcps_types.specs.Operators.{are_same}
use Rattle.map_templates.specs.declared.params.Layer.{Layer}
use Rattle.map_templates.specs.declared.params.Params.{Params}
use Rattle.map_templates.specs.declared.template.LocalOperation.{LocalOperation}
use Rattle.map_templates.specs.declared.template.Summary.{Summary}
use Rattle.map_templates.specs.declared.template.Template.{Template}
use Rattle.map_templates.specs.declared.template.Template.TheVariants.{Local, Focal, Zonal}
use Rattle.map_templates.specs.declared.refusal.ExpandRefusal.TheVariants.{NoSuchTemplate, NoSuchCoverage, BadParameter}
use Rattle.map_templates.specs.Refusals.{Answer}
use Rattle.map_templates.specs.Templates.{template_named}
use Rattle.map_templates.specs.Texts.{local_text, focal_text, zonal_text}

-- the coverage of a layer
abbrev pub coverage_of : Layer → List Signature → Answer Signature
coverage_of layer signatures = ok_or (signature_at (coverage_place layer.coverage signatures) signatures) NoSuchCoverage

abbrev pub field_found : Option ℕ → Answer ℕ
field_found None = Err BadParameter
field_found (Some k) = Ok k

abbrev pub field_at : Option (List ℕ) → List Field → Answer ℕ
field_at None fields = cond (nat_eq (length fields) 1) (Ok 0) (Err BadParameter)
field_at (Some name) fields = field_found (field_place name fields)

-- the place of the field that a layer takes: the one that it names, or the only one
abbrev pub field_of : Layer → Signature → Answer ℕ
field_of layer s = field_at layer.field s.fields

-- the second layer, where there has to be one
abbrev pub second_of : Option Layer → Answer Layer
second_of None = Err BadParameter
second_of (Some layer) = Ok layer

-- the greatest radius
abbrev pub max_radius : ℕ
max_radius = 8

-- 1 to that
abbrev pub radius_of : Option ℤ → Answer ℕ
radius_of None = Err BadParameter
radius_of (Some z) = cond (int_le (pos 1) z && int_le z (pos max_radius)) (Ok (unsigned_abs z)) (Err BadParameter)

-- what is asked: an operation, its layers each with the place of its field, and the domain or the two axes of the first
-- layer
pub data Operation : Type 0 where
  local_on : LocalOperation → Layer → ℕ → Layer → ℕ → List Axis → Operation
  focal_on : Summary → Layer → ℕ → Axis → Axis → ℕ → Operation
  zonal_on : Summary → Layer → ℕ → Layer → ℕ → List Axis → Operation

-- first the coverages, then the fields
abbrev pub local_operation : LocalOperation → Params → List Signature → Answer Operation
local_operation op params signatures =
    then_of (coverage_of params.layer signatures)
    (λ (first : Signature). then_of (second_of params.second)
    (λ (layer : Layer). then_of (coverage_of layer signatures)
    (λ (second : Signature). then_of (field_of params.layer first)
    (λ (f : ℕ). then_of (field_of layer second)
    (λ (g : ℕ). Ok (local_on op params.layer f layer g first.domain))))))

-- on two axes
abbrev pub on_plane : Summary → Layer → ℕ → List Axis → ℕ → Answer Operation
on_plane op layer f [] radius = Err BadParameter
on_plane op layer f (x ∷ []) radius = Err BadParameter
on_plane op layer f (x ∷ y ∷ []) radius = Ok (focal_on op layer f x y radius)
on_plane op layer f (x ∷ y ∷ t ∷ more) radius = Err BadParameter

abbrev pub focal_operation : Summary → Params → List Signature → Answer Operation
focal_operation op params signatures =
    then_of (coverage_of params.layer signatures)
    (λ (s : Signature). then_of (field_of params.layer s)
    (λ (f : ℕ). then_of (radius_of params.radius) (on_plane op params.layer f s.domain)))

-- on one domain
abbrev pub on_domain : Summary → Layer → ℕ → Layer → ℕ → List Axis → List Axis → Answer Operation
on_domain op layer f zones g axes others =
    cond (are_same axes others) (Ok (zonal_on op layer f zones g axes)) (Err BadParameter)

abbrev pub zonal_operation : Summary → Params → List Signature → Answer Operation
zonal_operation op params signatures =
    then_of (coverage_of params.layer signatures)
    (λ (first : Signature). then_of (second_of params.second)
    (λ (zones : Layer). then_of (coverage_of zones signatures)
    (λ (second : Signature). then_of (field_of params.layer first)
    (λ (f : ℕ). then_of (field_of zones second)
    (λ (g : ℕ). on_domain op params.layer f zones g first.domain second.domain)))))

abbrev pub operation_of : Option Template → Params → List Signature → Answer Operation
operation_of None params signatures = Err NoSuchTemplate
operation_of (Some (Local op)) params signatures = local_operation op params signatures
operation_of (Some (Focal op)) params signatures = focal_operation op params signatures
operation_of (Some (Zonal op)) params signatures = zonal_operation op params signatures

-- what the template of that name asks, or its first refusal
abbrev pub asked : List ℕ → Params → List Signature → Answer Operation
asked template params signatures = operation_of (template_named template) params signatures

-- its query
abbrev pub text_of : Operation → List ℕ
text_of (local_on op first f second g axes) = local_text op first second
text_of (focal_on op layer f x y radius) = focal_text op layer x y radius
text_of (zonal_on op layer f zones g axes) = zonal_text op layer zones axes

abbrev pub as_text : Answer Operation → Answer (List ℕ)
as_text (Err refusal) = Err refusal
as_text (Ok o) = Ok (text_of o)
