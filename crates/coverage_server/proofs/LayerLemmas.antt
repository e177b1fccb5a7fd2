-- A template asks of the coverages that its layers name what it asks of all.
use Rattle.std.proofs.Common.{◌≡◌, ℕ, List, Option, None, Some, Ok, refl, sym, ap, ap₂, ◌∙◌}
use Rattle.std.specs.Prelude.{IfSome, ok_or}
use Rattle.arr_core.specs.declared.signature.Signature.{Signature}
use Rattle.wcps_types.specs.Shapes.{then_of}
use Rattle.map_templates.specs.declared.params.Layer.{Layer}
use Rattle.map_templates.specs.declared.params.Params.{Params}
use Rattle.map_templates.specs.declared.template.Template.{Template}
use Rattle.map_templates.specs.declared.template.Template.TheVariants.{Local, Focal, Zonal}
use Rattle.map_templates.specs.declared.refusal.ExpandRefusal.TheVariants.{NoSuchCoverage}
use Rattle.map_templates.specs.Refusals.{Answer}
use Rattle.map_templates.specs.Templates.{template_named}
use Rattle.map_templates.specs.Expansion.{Operation, local_on, coverage_of, field_of, second_of, radius_of, on_plane, on_domain, operation_of}
use Rattle.coverage_server.specs.Named.{IsFoundIn, IsAskedAlike}
use Rattle.coverage_server.proofs.TypedLemmas.{place_found}

module _ (all some : List Signature) where
  layer_alike : (layer : Layer) → IsFoundIn all some layer.coverage → coverage_of layer some ≡ coverage_of layer all
  layer_alike layer e = ap (λ (o : Option Signature). ok_or o NoSuchCoverage) (place_found layer.coverage some ∙ e ∙ sym (place_found layer.coverage all))

  -- of a layer, and of a second one where it has to be there
  layers_alike : (k : Layer → Signature → Signature → Answer Operation) (layer : Layer) (second : Option Layer) → IsFoundIn all some layer.coverage → IfSome second (λ (l : Layer). IsFoundIn all some l.coverage)
      → then_of (coverage_of layer some) (λ (s : Signature). then_of (second_of second) (λ (l : Layer). then_of (coverage_of l some) (k l s)))
      ≡ then_of (coverage_of layer all) (λ (s : Signature). then_of (second_of second) (λ (l : Layer). then_of (coverage_of l all) (k l s)))
  layers_alike k layer None e h = ap (λ (a : Answer Signature). then_of a (λ (s : Signature). then_of (second_of None) (λ (l : Layer). then_of (coverage_of l all) (k l s)))) (layer_alike layer e)
  layers_alike k layer (Some l) e h = ap₂ (λ (a b : Answer Signature). then_of a (λ (s : Signature). then_of b (k l s))) (layer_alike layer e) (layer_alike l h)

  pub asked_alike : (params : Params) → IsFoundIn all some params.layer.coverage → IfSome params.second (λ (l : Layer). IsFoundIn all some l.coverage) → IsAskedAlike all some params
  asked_alike params e h template = by_template (template_named template)
    where
      by_template : (o : Option Template) → operation_of o params some ≡ operation_of o params all
      by_template None = refl
      by_template (Some (Local op)) =
          layers_alike (λ (l : Layer) (s t : Signature). then_of (field_of params.layer s) (λ (f : ℕ). then_of (field_of l t) (λ (g : ℕ). Ok (local_on op params.layer f l g s.domain)))) params.layer params.second e h
      by_template (Some (Focal op)) =
          ap (λ (a : Answer Signature). then_of a (λ (s : Signature). then_of (field_of params.layer s) (λ (f : ℕ). then_of (radius_of params.radius) (on_plane op params.layer f s.domain)))) (layer_alike params.layer e)
      by_template (Some (Zonal op)) =
          layers_alike (λ (l : Layer) (s t : Signature). then_of (field_of params.layer s) (λ (f : ℕ). then_of (field_of l t) (λ (g : ℕ). on_domain op params.layer f l g s.domain t.domain))) params.layer params.second e h
