-- The value is the layer's at the coordinates that are moved on both axes.
use Rattle.std.proofs.Common.{◌∙◌, string_bytes}
use Rattle.map_templates.specs.Texts.{focal_value}
use Rattle.map_templates.proofs.Texts.{ok-same, same3}
use Rattle.map_templates.proofs.focal.moved_text.Goals as goal

pub returns : goal.returns
returns c =
    ok-same c.located_text.result (λ t. string_bytes t) (focal_value c.as_str.result.now c.as_str-2.result.now c.as_str-3.result.now) _
    (same3 focal_value (c.as_str.ensures.value ∙ c.in_ok-value.ensures) c.as_str-2.ensures.value c.as_str-3.ensures.value) c.located_text.ensures
