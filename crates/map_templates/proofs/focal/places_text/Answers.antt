-- The head names the layer's coverage and has an iterator over each of the two axes.
use Rattle.std.proofs.Common.{◌∙◌, string_bytes}
use Rattle.map_templates.specs.Texts.{focal_head}
use Rattle.map_templates.proofs.Texts.{ok-same, same3}
use Rattle.map_templates.proofs.focal.places_text.Goals as goal

pub returns : goal.returns
returns c =
    ok-same c.head_text.result (λ t. string_bytes t) (focal_head c.as_str.result.now c.as_str-2.result.now c.as_str-3.result.now) _
    (same3 focal_head c.as_str.ensures.value (c.as_str-2.ensures.value ∙ c.in_ok-first.ensures) (c.as_str-3.ensures.value ∙ c.in_ok-second.ensures)) c.head_text.ensures
