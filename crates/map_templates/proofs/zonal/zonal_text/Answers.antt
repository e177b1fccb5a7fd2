-- The query is its head, its condenser, its condition and its value, one behind the other.
use Rattle.std.proofs.Common.{◌∙◌, string_bytes}
use Rattle.map_templates.specs.Texts.{four_texts}
use Rattle.map_templates.proofs.Texts.{ok-same, same4}
use Rattle.map_templates.proofs.zonal.zonal_text.Goals as goal

pub returns : goal.returns
returns c =
    ok-same c.joined.result (λ t. string_bytes t) (four_texts c.as_str.result.now c.as_str-2.result.now c.as_str-3.result.now c.as_str-4.result.now) _
    (same4 four_texts (c.as_str.ensures.value ∙ c.in_ok-head.ensures) (c.as_str-2.ensures.value ∙ c.in_ok-others.ensures) (c.as_str-3.ensures.value ∙ c.in_ok-test.ensures) (c.as_str-4.ensures.value ∙ c.in_ok-value.ensures))
    c.joined.ensures
