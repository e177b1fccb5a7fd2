-- The query binds both coverages, and its value is that of the operation on both layers.
use Rattle.std.proofs.Common.{◌∙◌, string_bytes}
use Rattle.map_templates.specs.Texts.{pair_text, local_value}
use Rattle.map_templates.proofs.Texts.{ok-same, same2, same3}
use Rattle.map_templates.proofs.local.local_text.Goals as goal

pub returns : goal.returns
returns c =
    ok-same c.pair_text.result (λ t. string_bytes t) (pair_text c.as_str-3.result.now c.as_str-4.result.now c.as_str-5.result.now) _
    (same3 pair_text c.as_str-3.ensures.value c.as_str-4.ensures.value
    (c.as_str-5.ensures.value ∙ c.in_ok-value.ensures ∙ same2 (local_value c.args.operation) (c.as_str.ensures.value ∙ c.in_ok-a.ensures) (c.as_str-2.ensures.value ∙ c.in_ok-b.ensures)))
    c.pair_text.ensures
