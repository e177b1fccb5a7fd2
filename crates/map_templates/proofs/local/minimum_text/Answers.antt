-- The minimum is the sum of both values, each times the test that chooses it.
use Rattle.std.proofs.Common.{◌∙◌, string_bytes}
use Rattle.map_templates.specs.Texts.{sum_text}
use Rattle.map_templates.proofs.Texts.{ok-same, same2}
use Rattle.map_templates.proofs.local.minimum_text.Goals as goal

pub returns : goal.returns
returns c =
    ok-same c.sum_text.result (λ t. string_bytes t) (sum_text c.as_str.result.now c.as_str-2.result.now) _
    (same2 sum_text (c.as_str.ensures.value ∙ c.in_ok-first.ensures) (c.as_str-2.ensures.value ∙ c.in_ok-second.ensures)) c.sum_text.ensures
