-- The condition is that both moved coordinates stay on their axes.
use Rattle.std.proofs.Common.{◌∙◌, string_bytes}
use Rattle.map_templates.specs.Texts.{focal_edges}
use Rattle.map_templates.proofs.Texts.{ok-same, same2}
use Rattle.map_templates.proofs.focal.edges_text.Goals as goal

pub returns : goal.returns
returns c =
    ok-same c.condition_text.result (λ t. string_bytes t) (focal_edges c.as_str.result.now c.as_str-2.result.now) _
    (same2 focal_edges (c.as_str.ensures.value ∙ c.in_ok-first.ensures) (c.as_str-2.ensures.value ∙ c.in_ok-second.ensures)) c.condition_text.ensures
