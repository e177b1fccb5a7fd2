-- The window has the summary's operator and an iterator over the offsets on each axis.
use Rattle.std.proofs.Common.{◌∙◌, string_bytes}
use Rattle.map_templates.specs.Texts.{focal_window}
use Rattle.map_templates.proofs.Texts.{ok-same, same3}
use Rattle.map_templates.proofs.focal.windows_text.Goals as goal

pub returns : goal.returns
returns c =
    ok-same c.condenser_text.result (λ t. string_bytes t) (focal_window c.text.result.now c.as_str.result.now c.as_str-2.result.now) _
    (same3 focal_window c.text.ensures (c.as_str.ensures.value ∙ c.in_ok-first.ensures) (c.as_str-2.ensures.value ∙ c.in_ok-second.ensures)) c.condenser_text.ensures
