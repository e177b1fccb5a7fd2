-- The head names both coverages and has an iterator over each axis.
use Rattle.std.proofs.Common.{◌∙◌, string_bytes}
use Rattle.map_templates.specs.Texts.{zonal_head}
use Rattle.map_templates.proofs.Texts.{ok-same, same3}
use Rattle.map_templates.proofs.zonal.places_text.Goals as goal

pub returns : goal.returns
returns c =
    ok-same c.head_text.result (λ t. string_bytes t) (zonal_head c.as_str.result.now c.as_str-2.result.now c.as_str-3.result.now) _
    (same3 zonal_head c.as_str.ensures.value c.as_str-2.ensures.value (c.as_str-3.ensures.value ∙ c.in_ok-places.ensures)) c.head_text.ensures
