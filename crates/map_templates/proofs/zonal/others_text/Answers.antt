-- The condenser has the summary's operator and iterators over all locations again.
use Rattle.std.proofs.Common.{◌∙◌, string_bytes}
use Rattle.map_templates.specs.Texts.{zonal_box}
use Rattle.map_templates.proofs.Texts.{ok-same, same2}
use Rattle.map_templates.proofs.zonal.others_text.Goals as goal

pub returns : goal.returns
returns c =
    ok-same c.condenser_text.result (λ t. string_bytes t) (zonal_box c.text.result.now c.as_str.result.now) _
    (same2 zonal_box c.text.ensures (c.as_str.ensures.value ∙ c.in_ok-others.ensures)) c.condenser_text.ensures
