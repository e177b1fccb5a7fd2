-- The value is the layer's at the other location.
use Rattle.std.proofs.Common.{◌∙◌, ap, List, ℕ, codes, string_bytes}
use Rattle.map_templates.specs.Texts.{zonal_value, located_text}
use Rattle.map_templates.proofs.Texts.{ok-same}
use Rattle.map_templates.proofs.zonal.other_text.Goals as goal

pub returns : goal.returns
returns c =
    ok-same c.joined.result (λ t. string_bytes t) (zonal_value c.as_str-2.result.now) _
    (ap zonal_value (c.as_str-2.ensures.value ∙ c.in_ok-other.ensures ∙ ap (λ (z : List ℕ). located_text z (codes "$u") c.args.axes.now) (c.as_str.ensures.value ∙ c.in_ok-value.ensures))) c.joined.ensures
