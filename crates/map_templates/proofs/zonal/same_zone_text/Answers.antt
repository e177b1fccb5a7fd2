-- The condition is that the zone of the other location is that of the own one.
use Rattle.std.proofs.Common.{◌∙◌, ap, List, ℕ, codes, string_bytes}
use Rattle.map_templates.specs.Texts.{zonal_test, located_text}
use Rattle.map_templates.proofs.Texts.{ok-same, same2}
use Rattle.map_templates.proofs.zonal.same_zone_text.Goals as goal

pub returns : goal.returns
returns c =
    ok-same c.condition_text.result (λ t. string_bytes t) (zonal_test c.as_str-3.result.now c.as_str-4.result.now) _
    (same2 zonal_test
    (c.as_str-3.ensures.value ∙ c.in_ok-other.ensures ∙ ap (λ (z : List ℕ). located_text z (codes "$u") c.args.axes.now) (c.as_str.ensures.value ∙ c.in_ok-zone.ensures))
    (c.as_str-4.ensures.value ∙ c.in_ok-own.ensures ∙ ap (λ (z : List ℕ). located_text z (codes "$p") c.args.axes.now) (c.as_str-2.ensures.value ∙ c.in_ok-zone.ensures)))
    c.condition_text.ensures
