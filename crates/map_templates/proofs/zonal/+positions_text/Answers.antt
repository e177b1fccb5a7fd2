-- The position on the first of several axes stands before those on the others.
use Rattle.std.proofs.Common.{◌∙◌, ◌≤◌, length, string_bytes, arith}
use Rattle.map_templates.specs.Texts.{listed_text}
use Rattle.map_templates.proofs.Texts.{ok-same, same2, more-positions}
use Rattle.map_templates.proofs.zonal.+positions_text.Goals as goal

pub returns-in_ok-rest-in-len1-up : goal.returns-in_ok-rest-in-len1-up
returns-in_ok-rest-in-len1-up t c =
    let two : 2 ≤ length c.args.axes.now = omega arith in
    ok-same c.listed_text.result (λ t. string_bytes t) (listed_text c.as_str.result.now c.as_str-in-len1-up.result.now) _
    (same2 listed_text (c.as_str.ensures.value ∙ c.in_ok-first-in-len1-up.ensures) (c.as_str-in-len1-up.ensures.value ∙ c.in_ok-rest-in-len1-up.ensures)
    ∙ more-positions c.args.stem.now c.args.number c.args.axes.now c.axis-item-2.result two c.axis-item-2.is)
    c.listed_text.ensures
