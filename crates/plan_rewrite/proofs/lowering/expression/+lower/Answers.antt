-- The field of a record is the only one of the part at its place, and past all parts it is zero.
use Rattle.std.proofs.Common.{rules, ◌≡◌, ◌<◌, ◌≤◌, ◌∙◌, ap, length, get_or}
use Rattle.std.specs.Prelude.{pos}
use Rattle.wcps_types.specs.declared.typed.Node.{Node}
use Rattle.wcps_types.specs.Typed.{number, field_tree, only_tree}
use Rattle.wcps_types.proofs.Fields.{record_part, record_none}
use Rattle.plan_rewrite.proofs.lowering.expression.+lower.Goals as goal

-- a field of a record is the only one of the part at its place
pub lowered-returns-in-None : goal.lowered-returns-in-None
lowered-returns-in-None t c =
    let past : length c.in-Record.parts.items ≤ c.args.field = search rules in
    let shown : field_tree c.args.e.now c.args.field ≡ number (pos 0) = ap (λ (n : Node). field_tree n c.args.field) c.in-Record.is ∙ record_none c.in-Record.parts c.args.field past in
    rw shown (search rules)

pub lowered-returns-in-Some : goal.lowered-returns-in-Some
lowered-returns-in-Some t c =
    let inside : c.args.field < length c.in-Record.parts.items = search rules in
    let at : c.in-Some.part.now ≡ get_or c.in-Record.parts.items c.args.field c.in-Some.part.now = search rules in
    let shown : field_tree c.args.e.now c.args.field ≡ only_tree c.in-Some.part.now = ap (λ (n : Node). field_tree n c.args.field) c.in-Record.is ∙ record_part c.in-Record.parts c.args.field c.in-Some.part.now c.in-Some.part.now inside at in
    rw shown (search rules)
