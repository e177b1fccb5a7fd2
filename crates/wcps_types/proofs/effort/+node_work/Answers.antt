-- A field of a record is the only one of the part at its place.
use Rattle.std.proofs.Common.{rules, ◌≡◌, ◌<◌, ◌≤◌, ◌∙◌, ap, length, get_or, arith}
use Rattle.std.specs.Prelude.{pos}
use Rattle.std.proofs.lemmas.Grind.{common_steps}
use Rattle.wcps_types.specs.declared.typed.Node.{Node}
use Rattle.wcps_types.specs.Typed.{field_tree, only_tree, number}
use Rattle.wcps_types.proofs.Fields.{record_part, record_none}
use Rattle.wcps_types.proofs.effort.+node_work.Goals as goal

pub returns-in-None : goal.returns-in-None
returns-in-None t c =
    let past : length c.in-Record.parts.items ≤ c.args.field = search rules in
    let shown : field_tree c.args.node.now c.args.field ≡ number (pos 0) = ap (λ (n : Node). field_tree n c.args.field) c.in-Record.is ∙ record_none c.in-Record.parts c.args.field past in
    rw shown (search rules)

pub returns-in-Some : goal.returns-in-Some
returns-in-Some t c =
    let inside : c.args.field < length c.in-Record.parts.items = search rules in
    let at : c.in-Some.part.now ≡ get_or c.in-Record.parts.items c.args.field c.in-Some.part.now = search rules in
    let shown : field_tree c.args.node.now c.args.field ≡ only_tree c.in-Some.part.now = ap (λ (n : Node). field_tree n c.args.field) c.in-Record.is ∙ record_part c.in-Record.parts c.args.field c.in-Some.part.now c.in-Some.part.now inside at in
    rw shown c.node_work-in-Some.ensures

pub returns-in-CondenseWhere : goal.returns-in-CondenseWhere
returns-in-CondenseWhere t c = grind (arith, common_steps)
