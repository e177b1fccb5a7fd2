-- What is found of an operation's operands is found of the operation.
use Rattle.std.proofs.Common.{◌∙◌, sym, ap, subst}
use Rattle.std.specs.Prelude.{IfSome}
use Rattle.plan_ir.specs.Bodies.{Tree, always, body_view, op2}
use Rattle.tile_columns.specs.Zones.{HasZones}
use Rattle.tile_columns.proofs.zones.in_operands.Goals as goal

pub returns-in-Op2 : goal.returns-in-Op2
returns-in-Op2 c =
    subst (λ (t : Tree). IfSome c.either_operand.result (HasZones c.args.depth always t))
    (ap (λ l. op2 c.in-Op2.op (body_view l) (body_view c.deref-in-Op2.result.now)) c.deref.ensures
    ∙ ap (λ r. op2 c.in-Op2.op (body_view c.in-Op2.l.value) (body_view r)) c.deref-in-Op2.ensures
    ∙ ap body_view (sym c.in-Op2.is))
    c.either_operand.ensures
