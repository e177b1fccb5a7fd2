-- An equality has the sides that its operands have.
use Rattle.std.proofs.Common.{◌∙◌, sym, ap, subst}
use Rattle.std.specs.Prelude.{IfSome}
use Rattle.wcps_text.specs.declared.operator.BinaryOperator.TheVariants.{Equal}
use Rattle.plan_ir.specs.Bodies.{Tree, body_view, op2}
use Rattle.tile_columns.specs.Zones.{HasKey}
use Rattle.tile_columns.proofs.zones.sides.Goals as goal

pub returns-in-Equal : goal.returns-in-Equal
returns-in-Equal c =
    subst (λ (t : Tree). IfSome c.either_side.result (HasKey c.args.depth t))
    (ap (λ l. op2 Equal (body_view l) (body_view c.deref-in-Equal.result.now)) c.deref.ensures
    ∙ ap (λ r. op2 Equal (body_view c.in-Op2.l.value) (body_view r)) c.deref-in-Equal.ensures
    ∙ ap (λ op. op2 op (body_view c.in-Op2.l.value) (body_view c.in-Op2.r.value)) (sym c.in-Equal.is)
    ∙ ap body_view (sym c.in-Op2.is))
    c.either_side.ensures
