-- A conjunction has the edges of both operands.
use Rattle.std.proofs.Common.{◌∙◌, sym, ap, subst}
use Rattle.wcps_text.specs.declared.operator.BinaryOperator.TheVariants.{And}
use Rattle.plan_ir.specs.Bodies.{Tree, body_view, op2}
use Rattle.tile_columns.specs.declared.pattern.Edges.{Edges}
use Rattle.tile_columns.specs.Windows.{Means, some_edges, either_edges}
use Rattle.tile_columns.proofs.WindowEdges.{both_means}
use Rattle.tile_columns.proofs.pattern.+edges_of.Goals as goal

pub returns-in_ok-right-in-And : goal.returns-in_ok-right-in-And
returns-in_ok-right-in-And t c =
    subst (λ (f : Edges). Means (body_view c.args.body.now) (some_edges c.args.pattern.now c.args.depth f)) (sym c.either_edges.ensures)
    (subst (λ (b : Tree). Means b (some_edges c.args.pattern.now c.args.depth (either_edges c.in_ok-left-in-And.left c.in_ok-right-in-And.right)))
    (ap (λ l. op2 And (body_view l) (body_view c.deref-in-And.result.now)) c.deref.ensures
    ∙ ap (λ r. op2 And (body_view c.in-Op2.l.value) (body_view r)) c.deref-in-And.ensures
    ∙ ap (λ op. op2 op (body_view c.in-Op2.l.value) (body_view c.in-Op2.r.value)) (sym c.in-And.is)
    ∙ ap body_view (sym c.in-Op2.is))
    (both_means c.args.pattern.now c.args.depth c.in_ok-left-in-And.left c.in_ok-right-in-And.right (body_view c.deref.result.now) (body_view c.deref-in-And.result.now) c.in_ok-left-in-And.ensures c.in_ok-right-in-And.ensures))
