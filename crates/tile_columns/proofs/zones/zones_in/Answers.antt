-- What is found of the condition, if there is one, and the body.
use Rattle.std.proofs.Common.{sym, subst}
use Rattle.std.specs.Prelude.{IfSome, Option}
use Rattle.plan_ir.specs.declared.body.Body.{Body}
use Rattle.plan_ir.specs.Bodies.{body_view, condition_view}
use Rattle.tile_columns.specs.Zones.{HasZones}
use Rattle.tile_columns.proofs.zones.zones_in.Goals as goal

pub returns-in-Some : goal.returns-in-Some
returns-in-Some c = subst (λ (o : Option Body). IfSome c.in_condition.result (HasZones c.args.depth (condition_view o) (body_view c.args.fold.now.body))) (sym c.in-Some.is) c.in_condition.ensures

pub returns-in-None : goal.returns-in-None
returns-in-None c = subst (λ (o : Option Body). IfSome c.in_body.result (HasZones c.args.depth (condition_view o) (body_view c.args.fold.now.body))) (sym c.in-None.is) c.in_body.ensures
