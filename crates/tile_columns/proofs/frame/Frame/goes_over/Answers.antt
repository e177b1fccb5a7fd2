-- As many places as points, and at each the point.
use Rattle.std.proofs.Common.{◌∙◌, ap, sym, arith, map}
use Rattle.plan_ir.specs.Run.{numbers_at}
use Rattle.tile_columns.specs.Frames.{environment, turns}
use Rattle.tile_columns.proofs.Turns.{over_points}
use Rattle.tile_columns.proofs.frame.Frame.goes_over.Goals as goal

pub returns : goal.returns
returns c = λ t.
    sym (ap (map (λ e. numbers_at e c.args.indexes.now)) c.self.view_is)
    ∙ over_points c.args.area.now c.args.indexes.now c.self.inside.places c.self.inside.variables.items (omega (arith, c.points-total.ensures.count))
    (λ k. ap (λ v. numbers_at (environment v k) c.args.indexes.now) (sym c.deref.ensures.value) ∙ c.turn_as.ensures t k ∙ ap (λ a. turns a k) c.axes.ensures.value)
