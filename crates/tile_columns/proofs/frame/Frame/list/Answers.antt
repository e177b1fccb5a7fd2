-- What an index stands for at each place.
use Rattle.std.proofs.Common.{◌∙◌, ap, sym, subst, map}
use Rattle.std.specs.List.{All, range_with_len}
use Rattle.plan_ir.specs.Run.{number_at}
use Rattle.tile_columns.specs.Frames.{environment, HasPlaces}
use Rattle.tile_columns.proofs.Turns.{listed}
use Rattle.tile_columns.proofs.frame.Frame.list.Goals as goal

pub list_index-requires : goal.list_index-requires
list_index-requires c = subst (All (HasPlaces c.self.inside.places)) (sym c.deref.ensures.value) c.self.invariant.whole

pub returns : goal.returns
returns c =
    listed c.self.inside.places c.self.inside.variables.items c.args.index c.list_index.new.numbers.items
    (c.in_ok-list_index.ensures ∙ ap (λ v. map (λ place. number_at (environment v place) c.args.index) (range_with_len 0 c.self.inside.places)) c.deref.ensures.value)
    ∙ ap (map (λ e. number_at e c.args.index)) c.self.view_is
