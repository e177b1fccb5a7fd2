-- The items of a list, as values.
use Rattle.std.proofs.Common.{◌∙◌, ap, map, get_or, pos}
use Rattle.arr_core.specs.Domains.{rank_of}
use Rattle.wcps_mean.specs.declared.cell.Outcome.TheVariants.{Value}
use Rattle.plan_ir.specs.Run.{numbers_at}
use Rattle.tile_columns.proofs.Ranges.{map_map}
use Rattle.tile_columns.proofs.lookup.look_up.Goals as goal

pub returns : goal.returns
returns c = c.write.ensures ∙ ap (map Value) (c.deref.ensures.value ∙ c.in_ok-items_of.ensures) ∙ map_map Value (λ e. get_or c.args.items.now (rank_of c.args.domain.now (numbers_at e c.args.indexes.now)) (pos 0)) c.args.frame.now
