-- The list of all places, put in order.
use Rattle.std.proofs.Common.{subst}
use Rattle.std.specs.List.Sorted.{IsPermutation}
use Rattle.tile_columns.proofs.InOrder.{in_order}
use Rattle.tile_columns.proofs.spots.order_places.Goals as goal

pub returns : goal.returns
returns c = in_order c.args.tiles.now c.args.ranks.now c.order_spots.new.spots.items
    (subst (λ l. IsPermutation l c.order_spots.new.spots.items) c.in_ok-list_spots.ensures c.order_spots.ensures.same) c.order_spots.ensures.rising
