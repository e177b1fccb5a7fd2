-- What is found of the condition and the body, under the variables of the places.
use Rattle.std.proofs.Common.{arith}
use Rattle.tile_columns.proofs.Turns.{if_some}
use Rattle.tile_columns.proofs.zones.zones_of.Goals as goal

pub returns : goal.returns
returns c =
    if_some c.zones_in.result _ _
    (λ z s. record {
      depth = c.depth.result;
      deep = c.depth.ensures;
      some = omega (arith, c.places-places.ensures.value, c.if-places-lt2.false);
      zoned = s;
    })
    c.zones_in.ensures
