-- One more place.
use Rattle.std.proofs.Common.{◌∙◌, ap, sym, arith, ◌++◌, ◌∷◌, []}
use Rattle.std.proofs.lemmas.List.FromFn.{map-range_with_len_more}
use Rattle.tile_columns.specs.Spots.{spot_at}
use Rattle.tile_columns.proofs.spots.list_spots.Goals as goal

pub loop-place-preserved : goal.loop-place-preserved
loop-place-preserved c =
    c.in_ok-push.ensures.items
    ∙ ap (λ l. l ++ spot_at c.args.tiles.now c.args.ranks.now c.loop-place.place ∷ []) c.loop-place.invariant
    ∙ sym (map-range_with_len_more (spot_at c.args.tiles.now c.args.ranks.now) 0 c.loop-place.place c.loop-place.place (omega arith))
