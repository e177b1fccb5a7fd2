-- One more place has been counted.
use Rattle.std.proofs.Common.{◌≢◌, ◌∙◌, ap, arith, rules, get_or, pos, get_or-set_other, SFits, w64}
use Rattle.std.proofs.lemmas.Int.{to_z-of_z}
use Rattle.std.proofs.lemmas.Grind.{common_steps}
use Rattle.arr_core.specs.Domains.{gap}
use Rattle.tile_kernel.proofs.Places.{written_back}
use Rattle.tile_columns.specs.Locating.{tile_on, rank_on}
use Rattle.tile_columns.proofs.Ranges.{written_more}
use Rattle.tile_columns.proofs.locate.add_axis.Goals as goal

pub located_along-now-requires-clause-tile : goal.located_along-now-requires-clause-tile
located_along-now-requires-clause-tile c =
    let fits : SFits w64 (get_or c.args.coordinates.now c.loop-place.place (pos 0)) = search rules in
    rw (to_z-of_z w64 (get_or c.args.coordinates.now c.loop-place.place (pos 0)) fits, c.loop-place.invariant.tiles_left c.loop-place.place (omega arith)) (c.requires.few_tiles c.loop-place.place (omega arith))

pub located_along-now-requires-clause-rank : goal.located_along-now-requires-clause-rank
located_along-now-requires-clause-rank c =
    let fits : SFits w64 (get_or c.args.coordinates.now c.loop-place.place (pos 0)) = search rules in
    rw (to_z-of_z w64 (get_or c.args.coordinates.now c.loop-place.place (pos 0)) fits, c.loop-place.invariant.ranks_left c.loop-place.place (omega arith)) (c.requires.few_ranks c.loop-place.place (omega arith))

pub loop-place-preserved : goal.loop-place-preserved
loop-place-preserved c =
    let inv = c.loop-place.invariant in
    let fits : SFits w64 (get_or c.args.coordinates.now c.loop-place.place (pos 0)) = search rules in
    record {
      tiles = written_more (λ k. tile_on c.args.along.edge c.args.along.last (get_or c.args.tiles.now.items k 0) (gap c.args.along.lo (get_or c.args.coordinates.now k (pos 0)))) c.loop-place.numbers c.loop-place.place _ 0 (omega (arith, c.requires.places.0, c.args.tiles.now.ok.0))
          (c.located_along-now.ensures.tile
          ∙ ap (λ z. tile_on c.args.along.edge c.args.along.last (get_or c.loop-place.numbers c.loop-place.place 0) (gap c.args.along.lo z)) (to_z-of_z w64 (get_or c.args.coordinates.now c.loop-place.place (pos 0)) fits)
          ∙ ap (λ t. tile_on c.args.along.edge c.args.along.last t (gap c.args.along.lo (get_or c.args.coordinates.now c.loop-place.place (pos 0)))) (inv.tiles_left c.loop-place.place (omega arith))) inv.tiles;
      ranks = written_more (λ k. rank_on c.args.along.edge c.args.along.last (get_or c.args.ranks.now.items k 0) (gap c.args.along.lo (get_or c.args.coordinates.now k (pos 0)))) c.loop-place.within c.loop-place.place _ 0 (omega (arith, c.requires.places.1, c.args.ranks.now.ok.0))
          (c.located_along-now.ensures.rank
          ∙ ap (λ z. rank_on c.args.along.edge c.args.along.last (get_or c.loop-place.within c.loop-place.place 0) (gap c.args.along.lo z)) (to_z-of_z w64 (get_or c.args.coordinates.now c.loop-place.place (pos 0)) fits)
          ∙ ap (λ t. rank_on c.args.along.edge c.args.along.last t (gap c.args.along.lo (get_or c.args.coordinates.now c.loop-place.place (pos 0)))) (inv.ranks_left c.loop-place.place (omega arith))) inv.ranks;
      tiles_left = λ k l. let ne : k ≢ c.loop-place.place = omega arith in get_or-set_other c.loop-place.numbers c.loop-place.place k _ 0 ne ∙ inv.tiles_left k (omega arith);
      ranks_left = λ k l. let ne : k ≢ c.loop-place.place = omega arith in get_or-set_other c.loop-place.within c.loop-place.place k _ 0 ne ∙ inv.ranks_left k (omega arith);
    }

pub returns-clause-tiles : goal.returns-clause-tiles
returns-clause-tiles c = λ k lt.
    ap (λ l. get_or l k 0) (written_back c.args.tiles.now.len c.loop-place.numbers _ (omega (arith, c.args.tiles.now.ok.0))) ∙ c.loop-place.invariant.tiles k (omega arith)

pub returns-clause-ranks : goal.returns-clause-ranks
returns-clause-ranks c = λ k lt.
    ap (λ l. get_or l k 0) (written_back c.args.ranks.now.len c.loop-place.within _ (omega (arith, c.args.ranks.now.ok.0))) ∙ c.loop-place.invariant.ranks k (omega arith)

pub returns-clause-places : goal.returns-clause-places
returns-clause-places c = grind (arith, common_steps)
