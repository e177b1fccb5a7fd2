-- The cells of one tile's places.
use Rattle.std.proofs.Common.{◌≡◌, ◌-◌, ◌<◌, ◌∙◌, ap, sym, subst, get_or, take, drop, map, [], List, ℕ, ℤ, arith}
use Rattle.std.specs.Prelude.{slice_get}
use Rattle.std.specs.List.{All}
use Rattle.std.proofs.lemmas.Grind.{common_steps}
use Rattle.arr_core.specs.declared.domain.Axis.{Axis}
use Rattle.arr_core.specs.Domains.{count}
use Rattle.arr_core.specs.Tiles.{tile_boxes}
use Rattle.plan_ir.specs.Run.{numbers_at}
use Rattle.tile_columns.specs.declared.spots.Spot.{Spot}
use Rattle.tile_columns.specs.Sources.{box_in}
use Rattle.tile_columns.specs.Spots.{IsStretch, WritesWanted}
use Rattle.tile_columns.proofs.InOrder.{tile_of}
use Rattle.tile_columns.proofs.Locating.{tile_here}
use Rattle.tile_columns.proofs.Picking.{StandAt, in_stretch, tile_of_spot, ranks_within, picked_there, read_on}
use Rattle.tile_columns.proofs.stretches.fetch_stretch.Goals as goal

pub fetch_cells-requires-clause-tile : goal.fetch_cells-requires-clause-tile
fetch_cells-requires-clause-tile g c =
    let s = g.S.Tiles.state c.args.source.now in
    let axes = c.args.reading.now.domain.now in
    let is = c.args.reading.now.indexes.now in
    let spots = c.args.scratch.now.spots.items in
    let tile = c.index.result.now.tile in
    let at : tile ≡ (get_or spots c.args.from c.index.result.now).tile = ap (λ (x : Spot). x.tile) c.index.ensures in
    let lt = tile_of_spot axes is c.args.frame.now spots c.args.from tile c.index.result.now c.requires.inside c.requires.ordered.spots c.requires.some at in
    let here = tile_here (slice_get s.coverages c.args.reading.now.coverage) c.args.reading.now.field tile axes c.requires.there lt in
    here.0

pub fetch_cells-requires-clause-ranks : goal.fetch_cells-requires-clause-ranks
fetch_cells-requires-clause-ranks g c =
    let s = g.S.Tiles.state c.args.source.now in
    let axes = c.args.reading.now.domain.now in
    let is = c.args.reading.now.indexes.now in
    let spots = c.args.scratch.now.spots.items in
    let tile = c.index.result.now.tile in
    let at : tile ≡ (get_or spots c.args.from c.index.result.now).tile = ap (λ (x : Spot). x.tile) c.index.ensures in
    let lt = tile_of_spot axes is c.args.frame.now spots c.args.from tile c.index.result.now c.requires.inside c.requires.ordered.spots c.requires.some at in
    let here = tile_here (slice_get s.coverages c.args.reading.now.coverage) c.args.reading.now.field tile axes c.requires.there lt in
    let h = subst (λ (l : List Spot). IsStretch l c.args.from c.end_of-to.result) c.deref.ensures.value c.end_of-to.ensures in
    let of = in_stretch axes is c.args.frame.now spots c.args.from c.end_of-to.result tile c.requires.inside c.requires.ordered.spots h (at ∙ sym (tile_of spots c.args.from c.index.result.now c.requires.some)) in
    let part : List Spot → List Spot = λ l. take (c.end_of-to.result - c.args.from) (drop c.args.from l) in
    let wanted : c.list_ranks.new.ranks.items ≡ map (λ (x : Spot). x.rank) (part spots) = c.in_ok-list_ranks.ensures ∙ ap (λ (l : List Spot). map (λ (x : Spot). x.rank) (part l)) c.deref-2.ensures.value in
    subst (λ (b : List Axis). All (λ (n : ℕ). n < count b) c.list_ranks.new.ranks.items) (sym here.1)
    (subst (All (λ (n : ℕ). n < count (get_or (tile_boxes axes) tile []))) (sym wanted) (ranks_within axes is c.args.frame.now tile (part spots) of))

pub returns-clause-value : goal.returns-clause-value
returns-clause-value g c = λ i before.
    let s = g.S.Tiles.state c.args.source.now in
    let axes = c.args.reading.now.domain.now in
    let is = c.args.reading.now.indexes.now in
    let spots = c.args.scratch.now.spots.items in
    let tile = c.index.result.now.tile in
    let at : tile ≡ (get_or spots c.args.from c.index.result.now).tile = ap (λ (x : Spot). x.tile) c.index.ensures in
    let lt = tile_of_spot axes is c.args.frame.now spots c.args.from tile c.index.result.now c.requires.inside c.requires.ordered.spots c.requires.some at in
    let here = tile_here (slice_get s.coverages c.args.reading.now.coverage) c.args.reading.now.field tile axes c.requires.there lt in
    let h = subst (λ (l : List Spot). IsStretch l c.args.from c.end_of-to.result) c.deref.ensures.value c.end_of-to.ensures in
    let of = in_stretch axes is c.args.frame.now spots c.args.from c.end_of-to.result tile c.requires.inside c.requires.ordered.spots h (at ∙ sym (tile_of spots c.args.from c.index.result.now c.requires.some)) in
    let part : List Spot → List Spot = λ l. take (c.end_of-to.result - c.args.from) (drop c.args.from l) in
    let wanted : c.list_ranks.new.ranks.items ≡ map (λ (x : Spot). x.rank) (part spots) = c.in_ok-list_ranks.ensures ∙ ap (λ (l : List Spot). map (λ (x : Spot). x.rank) (part l)) c.deref-2.ensures.value in
    let cell = s.cells c.args.reading.now.coverage c.args.reading.now.field in
    let want : ℕ → ℤ = λ p. cell (numbers_at (get_or c.args.frame.now p []) is) in
    let kept = c.in_ok-fetch_cells.ensures.places in
    let picked = picked_there axes is c.args.frame.now tile (part spots) cell (box_in s c.args.reading.now.coverage tile) c.list_ranks.new.ranks.items c.fetch_cells.new.scratch.picked.items of wanted here.1 (c.in_ok-fetch_cells.ensures.value i) in
    let writes = subst (λ (l : List ℤ). WritesWanted (part spots) l c.fetch_cells.new.scratch.cells.items c.write_at_spots.new.cells.items) c.deref-4.ensures.value
    (subst (λ (l : List Spot). WritesWanted (part l) c.deref-4.result.now c.fetch_cells.new.scratch.cells.items c.write_at_spots.new.cells.items) (c.deref-3.ensures.value ∙ kept.spots) c.write_at_spots.ensures) in
    subst (λ (l : List Spot). StandAt l want c.write_at_spots.new.cells.items c.end_of-to.result) (sym kept.spots)
    (read_on spots c.args.from c.end_of-to.result want c.fetch_cells.new.scratch.picked.items c.fetch_cells.new.scratch.cells.items c.write_at_spots.new.cells.items h writes picked
    (subst (λ (l : List ℤ). StandAt spots want l c.args.from) (sym kept.cells) before))

pub write_at_spots-requires-clause-picked : goal.write_at_spots-requires-clause-picked
write_at_spots-requires-clause-picked g c = grind (arith, common_steps)

pub write_at_spots-requires-clause-places : goal.write_at_spots-requires-clause-places
write_at_spots-requires-clause-places g c = grind (arith, common_steps)
