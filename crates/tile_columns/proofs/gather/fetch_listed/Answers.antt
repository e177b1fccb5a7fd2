-- A tile is fetched, and the cells of all its places are written.
use Rattle.std.proofs.Common.{◌≡◌, ◌+◌, ◌∙◌, ◌++◌, ◌∷◌, ◌<◌, ap, sym, subst, arith, length, map, get_or, take, [], pos}
use Rattle.std.specs.Prelude.{slice_get}
use Rattle.std.proofs.lemmas.List.{length-map, get_or-map, take_more}
use Rattle.arr_core.specs.Domains.{points, count}
use Rattle.arr_core.specs.Meeting.{tile_number}
use Rattle.plan_ir.specs.Run.{numbers_at}
use Rattle.tile_columns.specs.Locating.{rank_in_tile}
use Rattle.tile_columns.proofs.Ranges.{at_same}
use Rattle.tile_columns.proofs.Gathers.{Gathered, number_of_place, gathered_more}
use Rattle.tile_columns.proofs.Picking.{listed_within}
use Rattle.tile_columns.proofs.Locating.{rank_within, cell_there, tile_here}
use Rattle.tile_columns.proofs.gather.fetch_listed.Goals as goal

pub tile-requires : goal.tile-requires
tile-requires g c =
    let below = listed_within c.args.reading.now.domain.now c.args.reading.now.indexes.now c.args.frame.now c.args.scratch.now.seen.items c.args.k c.index-number.result.now c.requires.inside c.requires.listed.1 c.requires.listed.0 c.index-number.ensures in
    (tile_here (slice_get (g.S.Tiles.state c.args.source.now).coverages c.args.reading.now.coverage) c.args.reading.now.field c.index-number.result.now c.args.reading.now.domain.now c.requires.there below).0

pub copy_fetched-requires-clause-ranks : goal.copy_fetched-requires-clause-ranks
copy_fetched-requires-clause-ranks g c =
    let n : length c.args.scratch.now.numbers.items ≡ length c.args.frame.now = ap length c.requires.located.tiles ∙ length-map c.args.frame.now (λ e. tile_number c.args.reading.now.domain.now (numbers_at e c.args.reading.now.indexes.now)) in
    ap length c.requires.located.ranks ∙ length-map c.args.frame.now (λ e. rank_in_tile c.args.reading.now.domain.now (numbers_at e c.args.reading.now.indexes.now)) ∙ sym n

pub copy_fetched-requires-clause-cells : goal.copy_fetched-requires-clause-cells
copy_fetched-requires-clause-cells g c =
    let n : length c.args.scratch.now.numbers.items ≡ length c.args.frame.now = ap length c.requires.located.tiles ∙ length-map c.args.frame.now (λ e. tile_number c.args.reading.now.domain.now (numbers_at e c.args.reading.now.indexes.now)) in
    c.requires.located.cells ∙ sym n

pub copy_fetched-requires-clause-inside : goal.copy_fetched-requires-clause-inside
copy_fetched-requires-clause-inside g c = λ j l e.
    let n : length c.args.scratch.now.numbers.items ≡ length c.args.frame.now = ap length c.requires.located.tiles ∙ length-map c.args.frame.now (λ e. tile_number c.args.reading.now.domain.now (numbers_at e c.args.reading.now.indexes.now)) in
    let lt : j < length c.args.frame.now = omega (arith, l, n) in
    let r : get_or c.args.scratch.now.ranks.items j 0 ≡ rank_in_tile c.args.reading.now.domain.now (numbers_at (get_or c.args.frame.now j []) c.args.reading.now.indexes.now) =
    ap (λ xs. get_or xs j 0) c.requires.located.ranks ∙ get_or-map (λ e. rank_in_tile c.args.reading.now.domain.now (numbers_at e c.args.reading.now.indexes.now)) c.args.frame.now j [] 0 lt in
    let here = number_of_place (λ e. tile_number c.args.reading.now.domain.now (numbers_at e c.args.reading.now.indexes.now)) c.args.frame.now [] c.args.scratch.now.numbers.items c.index-number.result.now j c.requires.located.tiles (sym (at_same c.args.scratch.now.numbers.items j c.index-number.result.now 0 l ∙ e)) lt in
    let inside = c.requires.inside j [] lt in
    let below = listed_within c.args.reading.now.domain.now c.args.reading.now.indexes.now c.args.frame.now c.args.scratch.now.seen.items c.args.k c.index-number.result.now c.requires.inside c.requires.listed.1 c.requires.listed.0 c.index-number.ensures in
    let box = (tile_here (slice_get (g.S.Tiles.state c.args.source.now).coverages c.args.reading.now.coverage) c.args.reading.now.field c.index-number.result.now c.args.reading.now.domain.now c.requires.there below).1 in
    omega (arith, r, rank_within c.args.reading.now.domain.now c.index-number.result.now (numbers_at (get_or c.args.frame.now j []) c.args.reading.now.indexes.now) c.tile.new.buffer.items inside here (c.in_ok-tile.ensures.places ∙ ap count box))

pub returns-clause-value : goal.returns-clause-value
returns-clause-value g c = λ i h.
    let n : length c.args.scratch.now.numbers.items ≡ length c.args.frame.now = ap length c.requires.located.tiles ∙ length-map c.args.frame.now (λ e. tile_number c.args.reading.now.domain.now (numbers_at e c.args.reading.now.indexes.now)) in
    let below = listed_within c.args.reading.now.domain.now c.args.reading.now.indexes.now c.args.frame.now c.args.scratch.now.seen.items c.args.k c.index-number.result.now c.requires.inside c.requires.listed.1 c.requires.listed.0 c.index-number.ensures in
    let box = (tile_here (slice_get (g.S.Tiles.state c.args.source.now).coverages c.args.reading.now.coverage) c.args.reading.now.field c.index-number.result.now c.args.reading.now.domain.now c.requires.there below).1 in
    subst (λ l. Gathered (take (c.args.k + 1) c.copy_fetched.new.scratch.seen.items) l (λ j. (g.S.Tiles.state c.args.source.now).cells c.args.reading.now.coverage c.args.reading.now.field (numbers_at (get_or c.args.frame.now j []) c.args.reading.now.indexes.now)) c.copy_fetched.new.scratch.cells.items) (sym c.copy_fetched.ensures.tiles)
    (gathered_more (take c.args.k c.args.scratch.now.seen.items) (take (c.args.k + 1) c.copy_fetched.new.scratch.seen.items) c.args.scratch.now.numbers.items (length c.args.frame.now) c.index-number.result.now
    (λ j. (g.S.Tiles.state c.args.source.now).cells c.args.reading.now.coverage c.args.reading.now.field (numbers_at (get_or c.args.frame.now j []) c.args.reading.now.indexes.now))
    c.args.scratch.now.cells.items _ n
    (ap (take (c.args.k + 1)) c.copy_fetched.ensures.seen ∙ take_more c.args.scratch.now.seen.items c.args.k c.index-number.result.now c.requires.listed.0 ∙ ap (λ m. take c.args.k c.args.scratch.now.seen.items ++ m ∷ []) (sym c.index-number.ensures))
    (λ j lt e.
    let l : j < length c.args.scratch.now.numbers.items = omega (arith, lt, n) in
    let here = number_of_place (λ e. tile_number c.args.reading.now.domain.now (numbers_at e c.args.reading.now.indexes.now)) c.args.frame.now [] c.args.scratch.now.numbers.items c.index-number.result.now j c.requires.located.tiles (sym (at_same c.args.scratch.now.numbers.items j c.index-number.result.now 0 l ∙ e)) lt in
    c.copy_fetched.ensures.cells.copied j l e
    ∙ ap (λ r. get_or c.tile.new.buffer.items r (pos 0)) (ap (λ xs. get_or xs j 0) c.requires.located.ranks ∙ get_or-map (λ e. rank_in_tile c.args.reading.now.domain.now (numbers_at e c.args.reading.now.indexes.now)) c.args.frame.now j [] 0 lt)
    ∙ cell_there c.args.reading.now.domain.now c.index-number.result.now (numbers_at (get_or c.args.frame.now j []) c.args.reading.now.indexes.now) ((g.S.Tiles.state c.args.source.now).cells c.args.reading.now.coverage c.args.reading.now.field) c.tile.new.buffer.items (c.requires.inside j [] lt) here
    (c.in_ok-tile.ensures.value i ∙ ap (λ d. map ((g.S.Tiles.state c.args.source.now).cells c.args.reading.now.coverage c.args.reading.now.field) (points d)) box))
    (λ j lt q. c.copy_fetched.ensures.cells.kept j (omega (arith, lt, n)) q)
    h)

pub returns-clause-located : goal.returns-clause-located
returns-clause-located g c = record {
  tiles = c.copy_fetched.ensures.tiles ∙ c.requires.located.tiles;
  ranks = c.copy_fetched.ensures.ranks ∙ c.requires.located.ranks;
  cells = c.copy_fetched.ensures.cells.places ∙ c.requires.located.cells;
}
