-- The cells, as values.
use Rattle.std.proofs.Common.{◌∙◌, ap, sym, arith, map, get_or, []}
use Rattle.std.specs.Prelude.{slice_get}
use Rattle.std.proofs.lemmas.List.{length-map}
use Rattle.std.proofs.lemmas.Grind.{common_steps}
use Rattle.arr_core.specs.Domains.{points, count}
use Rattle.arr_core.specs.Tiles.{tile_boxes}
use Rattle.arr_core.specs.Meeting.{tile_number}
use Rattle.wcps_mean.specs.declared.cell.Outcome.TheVariants.{Value}
use Rattle.plan_ir.specs.Run.{numbers_at}
use Rattle.tile_columns.specs.Sources.{box_in}
use Rattle.tile_columns.proofs.Fetching.{on_ok}
use Rattle.tile_columns.proofs.Ranges.{map_map}
use Rattle.tile_columns.proofs.Gathers.{distinct_some, whole_column, whole_places}
use Rattle.tile_columns.proofs.Locating.{tile_here}
use Rattle.tile_columns.proofs.gather.read.Goals as goal

pub read_tile-requires : goal.read_tile-requires
read_tile-requires g c =
    let s = g.S.Tiles.state c.args.source.now in
    let r = c.args.reading.now in
    let w = c.in-Some.ensures in
    let here = tile_here (slice_get s.coverages r.coverage) r.field c.in-Some.number r.domain.now c.requires.there w.1 in
    let n = whole_places c.args.frame.now r.indexes.now (get_or (tile_boxes r.domain.now) c.in-Some.number []) (count (box_in s r.coverage c.in-Some.number)) w.2 (ap count here.1) in
    record { tile = here.0; points = n ∙ sym c.places-places.ensures.value; few = c.places-places.ensures.few }

pub returns-in-Some-clause-value : goal.returns-in-Some-clause-value
returns-in-Some-clause-value g c =
    let s = g.S.Tiles.state c.args.source.now in
    let r = c.args.reading.now in
    let w = c.in-Some.ensures in
    let here = tile_here (slice_get s.coverages r.coverage) r.field c.in-Some.number r.domain.now c.requires.there w.1 in
    on_ok c.read_tile.result
    (λ h i. h i ∙ ap (λ d. map (λ q. Value (s.cells r.coverage r.field q)) (points d)) here.1 ∙ whole_column c.args.frame.now r.indexes.now (get_or (tile_boxes r.domain.now) c.in-Some.number []) (s.cells r.coverage r.field) w.2)
    c.read_tile.ensures.value

pub returns-in-Some-clause-places : goal.returns-in-Some-clause-places
returns-in-Some-clause-places g c = on_ok c.read_tile.result (λ h. h ∙ c.places-places.ensures.value) c.read_tile.ensures.places

pub returns-in-Some-clause-fetched : goal.returns-in-Some-clause-fetched
returns-in-Some-clause-fetched g c =
    let w = c.in-Some.ensures in
    let numbers = map (λ e. tile_number c.args.reading.now.domain.now (numbers_at e c.args.reading.now.indexes.now)) c.args.frame.now in
    let n = length-map c.args.frame.now (λ e. tile_number c.args.reading.now.domain.now (numbers_at e c.args.reading.now.indexes.now)) in
    let some = distinct_some numbers (omega (arith, n, w.0)) in
    on_ok c.read_tile.result (λ h. omega (arith, h, some)) c.read_tile.ensures.fetched

pub returns-clause-value : goal.returns-clause-value
returns-clause-value g c = λ i.
    c.write.ensures ∙ ap (map Value) (c.deref.ensures.value ∙ c.in_ok-gather.ensures.value i)
    ∙ map_map Value (λ e. (g.S.Tiles.state c.args.source.now).cells c.args.reading.now.coverage c.args.reading.now.field (numbers_at e c.args.reading.now.indexes.now)) c.args.frame.now

pub returns-clause-places : goal.returns-clause-places
returns-clause-places g c = grind (arith, common_steps)
