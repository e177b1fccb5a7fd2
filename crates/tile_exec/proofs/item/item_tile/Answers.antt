-- A tile of an item, point by point.
use Rattle.std.proofs.Common.{◌≡◌, ◌∙◌, ◌+◌, ◌*◌, ◌<◌, ◌≤◌, ◌^◌, ap, sym, subst, refl, arith, length, map, []}
use Rattle.std.specs.Prelude.{All, sum_by}
use Rattle.std.specs.List.{flat_map}
use Rattle.std.proofs.lemmas.List.{length-map}
use Rattle.std.proofs.lemmas.Option.{get_or_from_slice_get}
use Rattle.arr_core.specs.Domains.{points, count, rank_of}
use Rattle.arr_core.specs.Tiles.{tile_boxes}
use Rattle.wcps_mean.specs.Answer.{line_of, field_count}
use Rattle.plan_ir.specs.Plans.{FieldBody, signature_of, item_view, field_view}
use Rattle.plan_ir.specs.declared.plan.Field.{Field}
use Rattle.plan_ir.specs.Planned.{cells_of}
use Rattle.plan_ir.specs.Units.{bound_of}
use Rattle.tile_kernel.specs.Told.{IsFirst}
use Rattle.tile_columns.specs.Fields.{HavePlaces}
use Rattle.tile_exec.specs.Items.{places_of, told_to_item}
use Rattle.tile_exec.specs.Rows.{cells_told}
use Rattle.tile_exec.specs.Tasks.{item, bodies_of}
use Rattle.tile_exec.proofs.Rows.{part_inside, ranks_small, which_are_boolean, written_places, written_cells, told_rows, places_below}
use Rattle.tile_exec.proofs.item.item_tile.Goals as goal

pub first_fault-first-requires-clause-ranks : goal.first_fault-first-requires-clause-ranks
first_fault-first-requires-clause-ranks g c =
    subst (All (λ r. r < 2 ^ 24)) (sym (c.deref-2.ensures.value ∙ c.in_ok-ranks.ensures))
    (ranks_small c.args.item.now.domain (points c.in_ok-part.part) c.requires.placed.0.few_points (part_inside c.args.item.now.domain c.in_ok-part.part c.in_ok-part.ensures.inside c.axes-axes.ensures.domain.ordered))

pub first_fault-first-requires-clause-there : goal.first_fault-first-requires-clause-there
first_fault-first-requires-clause-there g c =
    let ranks = c.deref-2.ensures.value ∙ c.in_ok-ranks.ensures in
    let many : length c.deref-2.result.now ≡ length (points c.in_ok-part.part) = ap length ranks ∙ length-map (points c.in_ok-part.part) _ in
    subst (λ n. HavePlaces n c.deref-3.result.now) (sym many) (subst (HavePlaces (length (points c.in_ok-part.part))) (sym c.deref-3.ensures.value) c.in_ok-told.ensures.places)

pub returns-clause-fits : goal.returns-clause-fits
returns-clause-fits g c =
    let i = item_view c.args.item.now in
    let qs = points c.in_ok-part.part in
    let inside = part_inside i.domain c.in_ok-part.part c.in_ok-part.ensures.inside c.axes-axes.ensures.domain.ordered in
    let width = length-map c.args.item.now.fields.items field_view in
    let places = c.ranks.new.list.items in
    let all = c.in_ok-told.told.columns.items in
    let own = c.in_ok-booleans.booleans.items in
    let ranks = c.in_ok-ranks.ensures in
    let many : length places ≡ length qs = ap length ranks ∙ length-map qs (rank_of i.domain) in
    let columns = c.in_ok-told.ensures.fields ∙ sym width in
    let booleans = which_are_boolean c.args.item.now.fields.items own (c.in_ok-booleans.ensures ∙ ap (map (λ (f : Field). f.boolean)) c.deref.ensures.value) in
    let wide = ap length booleans ∙ length-map i.fields (λ (f : FieldBody). f.boolean) in
    let written = ap (λ l. cells_told places l all (length places)) booleans in
    record {
      giving = refl;
      columns = columns ∙ sym wide;
      there = subst (λ n. HavePlaces n all) (sym many) c.in_ok-told.ensures.places;
      small = subst (All (λ r. r < 2 ^ 24)) (sym ranks) (ranks_small i.domain qs c.requires.placed.0.few_points inside);
      few = omega (arith, wide, width);
      below = places_below i qs (cells_told places own all (length places)) inside (written_places i qs places all (cells_told places own all (length places)) ranks columns written);
      fresh = λ z. c.in_ok-fresh.ensures z ∙ ap (λ n. count i.domain * n) (sym width);
      line = c.run_length.ensures ∙ ap line_of c.axes.ensures.value;
      fields = c.field_count.ensures ∙ ap field_count (let n = c.len-2.ensures in omega (arith, n, width));
    }

pub returns-clause-tells : goal.returns-clause-tells
returns-clause-tells g c = λ knows intact.
    let i = item_view c.args.item.now in
    let s = cells_of (g.S.Tiles.state c.args.source.now).cells c.args.ground.now.coverages.now in
    let regs = c.args.ground.now.registers.now in
    let part = c.in_ok-part.part in
    let qs = points part in
    let is = get_or_from_slice_get (tile_boxes i.domain) c.args.tile part [] c.in_ok-part.ensures.value in
    let inside = part_inside i.domain part c.in_ok-part.ensures.inside c.axes-axes.ensures.domain.ordered in
    let width = length-map c.args.item.now.fields.items field_view in
    let places = c.ranks.new.list.items in
    let all = c.in_ok-told.told.columns.items in
    let own = c.in_ok-booleans.booleans.items in
    let ranks = c.in_ok-ranks.ensures in
    let many = c.in_ok-told.ensures.fields ∙ sym width in
    let columns = c.in_ok-told.ensures.value knows intact in
    let booleans = which_are_boolean c.args.item.now.fields.items own (c.in_ok-booleans.ensures ∙ ap (map (λ (f : Field). f.boolean)) c.deref.ensures.value) in
    let written = ap (λ l. cells_told places l all (length places)) booleans in
    let cells = cells_told places own all (length places) in
    let rows = told_rows s regs i qs c.deref-2.result.now c.deref-3.result.now (length c.deref-3.result.now) (c.deref-2.ensures.value ∙ ranks) (c.deref-3.ensures.value ∙ columns) (ap length c.deref-3.ensures.value ∙ many) in
    record {
      places = written_places i qs places all cells ranks many written ∙ ap (λ b. flat_map (places_of i) (points b)) (sym is);
      cells = written_cells s regs i qs places all cells ranks columns written inside;
      first = subst (IsFirst c.first_fault-first.result.fault c.first_fault-first.result.place) (rows ∙ ap (λ b. flat_map (told_to_item s regs i) (points b)) (sym is)) c.first_fault-first.ensures;
      known = c.in_ok-told.ensures.known intact;
    }

pub returns-clause-fetched : goal.returns-clause-fetched
returns-clause-fetched g c =
    let i = item_view c.args.item.now in
    let is = get_or_from_slice_get (tile_boxes i.domain) c.args.tile c.in_ok-part.part [] c.in_ok-part.ensures.value in
    let cs = signature_of (g.S.Tiles.state c.args.source.now).coverages c.args.ground.now.coverages.now in
    subst (λ b. (g.S.Tiles.state c.item_columns.new.source).fetched ≤ (g.S.Tiles.state c.args.source.now).fetched + sum_by (bound_of cs b) (bodies_of (item i))) (sym is) c.in_ok-told.ensures.fetched
