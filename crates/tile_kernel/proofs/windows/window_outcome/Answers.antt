-- One more row of the window is in the summary, and in the end all in the span.
use Rattle.std.proofs.Common.{◌≡◌, ℕ, ◌-◌, ◌<◌, ◌≤◌, ◌^◌, arith, subst, sym, length, get_or, List, ℤ}
use Rattle.std.specs.List.{flat_map, range_with_len}
use Rattle.std.proofs.lemmas.Grind.{common_steps}
use Rattle.tile_kernel.specs.Windows.{cells_across, window}
use Rattle.tile_kernel.proofs.Spans.{one_row_more, combined_of, few_more, few_in_all, place_within}
use Rattle.tile_kernel.proofs.windows.window_outcome.Goals as goal

pub with-all-requires : goal.with-all-requires
with-all-requires g c =
    let row = c.loop-row.row in
    let from = c.args.down.from in
    let width = c.args.grid.now.width in
    let le : from ≤ row = omega arith in
    let lt : row < c.args.down.to = omega arith in
    let there = place_within row c.args.down.to c.args.place (length c.args.across.now) lt c.requires.place in
    let one = c.requires.kept row c.args.place c.index-kept-row.result c.args.down c.requires.place there in
    let few : g.S.Summary.counted c.index-kept-row.result ≤ width = subst (λ s. g.S.Summary.counted s ≤ width) (sym c.index-kept-row.is) one.1 in
    let more = few_more row from _ _ width le c.loop-row.invariant.few few in
    let all = few_in_all row from c.args.down.to width (2 ^ 24) lt c.requires.rows in
    omega (arith, more, all)

pub loop-row-preserved : goal.loop-row-preserved
loop-row-preserved g c =
    let row = c.loop-row.row in
    let from = c.args.down.from in
    let width = c.args.grid.now.width in
    let across = get_or c.args.across.now c.args.place c.args.down in
    let le : from ≤ row = omega arith in
    let lt : row < c.args.down.to = omega arith in
    let there = place_within row c.args.down.to c.args.place (length c.args.across.now) lt c.requires.place in
    let one = c.requires.kept row c.args.place c.index-kept-row.result c.args.down c.requires.place there in
    let few : g.S.Summary.counted c.index-kept-row.result ≤ width = subst (λ s. g.S.Summary.counted s ≤ width) (sym c.index-kept-row.is) one.1 in
    let kept : g.S.Summary.keeps c.index-kept-row.result (cells_across c.args.grid.now across row) = subst (λ s. g.S.Summary.keeps s (cells_across c.args.grid.now across row)) (sym c.index-kept-row.is) one.0 in
    let more = few_more row from _ _ width le c.loop-row.invariant.few few in
    record {
      kept = one_row_more (g.S.Summary.keeps c.loop-row.all) (g.S.Summary.keeps c.index-kept-row.result) (g.S.Summary.keeps c.with-all.result) (cells_across c.args.grid.now across) from row le
          c.with-all.ensures.keeps c.loop-row.invariant.kept kept;
      within = omega arith;
      few = omega (arith, more, c.with-all.ensures.counted);
    }

pub returns : goal.returns
returns g c =
    let from = c.args.down.from in
    let across = get_or c.args.across.now c.args.place c.args.down in
    let end : c.loop-row.row - from ≡ c.args.down.to - from = omega (arith, c.loop-row.invariant.within) in
    let h : ℕ → List ℤ = cells_across c.args.grid.now across in
    combined_of g.S.Summary.op (g.S.Summary.keeps c.loop-row.all) c.outcome.result (window c.args.grid.now c.args.down across) c.outcome.ensures
    (subst (λ n. g.S.Summary.keeps c.loop-row.all (flat_map h (range_with_len from n))) end c.loop-row.invariant.kept)

pub loop-row-init : goal.loop-row-init
loop-row-init g c = grind (arith, common_steps)

pub overflow_mul-row : goal.overflow_mul-row
overflow_mul-row g c = grind (arith, common_steps)

pub overflow_add-row : goal.overflow_add-row
overflow_add-row g c = grind (arith, common_steps)
