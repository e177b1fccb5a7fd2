-- One more cell of the row is in the summary, and in the end all in the span.
use Rattle.std.proofs.Common.{◌≡◌, ◌-◌, ◌≤◌, arith, rules, subst, map, SFits, w64, to_z, of_z}
use Rattle.std.proofs.lemmas.Int.{to_z-of_z}
use Rattle.std.specs.List.{range_with_len}
use Rattle.tile_kernel.specs.Windows.{cell_of}
use Rattle.tile_kernel.proofs.Spans.{one_cell_more}
use Rattle.tile_kernel.proofs.windows.summary_across.Goals as goal

pub loop-column-preserved : goal.loop-column-preserved
loop-column-preserved g c =
    let from = c.args.across.from in
    let le : from ≤ c.loop-column.column = omega arith in
    let cell = cell_of c.args.grid.now c.args.row c.loop-column.column in
    let fits : SFits w64 cell = search rules in
    let same : to_z w64 (of_z w64 cell) ≡ cell = to_z-of_z w64 cell fits in
    record {
      kept = one_cell_more (g.S.Summary.keeps c.loop-column.all) (g.S.Summary.keeps c.of.result) (g.S.Summary.keeps c.with-all.result) (cell_of c.args.grid.now c.args.row) from c.loop-column.column _ le same c.with-all.ensures.keeps c.loop-column.invariant.kept c.of.ensures.keeps;
      within = omega arith;
      few = omega (arith, c.with-all.ensures.counted, c.of.ensures.counted, c.loop-column.invariant.few);
    }

pub returns-clause-kept : goal.returns-clause-kept
returns-clause-kept g c =
    let from = c.args.across.from in
    let end : c.loop-column.column - from ≡ c.args.across.to - from = omega (arith, c.loop-column.invariant.within) in
    subst (λ n. g.S.Summary.keeps c.loop-column.all (map (cell_of c.args.grid.now c.args.row) (range_with_len from n))) end c.loop-column.invariant.kept

pub returns-clause-few : goal.returns-clause-few
returns-clause-few g c = omega (arith, c.loop-column.invariant.few, c.loop-column.invariant.within)
