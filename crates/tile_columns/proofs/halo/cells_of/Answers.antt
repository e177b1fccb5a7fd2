-- Some rows more, and all of them.
use Rattle.std.proofs.Common.{◌≡◌, ◌∙◌, ◌+◌, ◌-◌, ◌*◌, ◌/◌, ◌<◌, ◌≤◌, ◌++◌, ◌+ℤ◌, pos, ap, subst, arith, map, rules, SFits, w32, to_z, of_z, ℕ, ℤ, List}
use Rattle.std.proofs.lemmas.Int.{ints}
use Rattle.tile_columns.specs.Reaching.{between, cross, extent}
use Rattle.tile_columns.specs.Windows.{field_cells}
use Rattle.tile_columns.proofs.Calls.{reads_on}
use Rattle.tile_columns.proofs.Halos.{rows_are, rows_more, rows_whole, extent_of, times_sum}
use Rattle.tile_columns.proofs.halo.cells_of.Goals as goal

pub read_rows-requires-clause-rows : goal.read_rows-requires-clause-rows
read_rows-requires-clause-rows g c =
    let w = c.args.window.now in
    let inv = c.loop-done.invariant in
    let f : SFits w32 c.coordinate.result = search rules in
    let h : SFits w32 c.coordinate-in-loop-done.result = search rules in
    let some : 0 < c.min-count.result = search rules in
    let fits : c.loop-done.done + c.min-count.result ≤ extent w.rows.halo = omega (arith, c.min-count.ensures, c.size_of-height.ensures.value, c.loop-done-test.true) in
    let few : c.min-count.result ≤ 4096 / c.size_of.result = omega (arith, c.min-count.ensures) in
    rows_are w _ c.loop-done.done c.min-count.result c.requires.ready.rows c.requires.ready.columns
    (omega (arith, ints, f, c.coordinate.ensures)) (omega (arith, ints, h, c.coordinate-in-loop-done.ensures)) some fits
    (subst (λ n. c.min-count.result ≤ 4096 / n) c.size_of.ensures.value few)

pub loop-done-preserved : goal.loop-done-preserved
loop-done-preserved g c =
    let w = c.args.window.now in
    let inv = c.loop-done.invariant in
    let next = c.in_ok-read_rows.ensures in
    let cell = field_cells (g.S.Tiles.state c.args.source.now) w in
    let columns = between w.columns.halo.lo w.columns.halo.hi in
    let f : SFits w32 c.coordinate.result = search rules in
    let h : SFits w32 c.coordinate-in-loop-done.result = search rules in
    let lo = to_z w32 (of_z w32 c.coordinate.result) in
    let hi = to_z w32 (of_z w32 c.coordinate-in-loop-done.result) in
    let some : 0 < c.min-count.result = search rules in
    let low : lo ≡ w.rows.halo.lo +ℤ pos c.loop-done.done = omega (arith, ints, f, c.coordinate.ensures) in
    let high : hi ≡ w.rows.halo.lo +ℤ pos (c.loop-done.done + (c.min-count.result - 1)) = omega (arith, ints, h, c.coordinate-in-loop-done.ensures) in
    let these = extent_of w.rows.halo.lo lo hi c.loop-done.done c.min-count.result some low high in
    let area = ap (λ n. n * extent w.columns.halo) these in
    let sum = times_sum c.loop-done.done c.min-count.result (extent w.columns.halo) in
    record {
      value = λ i. rows_more cell w.rows.halo.lo lo hi c.loop-done.done c.min-count.result columns c.loop-done.cells.items c.read_rows.new.cells.items some low high (inv.value i)
          (subst (λ (cells : ℕ → ℕ → List ℤ → ℤ). c.read_rows.new.cells.items ≡ c.loop-done.cells.items ++ map (cells w.place w.pattern.field) (cross (between lo hi) columns)) inv.reads.cells (next.value (inv.reads.intact i)));
      many = omega (arith, next.many, inv.many, area, sum);
      inside = omega (arith, c.min-count.ensures, c.loop-done-test.true);
      fetched = omega (arith, next.fetched, inv.fetched, area, sum);
      reads = reads_on inv.reads c.read_rows.ensures.reads.only;
      failures = next.reads.tells ∙ inv.failures;
    }

pub returns-clause-value : goal.returns-clause-value
returns-clause-value g c = λ i.
    let w = c.args.window.now in
    let inv = c.loop-done.invariant in
    rows_whole (field_cells (g.S.Tiles.state c.args.source.now) w) w.rows.halo.lo w.rows.halo.hi c.loop-done.done (between w.columns.halo.lo w.columns.halo.hi) c.loop-done.cells.items
    (omega (arith, inv.inside, c.size_of-height.ensures.value, c.loop-done-test.false)) (inv.value i)

pub loop-done-smaller : goal.loop-done-smaller
loop-done-smaller g c =
    let some : 0 < c.min-count.result = search rules in
    omega (arith, some, c.min-count.ensures, c.loop-done-test.true)
