-- One more point.
use Rattle.std.proofs.Common.{◌≡◌, ◌∙◌, ◌<◌, ℕ, sym, subst, arith, refl, length}
use Rattle.std.specs.Prelude.{All}
use Rattle.arr_core.specs.declared.cell.Cell.{Cell}
use Rattle.tile_columns.proofs.ByRows.{flat_more}
use Rattle.tile_exec.specs.Items.{AreWrittenTo}
use Rattle.tile_exec.specs.Rows.{row_at, cells_from, first_place, cells_told, all_cells_told}
use Rattle.tile_exec.proofs.Rows.{all_at_point}
use Rattle.tile_exec.proofs.Written.{written_none, written_then}
use Rattle.tile_exec.proofs.row.write_each.Goals as goal

pub write_point-requires-clause-below : goal.write_point-requires-clause-below
write_point-requires-clause-below c =
    let ranks = c.args.ranks.now in
    let booleans = c.args.booleans.now in
    let columns = c.args.columns.now in
    let all = subst (λ m. All (λ (w : ℕ × Cell). w.0 < m) (all_cells_told ranks booleans columns)) (sym c.loop-k.invariant.length) c.requires.below in
    all_at_point (λ (w : ℕ × Cell). w.0 < length c.loop-k.cells.items) (λ k. cells_from (first_place ranks (length booleans) k) booleans (row_at columns k)) (length ranks) c.loop-k.k all
    (omega (arith, c.loop-k-test.true))

pub loop-k-init : goal.loop-k-init
loop-k-init c = record { length = refl; written = written_none c.args.cells.now.items }

pub loop-k-preserved : goal.loop-k-preserved
loop-k-preserved c =
    let inv = c.loop-k.invariant in
    let k = c.loop-k.k in
    let ranks = c.args.ranks.now in
    let booleans = c.args.booleans.now in
    let columns = c.args.columns.now in
    let old = c.args.cells.now.items in
    let new = c.write_point.new.cells.items in
    let point = cells_from (first_place ranks (length booleans) k) booleans (row_at columns k) in
    let both = written_then old c.loop-k.cells.items new (cells_told ranks booleans columns k) point inv.written c.write_point.ensures.written in
    record {
      length = c.write_point.ensures.length ∙ inv.length;
      written = subst (AreWrittenTo old new) (sym (flat_more (λ k. cells_from (first_place ranks (length booleans) k) booleans (row_at columns k)) k)) both;
    }

pub returns-clause-written : goal.returns-clause-written
returns-clause-written c =
    let ranks = c.args.ranks.now in
    let all : c.loop-k.k ≡ length ranks = omega (arith, c.loop-k-test.false, c.loop-k.auto.k-end) in
    subst (λ n. AreWrittenTo c.args.cells.now.items c.loop-k.cells.items (cells_told ranks c.args.booleans.now c.args.columns.now n)) all c.loop-k.invariant.written
