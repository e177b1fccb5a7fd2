-- One more field.
use Rattle.std.proofs.Common.{◌≡◌, ◌∙◌, ◌<◌, ◌+◌, ◌∷◌, [], ap, sym, subst, arith, refl, length, get_or, take, false, ℕ, pos}
use Rattle.std.proofs.lemmas.List.{length-map, length-set, take_all}
use Rattle.arr_core.specs.declared.cell.Cell.{Cell}
use Rattle.arr_core.specs.declared.cell.Cell.TheVariants.{Int}
use Rattle.wcps_mean.specs.Answer.{cell_of}
use Rattle.wcps_mean.specs.declared.cell.Outcome.{Outcome}
use Rattle.std.specs.Prelude.{List}
use Rattle.tile_kernel.specs.Columns.{outcome_at}
use Rattle.tile_kernel.proofs.Places.{outcome_there}
use Rattle.tile_exec.specs.Items.{value_of, AreWrittenTo}
use Rattle.tile_exec.specs.Rows.{row_at, cells_from}
use Rattle.tile_exec.proofs.Rows.{cells_next, cell_place, cell_count_at}
use Rattle.tile_exec.proofs.Written.{written_none, written_cell, written_then}
use Rattle.tile_exec.proofs.row.write_point.Goals as goal

pub write_cell-requires : goal.write_cell-requires
write_cell-requires c =
    let place = c.args.place in
    let booleans = c.args.booleans.now in
    let os = row_at c.args.columns.now c.args.k in
    let j = c.loop-j.j in
    let d : ℕ × Cell = (0, Int (pos 0)) in
    let same : length os ≡ length booleans = length-map c.args.columns.now (λ (l : List Outcome). outcome_at l c.args.k) ∙ c.requires.columns in
    let lt : j < length booleans = omega (arith, c.loop-j-test.true) in
    let count = cell_count_at place booleans os same in
    let within = c.requires.below j d (omega (arith, count, lt)) in
    omega (arith, within, cell_place place booleans os j d same lt, c.loop-j.invariant.length)

pub loop-j-init : goal.loop-j-init
loop-j-init c = record { length = refl; written = written_none c.args.cells.now.items }

pub loop-j-preserved : goal.loop-j-preserved
loop-j-preserved c =
    let inv = c.loop-j.invariant in
    let place = c.args.place in
    let j = c.loop-j.j in
    let k = c.args.k in
    let booleans = c.args.booleans.now in
    let columns = c.args.columns.now in
    let old = c.args.cells.now.items in
    let cells = c.loop-j.cells.items in
    let new = c.write_cell.new.cells.items in
    let cell = c.cell_at.result in
    let x = c.index-columns-j.result in
    let o = c.at-o.result in
    let d : ℕ × Cell = (0, Int (pos 0)) in
    let os = row_at columns k in
    let same : length os ≡ length booleans = length-map columns (λ (l : List Outcome). outcome_at l k) ∙ c.requires.columns in
    let lt : j < length booleans = omega (arith, c.loop-j-test.true) in
    let count = cell_count_at place booleans os same in
    let below = c.requires.below j d (omega (arith, count, lt)) in
    let within : place + j < length cells = omega (arith, below, cell_place place booleans os j d same lt, inv.length) in
    let there : outcome_at (get_or columns j x) k ≡ o = ap (λ l. outcome_at l k) (sym c.index-columns-j.is) ∙ outcome_there x k o c.at-o.ensures in
    let one = subst (λ l. AreWrittenTo cells l ((place + j, cell) ∷ [])) (sym c.write_cell.ensures) (written_cell cells (place + j) cell within) in
    let both = written_then old cells new (cells_from place (take j booleans) (row_at (take j columns) k)) ((place + j, cell) ∷ []) inv.written one in
    let next = cells_next place booleans columns k j false x (place + j) cell c.requires.columns lt refl (c.cell_at.ensures ∙ ap (λ o. cell_of (get_or booleans j false) (value_of o)) (sym there)) in
    record {
      length = ap length c.write_cell.ensures ∙ length-set cells (place + j) cell ∙ inv.length;
      written = subst (AreWrittenTo old new) next both;
    }

pub returns-clause-written : goal.returns-clause-written
returns-clause-written c =
    let place = c.args.place in
    let j = c.loop-j.j in
    let k = c.args.k in
    let booleans = c.args.booleans.now in
    let columns = c.args.columns.now in
    let all_booleans : take j booleans ≡ booleans = take_all j booleans (omega (arith, c.loop-j-test.false)) in
    let all_columns : take j columns ≡ columns = take_all j columns (omega (arith, c.loop-j-test.false, c.requires.columns)) in
    let whole = ap (λ l. cells_from place l (row_at (take j columns) k)) all_booleans ∙ ap (λ l. cells_from place booleans (row_at l k)) all_columns in
    subst (AreWrittenTo c.args.cells.now.items c.loop-j.cells.items) whole c.loop-j.invariant.written
