-- One more cell.
use Rattle.std.proofs.Common.{◌≡◌, ◌∙◌, ◌<◌, ◌*◌, ◌∷◌, ◌++◌, [], ap, ap₂, sym, subst, arith, refl, length, map, Bool, ℕ, ℤ, pos, rules, SFits, w64}
use Rattle.std.proofs.lemmas.Int.{to_z-of_z}
use Rattle.std.proofs.lemmas.List.{length-set, get_or-map}
use Rattle.std.specs.Prelude.{List, slice_index_or}
use Rattle.arr_core.specs.declared.cell.Cell.{Cell}
use Rattle.arr_core.specs.declared.cell.Cell.TheVariants.{Int}
use Rattle.wcps_mean.specs.declared.cell.Outcome.{Outcome}
use Rattle.wcps_mean.specs.declared.cell.Outcome.TheVariants.{Value}
use Rattle.wcps_mean.specs.Answer.{cell_of}
use Rattle.tile_columns.proofs.ByRows.{flat_more}
use Rattle.tile_kernel.specs.Columns.{outcome_at}
use Rattle.tile_exec.specs.Items.{AreWrittenTo, value_of}
use Rattle.tile_exec.specs.Rows.{row_at, cells_from, first_place, cells_told, values_told, LieBelow}
use Rattle.tile_exec.proofs.Rows.{all_at_point}
use Rattle.tile_exec.proofs.Written.{written_none, written_cell, written_then}
use Rattle.tile_exec.proofs.row.write_values.Goals as goal

-- the place of each point's cell is below the count of cells
place_there : (ranks : List ℕ) (boolean : Bool) (values : List ℤ) (n k : ℕ) → LieBelow n (values_told ranks boolean values) → k < length ranks → slice_index_or ranks k 0 < n
place_there ranks boolean values n k h lt =
    let columns = map Value values ∷ [] in
    let d : ℕ × Cell = (0, Int (pos 0)) in
    let point = all_at_point (λ (w : ℕ × Cell). w.0 < n) (λ k. cells_from (first_place ranks 1 k) (boolean ∷ []) (row_at columns k)) (length ranks) k h lt in
    let below : slice_index_or ranks k 0 * 1 < n = point 0 d (omega arith) in
    omega (arith, below)

pub write_cell-requires : goal.write_cell-requires
write_cell-requires c =
    let below = place_there c.args.ranks.now c.args.boolean c.args.values.now (length c.args.cells.now.items) c.loop-k.k c.requires.below (omega (arith, c.loop-k-test.true)) in
    omega (arith, below, c.loop-k.invariant.length)

pub loop-k-init : goal.loop-k-init
loop-k-init c = record { length = refl; written = written_none c.args.cells.now.items }

pub loop-k-preserved : goal.loop-k-preserved
loop-k-preserved c =
    let inv = c.loop-k.invariant in
    let k = c.loop-k.k in
    let ranks = c.args.ranks.now in
    let values = c.args.values.now in
    let booleans = c.args.boolean ∷ [] in
    let columns = map Value values ∷ [] in
    let old = c.args.cells.now.items in
    let cells = c.loop-k.cells.items in
    let new = c.write_cell.new.cells.items in
    let p = slice_index_or ranks k 0 in
    let x = c.cell_of.result in
    let below = place_there ranks c.args.boolean values (length old) k c.requires.below (omega (arith, c.loop-k-test.true)) in
    let within : p < length cells = omega (arith, below, inv.length) in
    let one : AreWrittenTo cells new ((p, x) ∷ []) = subst (λ l. AreWrittenTo cells l ((p, x) ∷ [])) (sym c.write_cell.ensures) (written_cell cells p x within) in
    let lt : k < length values = omega (arith, c.loop-k-test.true, c.requires.there) in
    let value = slice_index_or values k (pos 0) in
    let fits : SFits w64 value = search rules in
    let there : outcome_at (map Value values) k ≡ Value (slice_index_or values k (pos 0)) = get_or-map Value values k (pos 0) (Value (pos 0)) lt in
    let single : p ≡ p * 1 = omega arith in
    let same : (p, x) ∷ [] ≡ cells_from (first_place ranks 1 k) booleans (row_at columns k) =
    ap₂ (λ (n : ℕ) (y : Cell). (n, y) ∷ []) single (c.cell_of.ensures ∙ ap (cell_of c.args.boolean) (to_z-of_z w64 value fits) ∙ ap (λ (o : Outcome). cell_of c.args.boolean (value_of o)) (sym there)) in
    let both = written_then old cells new (cells_told ranks booleans columns k) ((p, x) ∷ []) inv.written one in
    record {
      length = ap length c.write_cell.ensures ∙ length-set cells p x ∙ inv.length;
      written = subst (AreWrittenTo old new) (ap (λ l. cells_told ranks booleans columns k ++ l) same ∙ sym (flat_more (λ k. cells_from (first_place ranks 1 k) booleans (row_at columns k)) k)) both;
    }
