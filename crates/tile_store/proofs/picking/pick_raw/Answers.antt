-- Each cell was read at its rank.
use Rattle.std.proofs.Common.{◌≡◌, ◌∙◌, length, rules, arith, SFits, w64, to_z-of_z}
use Rattle.file_bytes.specs.declared.form.Form.TheVariants.{Raw}
use Rattle.tile_store.specs.Picking.{cells_as}
use Rattle.run_tile.proofs.Picks.{picked-all}
use Rattle.tile_store.proofs.Picks.{entry_moved, last_moved, picks_more}
use Rattle.tile_store.proofs.Takes.{reads_then}
use Rattle.tile_store.proofs.picking.pick_raw.Goals as goal

pub read_raw_cell-requires-clause-entry : goal.read_raw_cell-requires-clause-entry
read_raw_cell-requires-clause-entry g c = entry_moved _ _ c.args.entry.now c.loop-place.invariant.frame c.requires.entry

pub loop-place-preserved : goal.loop-place-preserved
loop-place-preserved g c =
    let inv = c.loop-place.invariant in
    let done = c.in_ok-cells.ensures in
    let z = c.in_ok-cells.field-0 in
    let fits : SFits w64 z = search rules in
    record {
      last = last_moved _ _ c.read_raw_cell.new.last c.read_raw_cell.new.bytes done.frame done.last;
      picked = λ honest.
          picks_more Raw c.args.kind _ (g.B.Blocks.state c.loop-place.blocks) c.args.entry.now c.args.ranks.now c.loop-place.place c.loop-place.cells _ inv.frame (omega (arith, c.requires.room)) honest (inv.picked honest) (λ sure. to_z-of_z fits ∙ done.cell sure);
      frame = reads_then _ _ _ inv.frame done.frame;
      quiet = done.told.quiet (λ e. cc) ∙ inv.quiet;
    }

pub returns-clause-picked : goal.returns-clause-picked
returns-clause-picked g c = λ honest.
    let inv = c.loop-place.invariant in
    let s = g.B.Blocks.state c.args.blocks.now in
    let size : length c.loop-place.cells ≡ length c.args.ranks.now = omega (arith, c.requires.room) in
    picked-all (cells_as Raw c.args.kind s c.args.entry.now) c.args.ranks.now c.loop-place.cells size (λ k h. inv.picked honest k (omega arith))
