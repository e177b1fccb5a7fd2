-- The tile that was read is the one with the number, and its box has as many points as it has cells.
use Rattle.std.proofs.Common.{rules}
use Rattle.tile_store.proofs.Cells.{tile_spells, tile_read}
use Rattle.tile_store.proofs.Listed.{found_covered, found_times}
use Rattle.tile_store.proofs.Takes.{refuses_as, reads_more}
use Rattle.tile_store.proofs.field.read_tile_into.Goals as goal

pub fill_tile-requires : goal.fill_tile-requires
fill_tile-requires g c =
    let index = c.args.field.index.now in
    found_covered index (g.B.Blocks.state c.args.blocks.now) c.args.tile _ c.get-entry.ensures c.requires.used

pub returns-in_err-fill_tile-clause-why : goal.returns-in_err-fill_tile-clause-why
returns-in_err-fill_tile-clause-why g c =
    let f = c.args.field in
    refuses_as (λ x is. search rules) c.in_err-fill_tile.ensures.why (λ damaged honest spelled. damaged honest
    (tile_spells f.kind f.domain.now f.index.now (g.B.Blocks.state c.args.blocks.now).content c.args.tile c.in_ok-part.part _ _ c.in_ok-part.ensures.part c.get-entry.ensures c.cell_count-count.ensures.count spelled)) (λ none. none)

pub returns-clause-read : goal.returns-clause-read
returns-clause-read g c =
    let f = c.args.field in
    tile_read f c.args.tile _ c.in_ok-part.part _ _ _ c.requires.tile c.in_ok-part.ensures.part c.get-entry.ensures c.cell_count-count.ensures.count c.cell_count-count.ensures.ordered c.in_ok-fill_tile.ensures.read

pub returns-in_err-fill_tile-clause-frame : goal.returns-in_err-fill_tile-clause-frame
returns-in_err-fill_tile-clause-frame g c = reads_more _ _ _ _ (found_times c.args.field.index.now c.args.tile _ c.get-entry.ensures) c.in_err-fill_tile.ensures.frame

pub returns-clause-frame : goal.returns-clause-frame
returns-clause-frame g c = reads_more _ _ _ _ (found_times c.args.field.index.now c.args.tile _ c.get-entry.ensures) c.in_ok-fill_tile.ensures.frame
