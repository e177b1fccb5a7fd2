-- The tile that was read is the one with the number, and its box has as many points as the list has values.
use Rattle.std.proofs.Common.{refl, rules, arith, ◌∙◌, ◌≡◌}
use Rattle.arr_core.specs.Domains.{count}
use Rattle.arr_core.proofs.Points.{length-points, count-pos}
use Rattle.arr_core.specs.Tiles.{tile_box}
use Rattle.tile_store.proofs.Cells.{tile_spells, tile_read}
use Rattle.tile_store.proofs.Listed.{found_covered, found_times}
use Rattle.tile_store.proofs.Picks.{tile_ordered, tile_few}
use Rattle.tile_store.proofs.Takes.{refuses_as, reads_more}
use Rattle.tile_store.proofs.runs.read_runs_into.Goals as goal

pub fill_runs-requires : goal.fill_runs-requires
fill_runs-requires g c =
    let f = c.args.field in
    let box = tile_box f.domain.now c.args.tile in
    let size : c.len-count.result ≡ count box = search rules ∙ c.requires.room ∙ length-points box in
    record {
      used = found_covered f.index.now (g.B.Blocks.state c.args.blocks.now) c.args.tile _ c.get-entry.ensures c.requires.used;
      some = omega (arith, size, count-pos box);
      room = search rules;
      few = omega (arith, size, tile_few f.domain.now c.args.tile c.axes-axes.ensures.domain c.requires.tile);
    }

pub returns-in_err-fill_runs-clause-why : goal.returns-in_err-fill_runs-clause-why
returns-in_err-fill_runs-clause-why g c =
    let f = c.args.field in
    let box = tile_box f.domain.now c.args.tile in
    let size : c.len-count.result ≡ count box = search rules ∙ c.requires.room ∙ length-points box in
    refuses_as (λ x is. search rules) c.in_err-fill_runs.ensures.why (λ damaged honest spelled. damaged honest
    (tile_spells f.kind f.domain.now f.index.now (g.B.Blocks.state c.args.blocks.now).content c.args.tile box _ _ refl c.get-entry.ensures size spelled)) (λ none. none)

pub returns-clause-read : goal.returns-clause-read
returns-clause-read g c =
    let f = c.args.field in
    let box = tile_box f.domain.now c.args.tile in
    let size : c.len-count.result ≡ count box = search rules ∙ c.requires.room ∙ length-points box in
    tile_read f c.args.tile _ box _ _ _ c.requires.tile refl c.get-entry.ensures size (tile_ordered f.domain.now c.args.tile c.axes-axes.ensures.domain c.requires.tile) c.in_ok-fill_runs.ensures.read

pub returns-in_err-fill_runs-clause-frame : goal.returns-in_err-fill_runs-clause-frame
returns-in_err-fill_runs-clause-frame g c = reads_more _ _ _ _ (found_times c.args.field.index.now c.args.tile _ c.get-entry.ensures) c.in_err-fill_runs.ensures.frame

pub returns-clause-frame : goal.returns-clause-frame
returns-clause-frame g c = reads_more _ _ _ _ (found_times c.args.field.index.now c.args.tile _ c.get-entry.ensures) c.in_ok-fill_runs.ensures.frame
