-- Each tile so far stands in fresh blocks as it is after the write, and the field still has its numbers.
use Rattle.std.proofs.Common.{rules, arith, subst, ℕ, get_or, refl, ◌∙◌, take_all}
use Rattle.std.proofs.lemmas.List.Sums.{sum_by_more_le}
use Rattle.disk_face.specs.Disk.{Rose}
use Rattle.block_file.proofs.Times.{times_none}
use Rattle.tile_store.specs.Patches.{blocks_after}
use Rattle.tile_store.specs.Room.{tile_blocks}
use Rattle.tile_store.proofs.Cells.{meets_at}
use Rattle.tile_store.proofs.Growth.{tiles_done, tile_needs, takes_few}
use Rattle.tile_store.proofs.Kept.{tile_kept}
use Rattle.tile_store.specs.Listing.{given}
use Rattle.tile_store.proofs.Patched.{more_written, keeps_taken, reads_taken}
use Rattle.tile_store.proofs.Takes.{takes_none, takes_read, reads_same, free_read, refuses_as}
use Rattle.tile_store.proofs.update.write_tiles.Goals as goal

pub loop-tile-init : goal.loop-tile-init
unfolding given
loop-tile-init g c = record {
  written = record {
    tiles_are = rw c.requires.none.0 refl;
    entries = rw c.requires.none.0 (λ i d h. absurd (omega (arith, h)));
    counted = λ k. rw (c.requires.none.0, c.requires.none.1) (times_none k);
    size = rw (c.requires.none.0, c.requires.none.1) refl;
    whole = λ honest k some. absurd (let none = rw c.requires.none.1 at some in omega (arith, none, times_none k));
    written = λ honest. rw c.requires.none.0 (λ i d h. absurd (omega (arith, h)));
    read = λ honest. rw c.requires.none.0 (λ i d h. absurd (omega (arith, h)));
  };
  takes = rw c.requires.none.1 (takes_none _ _ _ (reads_same _ _));
  quiet = refl;
}

pub cells_after-requires-clause-tile : goal.cells_after-requires-clause-tile
cells_after-requires-clause-tile g c = (meets_at _ _ _ c.loop-tile.tile-index c.requires.tiles c.loop-tile-test.true).0

pub cells_after-requires-clause-used : goal.cells_after-requires-clause-used
cells_after-requires-clause-used g c = λ k. omega (arith, c.requires.sound.counted k, c.loop-tile.invariant.takes.moves.uses k)

pub loop-tile-preserved : goal.loop-tile-preserved
loop-tile-preserved g c =
    let inv = c.loop-tile.invariant in
    let read = reads_taken c.args.patch.now.domain.now c.args.field.now _ _ _ _ c.requires.sound inv.takes c.in_ok-cells.ensures.frame in
    record {
      written = more_written c.args.patch.now _ _ _ _ c.args.field.now c.args.tiles.now c.loop-tile.tile-index c.loop-tile.fresh _ _ _ c.loop-tile-test.true c.requires.sound inv.takes read c.in_ok-entry.ensures.takes inv.written
          c.in_ok-cells.ensures.after (rw c.deref.ensures.value at c.in_ok-entry.ensures.written) c.in_ok-push.ensures.items;
      takes = takes_read _ _ _ _ _ _ _ inv.takes read c.in_ok-entry.ensures.takes;
      quiet = c.in_ok-entry.ensures.told.quiet (λ e. cc) ∙ c.in_ok-cells.ensures.told.quiet (λ e. cc) ∙ inv.quiet;
    }

pub returns-in_err-cells-clause-takes : goal.returns-in_err-cells-clause-takes
returns-in_err-cells-clause-takes g c =
    let takes = c.loop-tile.invariant.takes in
    takes_read _ _ _ _ _ _ _ takes (reads_taken c.args.patch.now.domain.now c.args.field.now _ _ _ _ c.requires.sound takes c.in_err-cells.ensures.frame) (takes_none _ _ _ (reads_same _ _))

pub returns-in_err-entry-clause-takes : goal.returns-in_err-entry-clause-takes
returns-in_err-entry-clause-takes g c =
    let takes = c.loop-tile.invariant.takes in
    takes_read _ _ _ _ _ _ _ takes (reads_taken c.args.patch.now.domain.now c.args.field.now _ _ _ _ c.requires.sound takes c.in_ok-cells.ensures.frame) c.in_err-entry.ensures.takes

pub returns-in_err-push-clause-takes : goal.returns-in_err-push-clause-takes
returns-in_err-push-clause-takes g c =
    let takes = c.loop-tile.invariant.takes in
    takes_read _ _ _ _ _ _ _ takes (reads_taken c.args.patch.now.domain.now c.args.field.now _ _ _ _ c.requires.sound takes c.in_ok-cells.ensures.frame) c.in_ok-entry.ensures.takes

pub returns-clause-written : goal.returns-clause-written
returns-clause-written g c = rw (take_all c.loop-tile.tile-index c.args.tiles.now c.loop-tile-test.false) at c.loop-tile.invariant.written

pub returns-in_err-cells-clause-why : goal.returns-in_err-cells-clause-why
returns-in_err-cells-clause-why g c =
    let u = c.args.patch.now in
    let takes = c.loop-tile.invariant.takes in
    refuses_as (λ x is. search rules) c.in_err-cells.ensures.why (λ cut honest.
    let kept = keeps_taken u.domain.now c.args.field.now _ _ _ c.requires.sound honest takes in
    let damaged = cut (rw takes.moves.honest honest) in
    (_, meets_at _ _ _ c.loop-tile.tile-index c.requires.tiles c.loop-tile-test.true, damaged.0, λ spelled. damaged.1 (tile_kept u.kind u.domain.now c.args.field.now _ _ _ kept spelled))) (λ none. absurd none)

pub returns-in_err-entry-clause-why : goal.returns-in_err-entry-clause-why
returns-in_err-entry-clause-why g c = refuses_as (λ x is. search rules) c.in_err-entry.ensures.why (λ none. absurd none) (λ lacking honest.
    let u = c.args.patch.now in
    let start = g.B.Blocks.state c.args.blocks.now in
    let inv = c.loop-tile.invariant in
    let tiles = c.args.tiles.now in
    let i = c.loop-tile.tile-index in
    let less = rw (free_read _ _ c.in_ok-cells.ensures.frame, c.deref.ensures.value) at lacking in
    omega (
      arith,
      sum_by_more_le (blocks_after u start c.args.field.now) tiles i 0 c.loop-tile-test.true,
      inv.takes.free,
      tiles_done u start _ c.args.field.now _ _ honest inv.written,
      less,
      tile_needs u start _ c.args.field.now _ (get_or tiles i 0) _ c.requires.sound honest inv.takes c.in_ok-cells.ensures.after,
    ))

pub returns-in_err-cells-clause-few : goal.returns-in_err-cells-clause-few
returns-in_err-cells-clause-few g c =
    takes_few c.args.patch.now _ _ c.args.field.now c.args.tiles.now _ c.loop-tile.tile-index 0 _ c.loop-tile-test.true c.loop-tile.invariant.written (λ honest. omega arith) (omega arith)

pub returns-in_err-entry-clause-few : goal.returns-in_err-entry-clause-few
returns-in_err-entry-clause-few g c =
    let u = c.args.patch.now in
    let inv = c.loop-tile.invariant in
    let more : ℕ = tile_blocks u.kind c.in_ok-cells.cells.items in
    takes_few u (g.B.Blocks.state c.args.blocks.now) _ c.args.field.now c.args.tiles.now _ c.loop-tile.tile-index more _ c.loop-tile-test.true inv.written
    (λ honest. omega (arith, tile_needs u _ _ c.args.field.now _ _ c.in_ok-cells.cells.items c.requires.sound honest inv.takes c.in_ok-cells.ensures.after)) (rw c.deref.ensures.value at c.in_err-entry.ensures.few)

pub returns-in_err-push-clause-few : goal.returns-in_err-push-clause-few
returns-in_err-push-clause-few g c =
    let u = c.args.patch.now in
    let inv = c.loop-tile.invariant in
    let more : ℕ = tile_blocks u.kind c.in_ok-cells.cells.items in
    takes_few u (g.B.Blocks.state c.args.blocks.now) _ c.args.field.now c.args.tiles.now _ c.loop-tile.tile-index more _ c.loop-tile-test.true inv.written
    (λ honest. omega (arith, tile_needs u _ _ c.args.field.now _ _ c.in_ok-cells.cells.items c.requires.sound honest inv.takes c.in_ok-cells.ensures.after)) (rw c.deref.ensures.value at c.in_ok-entry.ensures.few)

pub returns-clause-few : goal.returns-clause-few
returns-clause-few g c = λ honest.
    let written = rw (take_all c.loop-tile.tile-index c.args.tiles.now c.loop-tile-test.false) at c.loop-tile.invariant.written in
    omega (arith, tiles_done c.args.patch.now _ _ c.args.field.now c.args.tiles.now _ honest written)

pub returns-in_err-entry-clause-told : goal.returns-in_err-entry-clause-told
returns-in_err-entry-clause-told g c =
    let before = c.in_ok-cells.ensures.told.quiet (λ e. cc) ∙ c.loop-tile.invariant.quiet in
    let last = c.in_err-entry.ensures.told in
    record {
      told = λ is. subst (λ n. Rose n (g.B.Blocks.state c.write_tile.new.blocks).failures) before (last.told (search rules));
      quiet = λ none. last.quiet (λ is. none (search rules)) ∙ before;
    }

pub returns-in_err-push-clause-told : goal.returns-in_err-push-clause-told
returns-in_err-push-clause-told g c = record {
  told = λ is. absurd (first_of (search rules, cc));
  quiet = λ none. c.in_ok-entry.ensures.told.quiet (λ e. cc) ∙ c.in_ok-cells.ensures.told.quiet (λ e. cc) ∙ c.loop-tile.invariant.quiet;
}
