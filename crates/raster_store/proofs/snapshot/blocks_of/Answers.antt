-- The indexes of each coverage add their blocks.
use Rattle.std.proofs.Common.{List, ap, sym, ◌∙◌, arith}
use Rattle.std.proofs.lemmas.List.{take_all}
use Rattle.block_file.proofs.Times.{times_none}
use Rattle.raster_store.specs.declared.held.Held.{Held}
use Rattle.raster_store.specs.Views.{Index, listed_fields, listed_all}
use Rattle.raster_store.specs.Holding.{indexes_of}
use Rattle.raster_store.proofs.Totals.{listed_all-nil}
use Rattle.raster_store.proofs.Snapshots.{one_held_more}
use Rattle.raster_store.proofs.snapshot.blocks_of.Goals as goal

pub loop-coverage-init : goal.loop-coverage-init
loop-coverage-init c k = rw c.new-blocks.ensures.items (times_none k ∙ sym (listed_all-nil k))

pub loop-coverage-preserved : goal.loop-coverage-preserved
loop-coverage-preserved c k =
    let new = c.in_ok-push_blocks.ensures k in
    let listed = ap (λ (l : List Index). listed_fields l k) c.deref.ensures.value in
    omega (arith, new, listed, c.loop-coverage.invariant k, one_held_more c.args.held.now c.loop-coverage.coverage-index c.coverage-item.result k c.loop-coverage-test.true c.coverage-item.is)

pub returns : goal.returns
returns c k =
    c.loop-coverage.invariant k
    ∙ ap (λ (l : List Held). listed_all (indexes_of l) k) (take_all c.loop-coverage.coverage-index c.args.held.now c.loop-coverage-test.false)
