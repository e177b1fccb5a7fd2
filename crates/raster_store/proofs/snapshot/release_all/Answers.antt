-- The coverages so far have given up what they list, and the next one is counted still.
use Rattle.std.proofs.Common.{◌+◌, ◌∙◌, refl, arith}
use Rattle.raster_store.proofs.Totals.{listed_all-nil}
use Rattle.raster_store.proofs.Snapshots.{one_held_more, held_front}
use Rattle.raster_store.proofs.snapshot.release_all.Goals as goal

pub loop-coverage-init : goal.loop-coverage-init
loop-coverage-init g c = record { uses = λ k. omega (arith, listed_all-nil k); content = refl; synced = refl; size = refl; failures = refl; overreads = refl; honest = refl }

pub give_back_fields-requires : goal.give_back_fields-requires
give_back_fields-requires g c = λ k.
    let more = one_held_more c.args.held.now c.loop-coverage.coverage-index c.coverage-item.result k c.loop-coverage-test.true c.coverage-item.is in
    rw c.deref.ensures.value (omega (arith, more, held_front c.args.held.now (c.loop-coverage.coverage-index + 1) k, c.loop-coverage.invariant.uses k, c.requires k))

pub loop-coverage-preserved : goal.loop-coverage-preserved
loop-coverage-preserved g c =
    let inv = c.loop-coverage.invariant in
    let back = rw c.deref.ensures.value at c.give_back_fields.ensures in
    record {
      uses = λ k. let more = one_held_more c.args.held.now c.loop-coverage.coverage-index c.coverage-item.result k c.loop-coverage-test.true c.coverage-item.is in omega (arith, more, inv.uses k, back.uses k);
      content = back.content ∙ inv.content;
      synced = back.synced ∙ inv.synced;
      size = back.size ∙ inv.size;
      failures = back.failures ∙ inv.failures;
      overreads = back.overreads ∙ inv.overreads;
      honest = back.honest ∙ inv.honest;
    }
