-- Each block is given back as often as the tiles so far list it.
use Rattle.std.proofs.Common.{arith, ◌+◌, ap, refl, ◌∙◌, List, ℕ}
use Rattle.tile_index.specs.declared.entry.Entry.{Entry}
use Rattle.tile_store.specs.Listing.{listed}
use Rattle.tile_store.proofs.Listed.{listed_part, listed_front}
use Rattle.tile_store.proofs.field.give_back.Goals as goal

pub loop-tile-init : goal.loop-tile-init
unfolding listed
loop-tile-init g c = record { uses = λ k. refl; content = refl; synced = refl; size = refl; failures = refl; overreads = refl; honest = refl }

pub give_back-requires : goal.give_back-requires
give_back-requires g c = λ k.
    let entries = c.as_slice-entries.result.now in
    let i = c.loop-tile._tile-index in
    let part = listed_part entries i c.loop-tile-item.result k c.loop-tile-test.true c.loop-tile-item.is in
    let covers = c.requires k in
    rw c.as_slice.ensures (omega (arith, part, listed_front entries (i + 1) k, c.loop-tile.invariant.uses k, covers, ap (λ (e : List (ℕ × Entry)). listed e k) c.as_slice-entries.ensures.pairs, ap (λ (e : List (ℕ × Entry)). listed e k) c.field.view_is))

pub loop-tile-preserved : goal.loop-tile-preserved
loop-tile-preserved g c =
    let inv = c.loop-tile.invariant in
    let back = rw c.as_slice.ensures at c.give_back.ensures in
    record {
      uses = λ k. let part = listed_part c.as_slice-entries.result.now c.loop-tile._tile-index c.loop-tile-item.result k c.loop-tile-test.true c.loop-tile-item.is in omega (arith, part, inv.uses k, back.uses k);
      content = back.content ∙ inv.content;
      synced = back.synced ∙ inv.synced;
      size = back.size ∙ inv.size;
      failures = back.failures ∙ inv.failures;
      overreads = back.overreads ∙ inv.overreads;
      honest = back.honest ∙ inv.honest;
    }
