-- The blocks of a new tile hold bytes that spell its cells, and were in no use before.
use Rattle.std.proofs.Common.{◌≡◌, ℕ, ◌+◌, ◌∙◌, ap, sym, refl, List, length, length-append, arith, rules}
use Rattle.std.proofs.lemmas.Grind.{common_steps}
use Rattle.block_file.specs.State.{times}
use Rattle.block_file.proofs.Times.{times_append}
use Rattle.file_bytes.specs.Limits.{blocks_filled}
use Rattle.tile_store.proofs.Cells.{written_some}
use Rattle.tile_store.proofs.Parts.{data_written, padded_written}
use Rattle.tile_store.proofs.Sizes.{made_entry}
use Rattle.tile_store.proofs.Takes.{takes_written, within_taken}
use Rattle.tile_store.proofs.tile.write_tile.Goals as goal

pub write_bytes-requires-clause-fresh : goal.write_bytes-requires-clause-fresh
write_bytes-requires-clause-fresh g c = rw c.deref.ensures.value c.in_ok-fresh.ensures.fresh

pub returns-in_err-write_bytes-clause-takes : goal.returns-in_err-write_bytes-clause-takes
returns-in_err-write_bytes-clause-takes g c =
    takes_written c.args.taken.now.items c.in_ok-fresh.fresh.items _ _ _ _ c.in_ok-fresh.ensures.unused (within_taken _ _ _ _ _ c.in_ok-fresh.ensures.added c.in_ok-fresh.ensures.count c.in_ok-fresh.ensures.within) c.in_ok-fresh.ensures.takes
    (rw c.deref.ensures.value at c.in_err-write_bytes.ensures.frame) (rw c.deref.ensures.value at c.in_err-write_bytes.ensures.ends)

pub returns-clause-takes : goal.returns-clause-takes
returns-clause-takes g c =
    takes_written c.args.taken.now.items c.in_ok-fresh.fresh.items _ _ _ _ c.in_ok-fresh.ensures.unused (within_taken _ _ _ _ _ c.in_ok-fresh.ensures.added c.in_ok-fresh.ensures.count c.in_ok-fresh.ensures.within) c.in_ok-fresh.ensures.takes
    (rw c.deref.ensures.value at c.in_ok-write_bytes.ensures.frame) (rw c.deref.ensures.value at c.in_ok-write_bytes.ensures.ends)

pub returns-clause-written : goal.returns-clause-written
returns-clause-written g c =
    let bytes = c.in_ok-form.bytes.items in
    let holds = rw (c.deref.ensures.value, c.deref-2.ensures.value) at c.in_ok-write_bytes.ensures.written in
    let long : c.len-2.result ≡ length bytes = first_of (search rules, grind (arith, common_steps)) in
    let blocks : c.new.result ≡ c.in_ok-fresh.fresh.items = c.new.ensures.blocks ∙ c.deref-3.ensures.value in
    let numbers = rw c.deref-3.ensures.value at c.new.ensures.numbers in
    let filled : length c.in_ok-fresh.fresh.items ≡ blocks_filled (length bytes) = first_of (omega arith, grind (arith, common_steps)) in
    record {
      is_entry = λ e is. made_entry _ e (length bytes) c.in_ok-fresh.fresh.items is long blocks c.in_ok-form.ensures.some c.in_ok-form.ensures.few filled numbers;
      added = λ k. ap (λ (ks : List ℕ). times ks k) c.in_ok-fresh.ensures.added ∙ times_append c.args.taken.now.items c.in_ok-fresh.fresh.items k ∙ ap (λ (b : List ℕ). times c.args.taken.now.items k + times b k) (sym blocks);
      size = omega (arith, ap length c.in_ok-fresh.ensures.added, length-append c.args.taken.now.items c.in_ok-fresh.fresh.items, ap length blocks);
      written = λ honest. written_some c.args.kind _ _ bytes c.args.cells.now
          (data_written _ _ bytes c.in_ok-fresh.fresh.items blocks long (holds.bytes_are honest))
          c.in_ok-form.ensures.spelled
          c.in_ok-form.ensures.form
          (ap length blocks ∙ filled ∙ ap blocks_filled c.in_ok-form.ensures.length ∙ rw (sym c.are_zero.ensures.test ∙ c.if-are_zero.false) refl)
          (padded_written _ _ bytes c.in_ok-fresh.fresh.items blocks long (holds.padded honest));
      whole = λ honest. rw (sym blocks) at (holds.whole honest);
    }
