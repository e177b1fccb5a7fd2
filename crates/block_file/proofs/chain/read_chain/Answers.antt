-- The links so far are those of any chain the header begins, and a block that cannot be kept refutes each.
use Rattle.std.proofs.Common.{◌+◌, ◌*◌, ◌≤◌, IsTrue, length, length-set, refl, ap, sym, arith, ◌∙◌}
use Rattle.block_file.proofs.Chains.{followed_none, followed_more, refuted}
use Rattle.block_file.proofs.Markings.{fresh_kept, fresh_of}
use Rattle.block_file.proofs.Places.{held_block}
use Rattle.block_file.proofs.chain.read_chain.Goals as goal

pub loop-i-init : goal.loop-i-init
loop-i-init g c = record {
  same = record { same_content = refl; same_synced = refl; same_honest = refl; same_overreads = λ honest. refl };
  failures = refl;
  fresh = fresh_of _ c.in_ok-marks.ensures.unmarked;
  len = c.in_ok-marks.ensures.len;
  size = omega (arith, ap length c.in_ok-metadata.ensures.items);
  followed = λ honest. followed_none _ _ _ _ c.in_ok-marks.ensures.unmarked (ap length c.in_ok-metadata.ensures.items);
}

pub returns-then-not-keep-clause-refused : goal.returns-then-not-keep-clause-refused
returns-then-not-keep-clause-refused g c = λ honest metadata same chain.
    refuted _ c.args.header.first c.loop-i.i c.loop-i.k c.loop-i.marks _ metadata (omega (arith, c.requires.whole honest, c.loop-i.invariant.len)) c.if-not-keep.ensures.refused (omega (arith, c.div_ceil-i-end.ensures)) (c.loop-i.invariant.followed honest) chain

pub loop-i-preserved : goal.loop-i-preserved
loop-i-preserved g c =
    let so_far = c.loop-i.invariant in
    let keep = c.if-not-keep.ensures in
    let read = c.in_ok-read_at.ensures in
    let same_overreads = λ (honest : IsTrue (g.D.Disk.honest c.args.disk.now)).
    let still : IsTrue (g.D.Disk.honest c.loop-i.disk) = rw so_far.same.same_honest honest in
    let inside : 4096 * c.loop-i.k + 4096 ≤ length (g.D.Disk.content c.loop-i.disk) = rw so_far.same.same_content (omega (arith, c.requires.whole honest, keep.inside, so_far.len)) in
    read.overreads still (omega (arith, inside)) ∙ so_far.same.same_overreads honest in
    record {
      same = record {
        same_content = read.same.same_content ∙ so_far.same.same_content;
        same_synced = read.same.same_synced ∙ so_far.same.same_synced;
        same_honest = read.same.same_honest ∙ so_far.same.same_honest;
        same_overreads = same_overreads;
      };
      failures = read.told.quiet (λ e. cc) ∙ so_far.failures;
      fresh = rw keep.marked (fresh_kept _ _ keep.above_zero keep.inside so_far.fresh);
      len = rw keep.marked (omega (arith, so_far.len, length-set c.loop-i.marks c.loop-i.k 4294967295));
      size = omega (arith, c.in_ok-k.ensures.size, c.div_ceil-i-end.ensures);
      followed = λ honest.
          let held = held_block _ _ c.loop-i.k (omega arith) (rw so_far.same.same_content at (read.read (rw so_far.same.same_honest honest))) in
          rw keep.marked (followed_more _ _ _ _ _ _ _ _ _ keep.above_zero keep.inside keep.unmarked (omega (arith, c.div_ceil-i-end.ensures)) (omega arith) (so_far.followed honest)
          (ap length (sym held) ∙ omega arith) (rw held at c.in_ok-k.ensures));
    }
