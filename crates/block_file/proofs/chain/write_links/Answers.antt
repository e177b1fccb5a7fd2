-- The links written so far stay, since each block is listed once and a write changes that block alone.
use Rattle.std.proofs.Common.{◌<◌, ◌-◌, ◌*◌, length, get_or, arith, ◌∙◌}
use Rattle.block_file.proofs.Frames.{moves_more}
use Rattle.block_file.proofs.Chains.{part_byte, linked_more}
use Rattle.block_file.proofs.Growth.{ends_more}
use Rattle.block_file.proofs.Times.{times_at, one_times}
use Rattle.block_file.proofs.chain.write_links.Goals as goal

pub write-requires : goal.write-requires
write-requires g c =
    let k = get_or c.args.ks.now c.loop-i.i 0 in
    omega (arith, c.loop-i.invariant.moves.uses k, c.requires.used k (times_at c.args.ks.now c.loop-i.i (omega arith)))

pub returns-in_err-write-clause-frame : goal.returns-in_err-write-clause-frame
returns-in_err-write-clause-frame g c = moves_more _ _ _ _ _ (one_times c.args.ks.now c.loop-i.i (omega arith)) c.loop-i.invariant.moves c.in_err-write.ensures.frame

pub returns-in_err-write-clause-ends : goal.returns-in_err-write-clause-ends
returns-in_err-write-clause-ends g c = ends_more c.args.ks.now c.loop-i.i _ _ _ (omega arith) c.loop-i.invariant.ends c.in_err-write.ensures.torn

pub loop-i-preserved : goal.loop-i-preserved
loop-i-preserved g c =
    let kept = c.loop-i.invariant in
    let inside : c.loop-i.i < length c.args.ks.now = omega arith in
    let frame = c.in_ok-write.ensures.frame in
    record {
      links = λ honest.
          let was = rw frame.honest at honest in
          linked_more c.loop-i.i _ _ c.link_bytes-bytes.result c.args.ks.now c.args.metadata.now inside c.requires.once (λ k h. omega (arith, kept.moves.uses k, c.requires.used k h)) (kept.links was) frame (c.in_ok-write.ensures.written was)
          (record {
            whole = omega arith;
            next = c.link_bytes-bytes.ensures.next ∙ c.next_in.ensures;
            part = λ j lt. c.link_bytes-bytes.ensures.part j ∙ part_byte (4092 * c.loop-i.i) (c.min-to.result - 4092 * c.loop-i.i) 4092 j c.args.metadata.now (omega arith) (omega arith) lt;
          });
      moves = moves_more _ _ _ _ _ (one_times c.args.ks.now c.loop-i.i inside) kept.moves frame;
      ends = ends_more c.args.ks.now c.loop-i.i _ _ _ inside kept.ends c.in_ok-write.ensures.torn;
      failures = c.in_ok-write.ensures.told.quiet (λ e. cc) ∙ kept.failures;
    }
