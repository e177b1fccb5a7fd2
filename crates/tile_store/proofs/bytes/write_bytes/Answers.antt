-- Each block written so far holds its part of the bytes, and no other block in use has changed.
use Rattle.std.proofs.Common.{arith, get_or, ◌∙◌}
use Rattle.block_file.specs.State.{block}
use Rattle.block_file.proofs.Frames.{moves_more}
use Rattle.block_file.proofs.Growth.{ends_more}
use Rattle.block_file.proofs.Times.{times_at, one_times}
use Rattle.tile_store.proofs.Parts.{parts_joined, parts_more, parts_padded, whole_listed}
use Rattle.tile_store.proofs.bytes.write_bytes.Goals as goal

pub write-requires : goal.write-requires
write-requires g c =
    let b = get_or c.args.numbers.now c.loop-place.place 0 in
    let was = c.requires.fresh b (times_at c.args.numbers.now c.loop-place.place (omega arith)) in
    omega (arith, c.loop-place.invariant.frame.uses b, was.0)

pub returns-in_err-write-clause-frame : goal.returns-in_err-write-clause-frame
returns-in_err-write-clause-frame g c = moves_more _ _ _ _ _ (one_times c.args.numbers.now c.loop-place.place (omega arith)) c.loop-place.invariant.frame c.in_err-write.ensures.frame

pub returns-in_err-write-clause-ends : goal.returns-in_err-write-clause-ends
returns-in_err-write-clause-ends g c = ends_more c.args.numbers.now c.loop-place.place _ _ _ (omega arith) c.loop-place.invariant.ends c.in_err-write.ensures.torn

pub loop-place-preserved : goal.loop-place-preserved
loop-place-preserved g c = record {
  parts = λ honest. parts_more c.args.numbers.now c.loop-place.place c.args.bytes.now _ _ _ _ c.requires.fresh (omega arith) c.loop-place.invariant.frame c.in_ok-write.ensures.frame
      (c.loop-place.invariant.parts honest) c.block_of-block.ensures (c.in_ok-write.ensures.written (rw c.loop-place.invariant.frame.honest honest));
  frame = moves_more _ _ _ _ _ (one_times c.args.numbers.now c.loop-place.place (omega arith)) c.loop-place.invariant.frame c.in_ok-write.ensures.frame;
  ends = ends_more c.args.numbers.now c.loop-place.place _ _ _ (omega arith) c.loop-place.invariant.ends c.in_ok-write.ensures.torn;
  quiet = c.in_ok-write.ensures.told.quiet (λ e. cc) ∙ c.loop-place.invariant.quiet;
}

pub returns-clause-written : goal.returns-clause-written
returns-clause-written g c = record {
  bytes_are = λ honest. parts_joined (block (g.B.Blocks.state c.loop-place.blocks)) c.args.numbers.now c.args.bytes.now (λ i h. c.loop-place.invariant.parts (rw c.loop-place.invariant.frame.honest at honest) i (omega (arith, h))) c.requires.enough;
  padded = λ honest. parts_padded (block (g.B.Blocks.state c.loop-place.blocks)) c.args.numbers.now c.args.bytes.now (λ i h. c.loop-place.invariant.parts (rw c.loop-place.invariant.frame.honest at honest) i (omega (arith, h)));
  whole = λ honest. whole_listed _ c.args.numbers.now (λ i h. (c.loop-place.invariant.parts (rw c.loop-place.invariant.frame.honest at honest) i (omega (arith, h))).whole);
}
