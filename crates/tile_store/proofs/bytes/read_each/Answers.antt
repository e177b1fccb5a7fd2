-- The bytes are those of the blocks that are listed, in order.
use Rattle.std.proofs.Common.{rules, arith, ap, get_or, take, ◌∙◌, ◌≡◌, flat_map, take_all}
use Rattle.std.proofs.lemmas.Grind.{common_steps}
use Rattle.block_file.specs.State.{block}
use Rattle.block_file.proofs.Times.{times_at, one_times}
use Rattle.tile_store.proofs.Takes.{reads_then, reads_more}
use Rattle.tile_store.proofs.bytes.read_each.Goals as goal

pub read-requires : goal.read-requires
read-requires g c =
    let i = c.loop-k.k-index in
    let at = times_at c.args.numbers.now i (omega arith) in
    let covers = c.requires (get_or c.args.numbers.now i 0) in
    rw (c.loop-k.invariant.frame.uses) (omega (arith, at, covers))

pub returns-in_err-read-clause-frame : goal.returns-in_err-read-clause-frame
returns-in_err-read-clause-frame g c =
    let read = c.in_err-read.ensures.frame in
    reads_then _ _ _ c.loop-k.invariant.frame (reads_more _ _ _ _ (one_times c.args.numbers.now c.loop-k.k-index (omega arith)) read)

pub returns-clause-value : goal.returns-clause-value
returns-clause-value g c = λ honest.
    let numbers = c.args.numbers.now in
    let all : take c.loop-k.k-index numbers ≡ numbers = take_all c.loop-k.k-index numbers c.loop-k-test.false in
    c.loop-k.invariant.bytes honest ∙ ap (flat_map (block (g.B.Blocks.state c.args.blocks.now))) all

pub returns-in_err-extend_from_slice-clause-frame : goal.returns-in_err-extend_from_slice-clause-frame
returns-in_err-extend_from_slice-clause-frame g c =
    let read = c.in_ok-read.ensures.frame in
    reads_then _ _ _ c.loop-k.invariant.frame (reads_more _ _ _ _ (one_times c.args.numbers.now c.loop-k.k-index (omega arith)) read)

pub loop-k-preserved : goal.loop-k-preserved
loop-k-preserved g c =
    let read = c.in_ok-read.ensures.frame in
    record {
      bytes = λ honest.
          let before = c.loop-k.invariant.bytes honest in
          let here = c.in_ok-read.ensures.value (rw c.loop-k.invariant.frame.honest honest) in
          first_of (search rules, grind (arith, common_steps));
      frame = reads_then _ _ _ c.loop-k.invariant.frame (reads_more _ _ _ _ (one_times c.args.numbers.now c.loop-k.k-index (omega arith)) read);
      quiet = c.in_ok-read.ensures.told.quiet (λ e. cc) ∙ c.loop-k.invariant.quiet;
    }
