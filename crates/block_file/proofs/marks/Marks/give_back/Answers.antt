-- Each block listed so far has given up a use, so one that is still listed has one left.
use Rattle.std.proofs.Common.{arith, refl, ◌∙◌}
use Rattle.block_file.proofs.Markings.{still_used}
use Rattle.block_file.proofs.Times.{times_none, times_more}
use Rattle.block_file.proofs.marks.Marks.give_back.Goals as goal

pub loop-k-init : goal.loop-k-init
loop-k-init c = record { given = λ k. omega (arith, times_none k); len = refl }

pub give_back_one-requires : goal.give_back_one-requires
give_back_one-requires c = still_used _ _ c.args.ks.now c.loop-k.k-index (omega arith) c.requires c.loop-k.invariant.given

pub loop-k-preserved : goal.loop-k-preserved
loop-k-preserved c = record {
  given = λ k. omega (arith, c.loop-k.invariant.given k, c.give_back_one.ensures.marks k, times_more c.args.ks.now c.loop-k.k-index k (omega arith));
  len = c.give_back_one.ensures.len ∙ c.loop-k.invariant.len;
}
