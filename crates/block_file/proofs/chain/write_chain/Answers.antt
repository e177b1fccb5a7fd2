-- The blocks taken are as many as the metadata fills, each once, so what is written into them is a chain.
use Rattle.std.proofs.Common.{arith}
use Rattle.block_file.proofs.Chains.{holds_chain}
use Rattle.block_file.proofs.Growth.{grows_given}
use Rattle.block_file.proofs.chain.write_chain.Goals as goal

pub returns-in-Ok-written-clause-chain : goal.returns-in-Ok-written-clause-chain
returns-in-Ok-written-clause-chain g c =
    let value = c.deref-ks.ensures.value in
    let lowest = rw (← value) at c.in-Ok.ensures.lowest in
    holds_chain _ _ _ _ _ c.deref-ks.result.now c.args.metadata.now c.requires.some (omega (arith, lowest.count, c.div_ceil.ensures)) lowest (rw (← value) at c.in-Ok.ensures.taken) c.in-Ok-written.ensures.frame c.in-Ok-written.ensures.links c.give_back.ensures

pub returns-in-Ok-written-clause-grows : goal.returns-in-Ok-written-clause-grows
returns-in-Ok-written-clause-grows g c =
    let value = c.deref-ks.ensures.value in
    grows_given _ _ c.deref-ks.result.now _ _ _ _ (omega (arith, c.div_ceil.ensures)) (rw (← value) at c.in-Ok.ensures.lowest) (rw (← value) at c.in-Ok.ensures.taken) c.in-Ok-written.ensures.ends c.give_back.ensures

pub returns-clause-grows : goal.returns-clause-grows
returns-clause-grows g c =
    let value = c.deref-ks.ensures.value in
    grows_given _ _ c.deref-ks.result.now _ _ _ _ (omega (arith, c.div_ceil.ensures)) (rw (← value) at c.in-Ok.ensures.lowest) (rw (← value) at c.in-Ok.ensures.taken) c.in-Err.ensures.ends c.give_back.ensures
