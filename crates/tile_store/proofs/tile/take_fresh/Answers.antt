-- The blocks that come to those taken were free, and each was taken once.
use Rattle.std.proofs.Common.{rules, arith, ◌≡◌, ◌++◌}
use Rattle.block_file.proofs.Growth.{lowest_within}
use Rattle.tile_store.proofs.Takes.{takes_fresh}
use Rattle.tile_store.proofs.tile.take_fresh.Goals as goal

pub returns-clause-takes : goal.returns-clause-takes
returns-clause-takes g c =
    let added : c.extend_from_slice.new.self.items ≡ c.args.taken.now.items ++ c.in_ok-fresh.fresh.items = search rules in
    takes_fresh _ c.args.taken.now.items c.in_ok-fresh.fresh.items _ _ _ added c.in_ok-fresh.ensures.lowest c.in_ok-fresh.ensures.taken

pub returns-clause-unused : goal.returns-clause-unused
returns-clause-unused g c = λ k some. (c.in_ok-fresh.ensures.lowest.free k some).unused

pub returns-clause-fresh : goal.returns-clause-fresh
returns-clause-fresh g c = λ k some.
    let lowest = c.in_ok-fresh.ensures.lowest in
    (omega (arith, c.in_ok-fresh.ensures.taken.uses k, (lowest.free k some).unused, lowest.once k), omega (arith, some, lowest.once k))

pub returns-clause-within : goal.returns-clause-within
returns-clause-within g c = lowest_within _ _ _ c.in_ok-fresh.ensures.lowest
