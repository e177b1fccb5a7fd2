-- What one more cell adds under its condition has been taken in, and in the end what all of them add.
use Rattle.std.proofs.Common.{◌∙◌, arith, refl}
use Rattle.tile_kernel.proofs.Tellings.{demanded_more, demanded_whole}
use Rattle.tile_kernel.proofs.folds.fold_views_where.Goals as goal

pub loop-k-preserved : goal.loop-k-preserved
loop-k-preserved c = record {
  stands = demanded_more c.args.places.now c.args.condition.now c.args.column.now c.loop-k.k _ c.at.result c.at-in-loop-k.result c.loop-k.accumulator _ c.requires.places c.requires.condition (omega arith) refl c.at.ensures c.at-in-loop-k.ensures c.add_where.ensures.stands c.loop-k.invariant.stands;
  op = c.add_where.ensures.op ∙ c.loop-k.invariant.op;
  count = omega arith;
}

pub returns-clause-stands : goal.returns-clause-stands
returns-clause-stands c = demanded_whole c.args.places.now c.args.condition.now c.args.column.now c.loop-k.k _ c.requires.places c.requires.condition (omega arith) c.loop-k.invariant.stands
