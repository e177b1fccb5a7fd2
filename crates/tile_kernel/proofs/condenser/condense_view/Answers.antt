-- One more cell has been taken in, and in the end all of them.
use Rattle.std.proofs.Common.{arith, refl}
use Rattle.tile_kernel.proofs.Tellings.{told_next, told_all}
use Rattle.tile_kernel.proofs.condenser.condense_view.Goals as goal

pub loop-k-preserved : goal.loop-k-preserved
loop-k-preserved g c = (
  told_next c.args.places.now c.args.column.now c.loop-k.k _ c.at.result (g.C.Condenser.stands c.loop-k.all) (g.C.Condenser.stands c.merge-all.result) c.requires (omega arith) refl c.at.ensures
      (λ told s. c.merge-all.ensures.stands told _ s c.one.ensures.stands) c.loop-k.invariant.0,
  omega arith,
)

pub returns-clause-stands : goal.returns-clause-stands
returns-clause-stands g c = told_all c.args.places.now c.args.column.now c.loop-k.k (g.C.Condenser.stands c.loop-k.all) c.requires (omega arith) c.loop-k.invariant.0
