-- One name after the other has its coverage.
use Rattle.std.proofs.Common.{ℕ, List, sym, subst, arith}
use Rattle.std.proofs.lemmas.Grind.{common_steps}
use Rattle.raster_store.specs.Holding.{NoneNamed}
use Rattle.raster_store.proofs.Copied.{copied_none, copied_step}
use Rattle.raster_store.proofs.snapshot.copies_of.Goals as goal

pub loop-name-init : goal.loop-name-init
loop-name-init c = rw c.new-copies.ensures.items (copied_none c.args.held.now)

pub add_copy-requires : goal.add_copy-requires
add_copy-requires c = record {
  apart = c.requires.apart;
  name = subst (λ (n : List ℕ). NoneNamed n c.args.held.now → ⊥) (sym c.name-item.is) (c.requires.names c.loop-name.name-index c.name-item.result c.loop-name-test.true);
  copies = c.loop-name.invariant.apart;
}

pub loop-name-preserved : goal.loop-name-preserved
loop-name-preserved c = copied_step _ c.args.names.now c.loop-name.name-index c.name-item.result _ _ c.loop-name-test.true c.name-item.is c.loop-name.invariant c.in_ok-add_copy.ensures

pub returns : goal.returns
returns c = grind (arith, common_steps)
