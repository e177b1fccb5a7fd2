-- Each turn serves one connection more, or none.
use Rattle.std.proofs.Common.{refl}
use Rattle.coverage_server.proofs.ServingLemmas.{Continues-refl, Continues-trans}
use Rattle.rasterd.proofs.ServingLemmas.{serves-none, serves-more}
use Rattle.rasterd.proofs.listening.serve_each.Goals as goal

pub loop-init : goal.loop-init
loop-init g c = record {
  served = serves-none 0 c.args.server.now;
  continues = Continues-refl c.args.server.now.coverages;
}

pub loop-preserved : goal.loop-preserved
loop-preserved g c = record {
  served = serves-more c.loop.counter 1 _ _ _ _ c.loop.invariant.served c.loop.invariant.continues c.serve_next.ensures.served refl;
  continues = Continues-trans _ _ _ c.loop.invariant.continues c.serve_next.ensures.continues;
}
