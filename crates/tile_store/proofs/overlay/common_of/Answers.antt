-- The coordinates in common begin at the later lower bound and end at the earlier upper one.
use Rattle.std.proofs.Common.{arith}
use Rattle.std.proofs.lemmas.Int.{ints, clamps}
use Rattle.tile_store.proofs.overlay.common_of.Goals as goal

pub returns-then-hi-lo-clause-common : goal.returns-then-hi-lo-clause-common
returns-then-hi-lo-clause-common c = record {
  to_within = omega arith;
  from_within = omega arith;
  all = λ x h1 h2 h3 h4. absurd (omega (arith, ints, clamps));
  only = λ x h1 h2 h3 h4. absurd (omega (arith, h3, h4));
}

pub returns-clause-common : goal.returns-clause-common
returns-clause-common c = record {
  to_within = omega (arith, ints, clamps);
  from_within = omega (arith, ints, clamps);
  all = λ x h1 h2 h3 h4. (omega (arith, ints, clamps), omega (arith, ints, clamps));
  only = λ x h1 h2 h3 h4. (omega (arith, ints, clamps), omega (arith, ints, clamps), grind (arith, ints, clamps));
}
