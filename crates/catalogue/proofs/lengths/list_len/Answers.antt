-- Each part adds its length to the sum, and may be written.
use Rattle.std.proofs.Common.{subst, arith}
use Rattle.std.proofs.Math.Nat.{mul-add}
use Rattle.std.proofs.lemmas.List.Elements.{All-more}
use Rattle.std.proofs.lemmas.List.Sums.{sum_by_more}
use Rattle.catalogue.proofs.lengths.list_len.Goals as goal

pub loop-part-preserved : goal.loop-part-preserved
loop-part-preserved g c = record {
  value = grind (arith, sum_by_more);
  small = omega (arith, mul-add g.T.Measured.most c.loop-part.part-index 1);
  each = All-more g.T.Measured.is_value _ _ _ c.loop-part-test.true c.loop-part.invariant.each
      (subst g.T.Measured.is_value c.part-item.is c.bytes_len-total.ensures.part);
}
