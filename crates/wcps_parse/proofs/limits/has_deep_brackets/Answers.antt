-- One more bracket opened where as many are open as may be makes the tokens too deep.
use Rattle.std.proofs.Common.{refl, arith}
use Rattle.std.proofs.lemmas.Grind.{common_steps}
use Rattle.wcps_parse.proofs.Scanning.{overflows}
use Rattle.wcps_parse.proofs.limits.has_deep_brackets.Goals as goal

pub returns-then-depth-eq-MAX_DEPTH : goal.returns-then-depth-eq-MAX_DEPTH
returns-then-depth-eq-MAX_DEPTH c =
    let h = c.is_opening.ensures.0 c.if-is_opening.true in
    (λ _. c.loop-token.invariant.same.1 (rw c.if-depth-eq-MAX_DEPTH.true (overflows _ _ c.token-item.result c.token-item.is c.loop-token-test.true h)), λ _. refl)

pub loop-token-preserved : goal.loop-token-preserved
loop-token-preserved c = grind (arith, common_steps)

pub returns : goal.returns
returns c = grind (arith, common_steps)
