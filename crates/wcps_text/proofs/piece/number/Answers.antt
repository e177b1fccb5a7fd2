-- A number takes all the digits in front, and one that is too large is refused.
use Rattle.std.proofs.Common.{◌+◌, arith}
use Rattle.std.proofs.lemmas.Grind.{common_steps}
use Rattle.wcps_text.specs.Lexing.{large_numeral, no_token}
use Rattle.wcps_text.proofs.Fronts.{run_behind, number_front, numeral_at}
use Rattle.wcps_text.proofs.piece.number.Goals as goal

pub returns-in-Some-clause-exact : goal.returns-in-Some-clause-exact
returns-in-Some-clause-exact c =
    let run = run_behind _ c.args.bytes.now 1 c.run-count.result c.run-count.ensures.within c.run-count.ensures.front c.run-count.ensures.stops in
    number_front c.args.bytes.now c.run-count.result _ _ c.requires.some c.requires.digit run (omega arith) (numeral_at _ _ c.in-Some.ensures c.in-Some.value.small)

pub returns-in-None-clause-exact : goal.returns-in-None-clause-exact
returns-in-None-clause-exact c =
    let run = run_behind _ c.args.bytes.now 1 c.run-count.result c.run-count.ensures.within c.run-count.ensures.front c.run-count.ensures.stops in
    no_token (number_front c.args.bytes.now c.run-count.result (1 + c.run-count.result) _ c.requires.some c.requires.digit run (omega arith) (λ is. large_numeral is c.in-None.ensures))

pub decimal-requires : goal.decimal-requires
decimal-requires c = grind (arith, common_steps)

pub returns-in-Some-clause-last : goal.returns-in-Some-clause-last
returns-in-Some-clause-last c = grind (arith, common_steps)
