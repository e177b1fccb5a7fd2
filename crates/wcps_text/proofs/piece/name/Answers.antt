-- A name or a keyword is as long as it can be, and one of more than 64 bytes is refused.
use Rattle.std.proofs.Common.{◌≡◌, ◌+◌, None, Some, refl, arith}
use Rattle.std.proofs.lemmas.Grind.{common_steps}
use Rattle.wcps_text.specs.Lexing.{long_plain, reserved, plain, no_token}
use Rattle.wcps_text.proofs.Fronts.{run_behind, name_front, last_of, letter_high}
use Rattle.arr_core.specs.declared.keyword.Keyword.{Keyword}
use Rattle.wcps_text.proofs.piece.name.Goals as goal

none-is-some : (k : Keyword) → None ≡ Some k → ⊥
none-is-some k e = cc

pub returns-then-count-gt-MAX_NAME-clause-exact : goal.returns-then-count-gt-MAX_NAME-clause-exact
returns-then-count-gt-MAX_NAME-clause-exact c =
    let run = run_behind _ c.args.bytes.now 1 c.run-count.result c.run-count.ensures.within c.run-count.ensures.front c.run-count.ensures.stops in
    no_token (name_front c.args.bytes.now c.run-count.result (1 + c.run-count.result) _ c.requires.some c.requires.letter run (omega arith) (λ is same. long_plain is (omega arith)))

pub returns-in-Some-clause-exact : goal.returns-in-Some-clause-exact
returns-in-Some-clause-exact c =
    let run = run_behind _ c.args.bytes.now 1 c.run-count.result c.run-count.ensures.within c.run-count.ensures.front c.run-count.ensures.stops in
    name_front c.args.bytes.now c.run-count.result _ _ c.requires.some c.requires.letter run (omega arith) (λ is same. reserved is (omega arith) ((c.in-Some.ensures.written _).0 refl))

pub returns-in-None-clause-exact : goal.returns-in-None-clause-exact
returns-in-None-clause-exact c =
    let run = run_behind _ c.args.bytes.now 1 c.run-count.result c.run-count.ensures.within c.run-count.ensures.front c.run-count.ensures.stops in
    name_front c.args.bytes.now c.run-count.result _ _ c.requires.some c.requires.letter run (omega arith) (λ is same. plain is (omega arith) (λ k written. none-is-some k ((c.in-None.ensures.written k).1 written)))

pub returns-in-Some-clause-last : goal.returns-in-Some-clause-last
returns-in-Some-clause-last c = last_of c.args.bytes.now c.run-count.result c.requires.some (letter_high _ c.requires.letter) c.run-count.ensures.last

pub returns-in-None-clause-last : goal.returns-in-None-clause-last
returns-in-None-clause-last c = grind (arith, common_steps)
