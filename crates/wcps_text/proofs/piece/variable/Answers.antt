-- A variable is `$` and the longest name behind it, and without a name or above 64 bytes it is refused.
use Rattle.std.proofs.Common.{◌≡◌, ℕ, ◌+◌, ◌-◌, get_or, arith, sym, ap, ◌∙◌, true, false, subst, List, ◌∷◌, Ok, drop}
use Rattle.wcps_text.specs.Token.{dollar}
use Rattle.wcps_text.specs.Lexing.{begins_name, long_marked, marked, no_token, Reads}
use Rattle.wcps_text.proofs.Fronts.{run_behind, rest_at, dollar_front, dollar_refused, last_of}
use Rattle.wcps_text.proofs.piece.variable.Goals as goal

pub returns-then-not-begins_name-clause-exact : goal.returns-then-not-begins_name-clause-exact
returns-then-not-begins_name-clause-exact c =
    let bytes = c.args.bytes.now in
    let named : begins_name (get_or (drop 1 bytes) 0 0) ≡ false = sym (c.begins_name.ensures ∙ ap begins_name (c.byte_at.ensures ∙ rest_at bytes 0)) ∙ c.if-not-begins_name.true in
    dollar_refused bytes c.requires.dollar c.requires.some named

pub returns-then-letters-ge-MAX_NAME-clause-exact : goal.returns-then-letters-ge-MAX_NAME-clause-exact
returns-then-letters-ge-MAX_NAME-clause-exact c =
    let bytes = c.args.bytes.now in
    let run = run_behind _ bytes 1 c.run-letters.result c.run-letters.ensures.within c.run-letters.ensures.front c.run-letters.ensures.stops in
    let named : begins_name (get_or (drop 1 bytes) 0 0) ≡ true = sym (c.begins_name.ensures ∙ ap begins_name (c.byte_at.ensures ∙ rest_at bytes 0)) ∙ c.if-not-begins_name.false in
    no_token (dollar_front bytes c.run-letters.result (c.run-letters.result + 1) _ c.requires.dollar named run (omega arith) (λ w whole is size. long_marked is (omega arith)))

pub returns-clause-exact : goal.returns-clause-exact
returns-clause-exact c =
    let bytes = c.args.bytes.now in
    let run = run_behind _ bytes 1 c.run-letters.result c.run-letters.ensures.within c.run-letters.ensures.front c.run-letters.ensures.stops in
    let named : begins_name (get_or (drop 1 bytes) 0 0) ≡ true = sym (c.begins_name.ensures ∙ ap begins_name (c.byte_at.ensures ∙ rest_at bytes 0)) ∙ c.if-not-begins_name.false in
    dollar_front bytes c.run-letters.result (c.run-letters.result + 1) _ c.requires.dollar named run (omega arith)
    (λ w whole is size. subst (λ (v : List ℕ). Reads (36 ∷ w) (Ok (dollar v))) (sym whole) (marked is (omega arith)))

pub returns-clause-last : goal.returns-clause-last
returns-clause-last c =
    let place : c.run-letters.result + 1 - 1 ≡ 1 + c.run-letters.result - 1 = omega arith in
    rw place (last_of c.args.bytes.now c.run-letters.result c.requires.some (omega (arith, c.requires.dollar)) c.run-letters.ensures.last)
