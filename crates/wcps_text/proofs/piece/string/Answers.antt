-- A string ends at the quote behind what it may hold, and where no quote stands there it is refused.
use Rattle.std.proofs.Common.{◌≡◌, ◌≢◌, ℕ, suc, ◌+◌, get_or, arith, sym, ◌∙◌, subst}
use Rattle.wcps_text.proofs.Fronts.{run_behind, text_front, text_refused}
use Rattle.wcps_text.proofs.piece.string.Goals as goal

pub returns-then-byte_at-ne34-clause-exact : goal.returns-then-byte_at-ne34-clause-exact
returns-then-byte_at-ne34-clause-exact c =
    let bytes = c.args.bytes.now in
    let run = run_behind _ bytes 1 c.run-inside.result c.run-inside.ensures.within c.run-inside.ensures.front c.run-inside.ensures.stops in
    let place : 1 + c.run-inside.result ≡ suc c.run-inside.result = omega arith in
    let other : get_or bytes (1 + c.run-inside.result) 0 ≢ 34 = λ same. c.if-byte_at-ne34.true (c.byte_at.ensures ∙ same) in
    text_refused bytes c.run-inside.result c.requires.quote c.requires.some run (subst (λ (k : ℕ). get_or bytes k 0 ≢ 34) place other)

pub returns-clause-exact : goal.returns-clause-exact
returns-clause-exact c =
    let bytes = c.args.bytes.now in
    let run = run_behind _ bytes 1 c.run-inside.result c.run-inside.ensures.within c.run-inside.ensures.front c.run-inside.ensures.stops in
    let place : 1 + c.run-inside.result ≡ suc c.run-inside.result = omega arith in
    text_front bytes c.run-inside.result _ c.requires.quote run (subst (λ (k : ℕ). get_or bytes k 0 ≡ 34) place (sym c.byte_at.ensures ∙ c.if-byte_at-ne34.false)) (omega arith)
