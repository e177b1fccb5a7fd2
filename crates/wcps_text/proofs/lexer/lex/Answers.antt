-- The tokens so far and those of the rest are the tokens of the text, and what refuses the rest refuses the text.
use Rattle.std.proofs.Common.{ℕ, ◌+◌, ◌≤◌, List, ◌∷◌, length, take, drop, subst}
use Rattle.wcps_text.specs.Lexing.{is_space, Every, piece, behind_token}
use Rattle.wcps_text.specs.Runs.{Stops}
use Rattle.wcps_text.proofs.Steps.{blank_behind, dense_behind, within_behind, blank_lexed, blank_refused, token_lexed, pushed, first_lexed, first_refused, all_lexed}
use Rattle.wcps_text.proofs.lexer.lex.Goals as goal

pub loop-at-init : goal.loop-at-init
loop-at-init c =
    let text = c.args.text.now in
    let n = c.run-at.result in
    let same = c.as_bytes.ensures.value in
    let within = subst (λ (t : List ℕ). n ≤ length t) same c.run-at.ensures.within in
    let blank = subst (λ (t : List ℕ). Every is_space (take n t)) same c.run-at.ensures.front in
    record {
      within = within;
      dense = subst (λ (t : List ℕ). Stops is_space (drop n t)) same c.run-at.ensures.stops;
      lexed = λ ps h. first_lexed text n c.new-tokens.result.items ps within blank c.new-tokens.ensures.items h;
      refused = λ e h. first_refused text n e within blank h;
    }

pub loop-at-preserved : goal.loop-at-preserved
loop-at-preserved c =
    let text = c.args.text.now in
    let t = c.in_ok-token.token in
    let end = c.loop-at.at + length t.text.now in
    let n = c.run.result in
    let bytes = c.as_bytes-in-loop-at.result.now in
    let same = c.as_bytes-in-loop-at.ensures.value in
    let blank = blank_behind bytes text end n same c.run.ensures.within c.run.ensures.front in
    record {
      within = within_behind text end n blank c.in_ok-token.ensures.within;
      dense = dense_behind bytes text end n same c.run.ensures.stops;
      lexed = λ ps h. rw (c.in_ok-push.ensures.items, pushed c.loop-at.tokens.items t ps) (c.loop-at.invariant.lexed (piece t ∷ ps) (token_lexed text c.loop-at.at t ps c.in_ok-token.ensures.place c.in_ok-token.ensures.exact (blank_lexed text end n ps blank h)));
      refused = λ e h. c.loop-at.invariant.refused e (behind_token c.in_ok-token.ensures.exact (blank_refused text end n e blank h));
    }

pub returns-clause-tokens : goal.returns-clause-tokens
returns-clause-tokens c = all_lexed c.args.text.now c.loop-at.at c.loop-at.tokens.items c.loop-at-test.false c.loop-at.invariant.lexed
