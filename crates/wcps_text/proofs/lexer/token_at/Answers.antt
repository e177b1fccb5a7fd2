-- The text may be cut behind the token, since the last byte of a token is ASCII.
use Rattle.std.proofs.Common.{ℕ, List, ◌-◌, ◌<◌, ◌≤◌, length, take, drop, get_or, arith, subst}
use Rattle.std.proofs.lemmas.Grind.{common_steps}
use Rattle.wcps_text.proofs.Bytes.{cut_behind}
use Rattle.wcps_text.proofs.lexer.token_at.Goals as goal

pub range-requires-clause-end_boundary : goal.range-requires-clause-end_boundary
range-requires-clause-end_boundary c =
    let last = subst (λ (bs : List ℕ). get_or (take (length bs - c.args.start) (drop c.args.start bs)) (c.in_ok-count.count - 1) 0 < 128) c.as_bytes.ensures.value c.in_ok-count.ensures.last in
    let within : c.in_ok-count.count ≤ length c.args.text.now - c.args.start = grind (arith, common_steps) in
    cut_behind c.args.text.now c.args.start c.in_ok-count.count c.utf8.text c.requires.inside c.in_ok-count.ensures.some within last

pub returns-in_err-count-clause-exact : goal.returns-in_err-count-clause-exact
returns-in_err-count-clause-exact c = grind (arith, common_steps)

pub range-requires-clause-start_boundary : goal.range-requires-clause-start_boundary
range-requires-clause-start_boundary c = grind (arith, common_steps)
