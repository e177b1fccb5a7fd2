use Rattle.std.proofs.Common.{◌<◌, length, ◌+◌, ◌*◌}
use Rattle.wcps_text.specs.declared.token.Symbol.TheVariants as signs
use Rattle.wcps_text.specs.Token.{toks}
use Rattle.wcps_parse.specs.Reading.{level, climb, post, behind, more, parts, part_at, subs, sub_at, iters, iter_at}
use Rattle.wcps_parse.specs.Kinds.{FitTree, FitParts, FitSubs, FitIters}
use Rattle.wcps_parse.proofs.Loops.{Going}
use Rattle.wcps_parse.proofs.expression.+expression.Given as goal

abbrev pub decreases-level : goal.decreases-level
decreases-level l = 300 * length l.tokens.now + 6

abbrev pub decreases-operand : goal.decreases-operand
decreases-operand l = 300 * length l.tokens.now + 5

abbrev pub decreases-post : goal.decreases-post
decreases-post l = 300 * length l.tokens.now + 4

abbrev pub decreases-postfix : goal.decreases-postfix
decreases-postfix l = 300 * length l.tokens.now + 2

abbrev pub decreases-prim : goal.decreases-prim
decreases-prim l = 300 * length l.tokens.now + 3

abbrev pub decreases-in_parens : goal.decreases-in_parens
decreases-in_parens l = 300 * length l.tokens.now + 13

abbrev pub decreases-enclosed : goal.decreases-enclosed
decreases-enclosed l = 300 * length l.tokens.now + 12

abbrev pub decreases-absolute : goal.decreases-absolute
decreases-absolute l = 300 * length l.tokens.now + 14

abbrev pub decreases-reduced : goal.decreases-reduced
decreases-reduced l = 300 * length l.tokens.now + 14

abbrev pub decreases-bit : goal.decreases-bit
decreases-bit l = 300 * length l.tokens.now + 0

abbrev pub decreases-record : goal.decreases-record
decreases-record l = 300 * length l.tokens.now + 2

abbrev pub decreases-parts : goal.decreases-parts
decreases-parts l = 300 * length l.tokens.now + 1

abbrev pub decreases-part_at : goal.decreases-part_at
decreases-part_at l = 300 * length l.tokens.now + 0

abbrev pub decreases-subs : goal.decreases-subs
decreases-subs l = 300 * length l.tokens.now + 1

abbrev pub decreases-sub_at : goal.decreases-sub_at
decreases-sub_at l = 300 * length l.tokens.now + 0

abbrev pub decreases-place : goal.decreases-place
decreases-place l = 300 * length l.tokens.now + 20

abbrev pub decreases-interval : goal.decreases-interval
decreases-interval l = 300 * length l.tokens.now + 1

abbrev pub decreases-domain : goal.decreases-domain
decreases-domain l = 300 * length l.tokens.now + 0

abbrev pub decreases-iters : goal.decreases-iters
decreases-iters l = 300 * length l.tokens.now + 2

abbrev pub decreases-iter_at : goal.decreases-iter_at
decreases-iter_at l = 300 * length l.tokens.now + 0

abbrev pub decreases-coverage : goal.decreases-coverage
decreases-coverage l = 300 * length l.tokens.now + 0

abbrev pub decreases-condition : goal.decreases-condition
decreases-condition l = 300 * length l.tokens.now + 0

abbrev pub decreases-condense : goal.decreases-condense
decreases-condense l = 300 * length l.tokens.now + 0

abbrev pub invariant-level-loop-op : goal.invariant-level-loop-op
invariant-level-loop-op l = record {
  going : Going FitTree l.left (λ e n m. climb m (level n) l.rank e (toks l.rest)) (λ n m. level n l.rank (toks l.tokens));
  shorter : length l.rest < length l.tokens;
}

abbrev pub decreases-level-loop-op : goal.decreases-level-loop-op
decreases-level-loop-op l = length l.rest

abbrev pub invariant-post-loop-kind : goal.invariant-post-loop-kind
invariant-post-loop-kind l = record {
  going : Going FitTree l.whole (λ e n m. behind m (level n) e (toks l.rest)) (λ n m. post m (level n) (toks l.tokens));
  shorter : length l.rest < length l.tokens;
}

abbrev pub decreases-post-loop-kind : goal.decreases-post-loop-kind
decreases-post-loop-kind l = length l.rest

abbrev pub invariant-parts-loop-next : goal.invariant-parts-loop-next
invariant-parts-loop-next l = record {
  going : Going FitParts l.list (λ xs n m. more signs.Semicolon (part_at (level n)) m xs (toks l.rest)) (λ n m. parts m (level n) (toks l.tokens));
  shorter : length l.rest < length l.tokens;
}

abbrev pub decreases-parts-loop-next : goal.decreases-parts-loop-next
decreases-parts-loop-next l = length l.rest

abbrev pub invariant-subs-loop-next : goal.invariant-subs-loop-next
invariant-subs-loop-next l = record {
  going : Going FitSubs l.list (λ xs n m. more signs.Comma (sub_at (level n)) m xs (toks l.rest)) (λ n m. subs m (level n) (toks l.tokens));
  shorter : length l.rest < length l.tokens;
}

abbrev pub decreases-subs-loop-next : goal.decreases-subs-loop-next
decreases-subs-loop-next l = length l.rest

abbrev pub invariant-iters-loop-next : goal.invariant-iters-loop-next
invariant-iters-loop-next l = record {
  going : Going FitIters l.list (λ xs n m. more signs.Comma (iter_at (level n)) m xs (toks l.rest)) (λ n m. iters m (level n) (toks l.tokens));
  shorter : length l.rest < length l.tokens;
}

abbrev pub decreases-iters-loop-next : goal.decreases-iters-loop-next
decreases-iters-loop-next l = length l.rest
