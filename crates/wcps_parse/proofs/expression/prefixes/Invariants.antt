use Rattle.std.proofs.Common.{◌≤◌, ◌-◌, ◌++◌, List, length, drop, vec_len}
use Rattle.wcps_text.specs.declared.operator.UnaryOperator.{UnaryOperator}
use Rattle.wcps_text.specs.Token.{Tok, toks}
use Rattle.wcps_parse.specs.Prefixes.{IsBehind}
use Rattle.wcps_parse.proofs.expression.prefixes.Given as goal

abbrev pub invariant-loop-op : goal.invariant-loop-op
invariant-loop-op l = record {
  whole : (ops : List UnaryOperator) (rest : List Tok) → IsBehind ops rest (toks (drop (vec_len l.ops) l.tokens)) → IsBehind (l.ops.items ++ ops) rest (toks l.tokens);
  within : vec_len l.ops ≤ length l.tokens;
}

abbrev pub decreases-loop-op : goal.decreases-loop-op
decreases-loop-op l = length l.tokens - vec_len l.ops
