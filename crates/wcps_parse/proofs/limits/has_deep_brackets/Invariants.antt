use Rattle.std.proofs.Common.{◌≤◌, ◌<◌, ◌↔◌, drop}
use Rattle.wcps_text.specs.Token.{toks}
use Rattle.wcps_text.specs.Limits.{max_depth, deepest}
use Rattle.wcps_parse.proofs.limits.has_deep_brackets.Given as goal

abbrev pub invariant-loop-token : goal.invariant-loop-token
invariant-loop-token l = record {
  same : (max_depth < deepest 0 (toks l.tokens)) ↔ (max_depth < deepest l.depth (toks (drop l.token-index l.tokens)));
  low : l.depth ≤ max_depth;
}
