use Rattle.std.proofs.Common.{◌≡◌, ◌≤◌, ◌+◌, drop}
use Rattle.wcps_text.specs.Token.{toks}
use Rattle.wcps_text.specs.Limits.{max_forms, forms}
use Rattle.wcps_parse.proofs.limits.has_many_forms.Given as goal

abbrev pub invariant-loop-token : goal.invariant-loop-token
invariant-loop-token l = record {
  same : forms (toks l.tokens) ≡ l.count + forms (toks (drop l.token-index l.tokens));
  low : l.count ≤ max_forms;
}
