-- The operators that are taken are all that stand before the operand.
use Rattle.std.proofs.Common.{◌≡◌, ◌+◌, rules, arith, vec_len}
use Rattle.std.proofs.lemmas.Grind.{common_steps}
use Rattle.wcps_parse.proofs.Prefixing.{prefixed_more, prefixed_all}
use Rattle.wcps_parse.proofs.expression.prefixes.Goals as goal

pub loop-op-preserved : goal.loop-op-preserved
loop-op-preserved c =
    let n = vec_len c.loop-op.ops in
    let at : c.len.result ≡ n = c.len.ensures in
    let longer : vec_len c.push.new.self ≡ n + 1 = grind (arith, common_steps) in
    record {
      whole = prefixed_more c.args.tokens.now c.len.result n (vec_len c.push.new.self) _ _ c.in-Some.op _ c.in-Some.ensures.value at longer c.in_ok-push.ensures.items c.loop-op.invariant.whole;
      within = search rules;
    }

pub returns-clause-exact : goal.returns-clause-exact
returns-clause-exact c =
    let n = vec_len c.loop-op.ops in
    let at : c.len.result ≡ n = c.len.ensures in
    let again : c.len-2.result ≡ n = c.len-2.ensures in
    prefixed_all c.args.tokens.now c.len.result c.len-2.result n _ c.loop-op.invariant.whole c.in_default.ensures.value at again
