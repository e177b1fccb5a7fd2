-- The tokens spell the query within the limits, and a refusal of their syntax or depth is so over each store.
use Rattle.std.proofs.Common.{◌≢◌, rules}
use Rattle.wcps_text.specs.Token.{toks}
use Rattle.wcps_parse.specs.declared.error.ParseError.TheVariants.{NoMemory}
use Rattle.coverage_server.proofs.AskingLemmas.{refused_tokens}
use Rattle.coverage_server.proofs.query.query_of.Goals as goal

pub returns-in-Ok : goal.returns-in-Ok
returns-in-Ok c = (c.in-Ok.ensures.within, c.in-Ok.ensures.spelled, c.in-Ok.ensures.low)

pub returns-in-Err : goal.returns-in-Err
returns-in-Err c =
    let e = c.in-Err.ensures in
    let other : c.in-Err.error ≢ NoMemory = search rules in
    λ store. rw c.refusal.ensures (refused_tokens store (toks c.args.tokens.now) c.in-Err.error other e.syntax e.no_query e.deep)
