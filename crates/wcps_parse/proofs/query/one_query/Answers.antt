-- No tokens spell two queries.
use Rattle.wcps_parse.proofs.Queries.{one_spelled}
use Rattle.wcps_parse.proofs.query.one_query.Goals as goal

pub returns : goal.returns
returns c = one_spelled
