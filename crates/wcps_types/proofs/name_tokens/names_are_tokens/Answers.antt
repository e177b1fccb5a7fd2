-- What may be a name is just what a text has as one token that is a name without `$`.
use Rattle.wcps_types.proofs.TokenNames.{token-of-name, name-of-token}
use Rattle.wcps_types.proofs.name_tokens.names_are_tokens.Goals as goal

pub returns : goal.returns
returns c w = (token-of-name w, name-of-token w)
