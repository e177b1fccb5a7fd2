-- The text of a template means its operation.
use Rattle.coverage_server.proofs.TomlinLemmas.{tomlins}
use Rattle.coverage_server.proofs.laws.templates_are_tomlins.Goals as goal

pub returns : goal.returns
returns c = tomlins
