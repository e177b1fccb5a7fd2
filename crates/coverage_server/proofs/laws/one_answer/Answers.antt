-- Tokens, queries and types of a text are one, and so is its answer.
use Rattle.coverage_server.proofs.OneAnswerLemmas.{one_answer}
use Rattle.coverage_server.proofs.laws.one_answer.Goals as goal

pub returns : goal.returns
returns c = one_answer
