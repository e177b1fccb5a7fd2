-- A text has at most one list of tokens and at most one first refusal, and never both.
use Rattle.wcps_parse.proofs.Texts.{lexed-once, refused-once, not-both}
use Rattle.wcps_parse.proofs.query.one_reading.Goals as goal

pub returns-clause-tokens : goal.returns-clause-tokens
returns-clause-tokens c text = lexed-once 0 text

pub returns-clause-refusal : goal.returns-clause-refusal
returns-clause-refusal c = refused-once

pub returns-clause-apart : goal.returns-clause-apart
returns-clause-apart c text = not-both 0 text
