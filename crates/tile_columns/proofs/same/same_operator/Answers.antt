-- Operations without operands of their own are compared as they are.
use Rattle.std.proofs.Common.{rules}
use denote.Enum.Bare.{same_true}
use Rattle.wcps_text.specs.contracts.operator.BinaryOperator.{the_type}
use Rattle.tile_columns.proofs.same.same_operator.Goals as goal

pub returns : goal.returns
returns c = λ t. same_true the_type (search rules) _ _ (search (rules, t, c.eq.ensures))
