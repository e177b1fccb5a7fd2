-- The equation itself, or an operation on it.
use Rattle.std.proofs.Common.{◌∙◌, sym, ap}
use Rattle.tile_columns.specs.Shapes.{joined_all}
use Rattle.tile_columns.proofs.BlankFolds.{plus_all}
use Rattle.tile_columns.proofs.shapes.join.Goals as goal

pub returns-in-Alone : goal.returns-in-Alone
returns-in-Alone c = c.operate_column.ensures ∙ plus_all c.args.equation.now ∙ ap (λ s. joined_all s c.args.equation.now c.args.other.now) (sym c.in-Alone.is)
