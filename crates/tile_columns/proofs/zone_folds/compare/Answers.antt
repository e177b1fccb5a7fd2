-- A column of the key in each place, compared with a column of outcomes.
use Rattle.std.proofs.Common.{◌∙◌, ap, sym}
use Rattle.wcps_text.specs.declared.operator.BinaryOperator.TheVariants.{Equal}
use Rattle.std.specs.Prelude.{map}
use Rattle.tile_kernel.specs.Columns.{operate_all}
use Rattle.tile_columns.specs.Zones.{compared}
use Rattle.tile_columns.proofs.ZoneFolds.{compared_left, compared_right}
use Rattle.tile_columns.proofs.zone_folds.compare.Goals as goal

pub returns-then-key_first : goal.returns-then-key_first
returns-then-key_first c =
    c.operate_columns.ensures ∙ ap (λ l. operate_all Equal l c.args.own.now) c.fill.ensures
    ∙ compared_left c.args.own.now c.len.result c.args.key c.len.ensures.places
    ∙ ap (λ b. map (compared b c.args.key) c.args.own.now) (sym c.if-key_first.true)

pub returns : goal.returns
returns c =
    c.operate_columns-2.ensures ∙ ap (operate_all Equal c.args.own.now) c.fill.ensures
    ∙ compared_right c.args.own.now c.len.result c.args.key c.len.ensures.places
    ∙ ap (λ b. map (compared b c.args.key) c.args.own.now) (sym c.if-key_first.false)
