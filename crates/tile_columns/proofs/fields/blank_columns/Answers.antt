-- One more field has zeros, settled by the positions.
use Rattle.std.proofs.Common.{◌∙◌, ◌∷◌, [], ◌++◌, ap, sym, length, pos, arith}
use Rattle.std.specs.Prelude.{replicate}
use Rattle.std.proofs.lemmas.Grind.{common_steps}
use Rattle.wcps_mean.specs.declared.cell.Outcome.TheVariants.{Value}
use Rattle.tile_columns.specs.Fields.{settled_by}
use Rattle.tile_columns.proofs.Behind.{one_more_same}
use Rattle.tile_columns.proofs.fields.blank_columns.Goals as goal

pub loop-field-preserved : goal.loop-field-preserved
loop-field-preserved c =
    let f = settled_by c.args.positions.now c.args.interval.lo c.args.interval.hi in
    let blank = f (replicate (length c.args.positions.now) (Value (pos 0))) in
    c.in_ok-push_column.ensures
    ∙ ap (λ x. c.loop-field.columns.items ++ x ∷ []) (c.in_ok-settle.ensures ∙ ap f (c.fill.ensures ∙ ap (λ n. replicate n (Value (pos 0))) c.len.ensures.places))
    ∙ ap (λ l. l ++ blank ∷ []) c.loop-field.invariant
    ∙ sym (one_more_same c.loop-field._field blank)

pub settle-requires : goal.settle-requires
settle-requires c = grind (arith, common_steps)
