-- What accumulators are told of the equation as a condition, or of it in the body with blanks for the points of other
-- zones.
use Rattle.std.proofs.Common.{◌≡◌, ◌∙◌, ◌<◌, length, ap, subst, pos, rules}
use Rattle.std.specs.Prelude.{replicate, IsTrue}
use Rattle.std.proofs.lemmas.List.{length-replicate}
use Rattle.wcps_mean.specs.declared.cell.Outcome.TheVariants.{Value}
use Rattle.tile_columns.specs.Blanks.{skips_zeros}
use Rattle.tile_columns.specs.Zones.{HasBlanks, IsSharableAs}
use Rattle.tile_columns.proofs.BlankFolds.{length-joined}
use Rattle.tile_columns.proofs.ZoneFolds.{shared_conditioned, shared_within, if_done}
use Rattle.tile_columns.proofs.zone_folds.shared_folds.Goals as goal

pub blank_folds-requires : goal.blank_folds-requires
blank_folds-requires c =
    let seen = c.args.seen.now in
    let whole = c.requires.whole in
    let hits : length c.join_same.new.out ≡ length seen.column.now = ap length c.join_same.ensures ∙ length-joined c.in-Within.shape (replicate (length seen.column.now) (Value (pos 1))) seen.column.now (length-replicate (length seen.column.now) (Value (pos 1))) in
    let op : 0 < length c.args.slots.now → IsTrue (skips_zeros c.args.op) = λ some. let b : HasBlanks c.args.op c.in-Within.shape seen = subst (λ role. IsSharableAs role c.args.op seen) c.in-Within.is (c.requires.sharable some) in b.skips in
    search (rules, whole, hits, op)

pub returns-in-Condition : goal.returns-in-Condition
returns-in-Condition c = if_done c.keyed_folds.result _ _ (λ v k. shared_conditioned c.args.op c.args.slots.now c.args.seen.now v.items c.in-Condition.is k) c.keyed_folds.ensures

pub returns-in-Within : goal.returns-in-Within
returns-in-Within c =
    if_done c.blank_folds.result _ _
    (λ v k. shared_within c.args.op c.args.slots.now c.args.seen.now c.in-Within.shape c.join_same.new.out v.items c.requires.whole c.in-Within.is c.join_same.ensures
    (λ some. subst (λ role. IsSharableAs role c.args.op c.args.seen.now) c.in-Within.is (c.requires.sharable some)) k)
    c.blank_folds.ensures
