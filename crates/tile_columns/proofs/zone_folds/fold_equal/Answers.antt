-- A column of what the outcomes are compared with has as many places as they, and so has one of the bodies that it
-- makes.
use Rattle.std.proofs.Common.{◌≡◌, ◌∙◌, length, map, ap, subst, sym, arith, rules}
use Rattle.std.proofs.lemmas.List.{length-map}
use Rattle.tile_kernel.specs.Told.{demanded_at, told_at}
use Rattle.tile_kernel.specs.Standing.{Stands}
use Rattle.tile_columns.specs.Shapes.{joined_all}
use Rattle.tile_columns.specs.Zones.{compared, told_all}
use Rattle.tile_columns.proofs.BlankFolds.{length-joined}
use Rattle.tile_columns.proofs.zone_folds.fold_equal.Goals as goal

pub fold_column_where-requires : goal.fold_column_where-requires
fold_column_where-requires c =
    let seen = c.args.seen.now in
    let condition : length c.compare.new.chosen ≡ length seen.column.now = ap length c.compare.ensures ∙ length-map seen.own.now (compared seen.key_first c.args.key) ∙ c.requires.own in
    let places = c.requires.ranks in
    search (rules, condition, places)

pub join-requires : goal.join-requires
join-requires c =
    let seen = c.args.seen.now in
    ap length c.compare.ensures ∙ length-map seen.own.now (compared seen.key_first c.args.key) ∙ c.requires.own

pub fold_column-requires : goal.fold_column-requires
fold_column-requires c =
    let seen = c.args.seen.now in
    let long = ap length c.compare.ensures ∙ length-map seen.own.now (compared seen.key_first c.args.key) ∙ c.requires.own in
    c.requires.ranks ∙ sym (ap length c.join.ensures ∙ length-joined c.in-Within.shape c.compare.new.chosen seen.column.now long)

pub returns-in-Condition-clause-stands : goal.returns-in-Condition-clause-stands
returns-in-Condition-clause-stands c =
    let seen = c.args.seen.now in
    subst (λ role. Stands c.fold_column_where.result (told_all role seen.ranks.now (map (compared seen.key_first c.args.key) seen.own.now) seen.column.now)) (sym c.in-Condition.is)
    (subst (λ l. Stands c.fold_column_where.result (demanded_at seen.ranks.now l seen.column.now)) c.compare.ensures c.fold_column_where.ensures.stands)

pub returns-in-Within-clause-stands : goal.returns-in-Within-clause-stands
returns-in-Within-clause-stands c =
    let seen = c.args.seen.now in
    subst (λ role. Stands c.fold_column.result (told_all role seen.ranks.now (map (compared seen.key_first c.args.key) seen.own.now) seen.column.now)) (sym c.in-Within.is)
    (subst (λ l. Stands c.fold_column.result (told_at seen.ranks.now (joined_all c.in-Within.shape l seen.column.now))) c.compare.ensures
    (subst (λ l. Stands c.fold_column.result (told_at seen.ranks.now l)) c.join.ensures c.fold_column.ensures.stands))

pub returns-in-Within-clause-count : goal.returns-in-Within-clause-count
returns-in-Within-clause-count c =
    let seen = c.args.seen.now in
    let long = ap length c.compare.ensures ∙ length-map seen.own.now (compared seen.key_first c.args.key) ∙ c.requires.own in
    let m = ap length c.join.ensures ∙ length-joined c.in-Within.shape c.compare.new.chosen seen.column.now long in
    omega (arith, m, c.fold_column.ensures.count)
