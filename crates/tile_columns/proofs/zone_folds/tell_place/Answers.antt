-- The accumulator at the place has been told of the points that have its key.
use Rattle.std.proofs.Common.{◌≡◌, ◌∙◌, ◌<◌, ◌≤◌, sym, subst, arith, length, map, get_or}
use Rattle.tile_kernel.specs.declared.accumulator.Accumulator.{Accumulator}
use Rattle.tile_kernel.specs.Columns.{outcome_at}
use Rattle.tile_kernel.specs.Keyed.{having, number_at}
use Rattle.tile_kernel.specs.Standing.{Stands}
use Rattle.tile_kernel.proofs.Places.{outcome_there}
use Rattle.tile_columns.specs.Zones.{compared, told_all}
use Rattle.tile_columns.proofs.ZoneFolds.{having_compared, merged_at}
use Rattle.tile_columns.proofs.zone_folds.tell_place.Goals as goal

pub returns-in-Some : goal.returns-in-Some
returns-in-Some c =
    let seen = c.args.pool.now.seen.now in
    let keys = c.args.pool.now.keys.now in
    let j = c.in-Some.j in
    let found = c.index-shared-j.result in
    let key = outcome_there keys.column c.args.place c.at-key.result c.at-key.ensures ∙ c.in-Some.ensures.key in
    let lt : j < length c.args.pool.now.shared.now = omega (arith, c.in-Some.ensures.within, c.requires.shared.many) in
    let is : get_or c.args.pool.now.shared.now j found ≡ found = sym c.index-shared-j.is in
    let more = told_all seen.role seen.ranks.now (map (compared seen.key_first (outcome_at keys.column c.args.place)) seen.own.now) seen.column.now in
    let stands : Stands found more =
    subst (λ o. Stands found (told_all seen.role seen.ranks.now (map (compared seen.key_first o) seen.own.now) seen.column.now)) (sym key)
    (subst (λ l. Stands found (told_all seen.role seen.ranks.now l seen.column.now)) (having_compared seen.key_first seen.own.now (number_at c.args.pool.now.slots.now j))
    (subst (λ a. Stands a (told_all seen.role seen.ranks.now (having seen.own.now (number_at c.args.pool.now.slots.now j)) seen.column.now)) is (c.requires.shared.told j found lt))) in
    let few : found.running.count ≤ length seen.column.now = subst (λ (a : Accumulator). a.running.count ≤ length seen.column.now) is (c.requires.shared.room j found lt) in
    merged_at c.args.place (length seen.column.now) found more c.args.folds.now c.merge_at.new.folds c.merge_at.ensures stands few

pub returns-in-None : goal.returns-in-None
returns-in-None c =
    let seen = c.args.pool.now.seen.now in
    let keys = c.args.pool.now.keys.now in
    let found = c.fold_equal-found.result in
    let key = outcome_there keys.column c.args.place c.at-key.result c.at-key.ensures in
    let more = told_all seen.role seen.ranks.now (map (compared seen.key_first (outcome_at keys.column c.args.place)) seen.own.now) seen.column.now in
    let stands : Stands found more =
    subst (λ o. Stands found (told_all seen.role seen.ranks.now (map (compared seen.key_first o) seen.own.now) seen.column.now)) (sym key) c.fold_equal-found.ensures.stands in
    merged_at c.args.place (length seen.column.now) found more c.args.folds.now c.merge_at-in-None.new.folds c.merge_at-in-None.ensures stands c.fold_equal-found.ensures.count
