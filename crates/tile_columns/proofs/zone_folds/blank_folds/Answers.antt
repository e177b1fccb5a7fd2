-- The accumulators of the points with their numbers, with blanks for the others.
use Rattle.std.proofs.Common.{◌≡◌, ◌∙◌, ◌++◌, length, take, drop, sym, ap, subst, arith, rules}
use Rattle.std.specs.Prelude.{IsTrue}
use Rattle.tile_kernel.specs.Standing.{HaveAtMost}
use Rattle.tile_columns.specs.Blanks.{skips_zeros, SkipZeros}
use Rattle.tile_columns.proofs.Condensings.{whole_back}
use Rattle.tile_columns.proofs.ZoneFolds.{counted_all}
use Rattle.tile_columns.proofs.zone_folds.blank_folds.Goals as goal

pub keyed_folds-requires : goal.keyed_folds-requires
keyed_folds-requires c =
    let own = c.requires.whole.own ∙ sym c.requires.hits in
    let ranks = c.requires.whole.ranks ∙ sym c.requires.hits in
    search (rules, own, ranks)

pub count_all_zeros-requires : goal.count_all_zeros-requires
count_all_zeros-requires c =
    let keyed = c.in_ok-folds.ensures in
    let lent = sym c.deref_mut.ensures.value in
    let op : SkipZeros c.deref_mut.result.now = subst SkipZeros lent
    (λ k d lt. subst (λ o. IsTrue (skips_zeros o)) (sym (keyed.kinds k d lt)) (c.requires.op (omega (arith, lt, keyed.many)))) in
    let room : HaveAtMost (length c.args.seen.now.column.now) c.deref_mut.result.now = subst (HaveAtMost (length c.args.seen.now.column.now)) lent (subst (λ n. HaveAtMost n c.in_ok-folds.folds.items) c.requires.hits keyed.room) in
    search (rules, op, room)

pub returns : goal.returns
returns c =
    let keyed = c.in_ok-folds.ensures in
    let lent = sym c.deref_mut.ensures.value in
    let same : length c.count_all_zeros.new.folds ≡ length c.in_ok-folds.folds.items = c.count_all_zeros.ensures.length ∙ ap length c.deref_mut.ensures.value in
    let back : take c.in_ok-folds.folds.len (c.count_all_zeros.new.folds ++ drop (length c.count_all_zeros.new.folds) c.in_ok-folds.folds.items) ≡ c.count_all_zeros.new.folds =
    whole_back c.in_ok-folds.folds.len c.count_all_zeros.new.folds c.in_ok-folds.folds.items (omega (arith, c.in_ok-folds.folds.ok.0)) same in
    counted_all c.args.op c.args.slots.now c.args.seen.now c.args.hits.now c.in_ok-folds.folds.items c.deref_mut.result.now c.count_all_zeros.new.folds _ c.len.result
    back c.deref_mut.ensures.value c.count_all_zeros.ensures.length c.len.ensures.places keyed c.count_all_zeros.ensures.stands c.count_all_zeros.ensures.room (c.count_all_zeros.ensures.op c.args.op)
