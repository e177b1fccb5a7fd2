-- The list of the shared accumulators as a slice.
use Rattle.std.proofs.Common.{sym, subst, rules}
use Rattle.tile_columns.specs.Zones.{AreShared}
use Rattle.tile_columns.proofs.zone_folds.tell_seen.Goals as goal

pub tell_places-requires : goal.tell_places-requires
tell_places-requires c =
    let is = c.deref.ensures.value in
    let whole = c.requires.seen in
    let keys = c.requires.keys in
    let shared : AreShared c.args.op c.shared_numbers-slots.result.now c.args.seen.now c.deref.result.now =
    subst (AreShared c.args.op c.shared_numbers-slots.result.now c.args.seen.now) (sym is) c.in_ok-shared.ensures in
    let op = c.requires.op in
    let few = c.len-few.ensures.few in
    let room = c.requires.room in
    search (rules, whole, keys, shared, op, few, room)
