-- The index with its changes is an index, as long as it was counted to be.
use Rattle.std.proofs.Common.{arith, ◌^◌, ◌≡◌, ℕ, Option, Some, refl}
use Rattle.tile_index.specs.declared.entry.Entry.{Entry}
use Rattle.tile_index.specs.Entries.{IsEntry}
use Rattle.tile_index.proofs.Found.{found_is}
use Rattle.tile_store.proofs.Sizes.{size_after}
use Rattle.tile_store.proofs.Sums.{none_past}
use Rattle.tile_store.proofs.field.exchange.Goals as goal

pub replace_all-requires-clause-room : goal.replace_all-requires-clause-room
replace_all-requires-clause-room g c =
    let n : ℕ = 2 ^ 24 in
    (n, omega arith, rw (c.field.view_is) (rw (none_past n c.args.ready.fresh.changes.items c.requires.changes.below, none_past n c.args.field.now c.requires.below) refl))

pub replace_all-requires-clause-entries : goal.replace_all-requires-clause-entries
replace_all-requires-clause-entries g c = λ t e some. found_is (λ (x : ℕ × Option Entry). (d : Entry) → x.1 ≡ Some d → IsEntry d) t c.args.ready.fresh.changes.items (Some e) c.requires.changes.entries some e refl

pub invariant_of-field-2 : goal.invariant_of-field-2
invariant_of-field-2 g c =
    let old = rw c.field.view_is at c.field.invariant in
    (c.in_default.ensures.index, size_after c.args.ready c.args.field.now c.replace_all.new.self old.0 c.in_default.ensures.index c.requires.changes (rw c.field.view_is at c.in_default.ensures.changed) c.requires.size)
