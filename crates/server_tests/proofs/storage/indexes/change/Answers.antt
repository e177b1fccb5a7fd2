-- The last tile stays free.
use Rattle.std.proofs.Common.{arith}
use Rattle.server_tests.proofs.Room.{free_last, one_entry}
use Rattle.server_tests.proofs.storage.indexes.change.Goals as goal

pub replace_all-requires-clause-room : goal.replace_all-requires-clause-room
replace_all-requires-clause-room c =
    (4294967295, omega arith, free_last c.args.tile c.args.entry c.in_ok-vec.field-0.items c.args.index.now c.in_ok-vec.ensures.items c.requires.below c.requires.room)

pub replace_all-requires-clause-entries : goal.replace_all-requires-clause-entries
replace_all-requires-clause-entries c = one_entry c.args.tile c.args.entry c.in_ok-vec.field-0.items c.in_ok-vec.ensures.items c.requires.entry
