-- The block holds the bytes that stand at its place, and zeros after the last one.
use Rattle.std.proofs.Common.{refl}
use Rattle.tile_store.proofs.Parts.{holds_copied}
use Rattle.tile_store.proofs.bytes.block_of.Goals as goal

pub returns : goal.returns
returns c =
    holds_copied c.args.bytes.now c.copy_from_slice.new.self _ c.args.place c.min-from.result c.min-count.result c.min-from.ensures c.min-count.ensures c.copy_from_slice.ensures.after c.copy_from_slice.ensures.len refl
