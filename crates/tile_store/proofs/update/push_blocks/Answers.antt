-- The blocks of a tile come after the others.
use Rattle.std.proofs.Common.{rules, ap, ◌≡◌, ◌++◌, option_copied}
use Rattle.block_file.proofs.Times.{times_append}
use Rattle.tile_store.proofs.update.push_blocks.Goals as goal

pub returns-in_ok-extend_from_slice-in-Some : goal.returns-in_ok-extend_from_slice-in-Some
returns-in_ok-extend_from_slice-in-Some c = λ k.
    let added : c.extend_from_slice.new.self.items ≡ c.args.blocks.now.items ++ c.as_slice.result.now = search rules in
    rw (added, c.as_slice.ensures, ap option_copied c.in-Some.is) (times_append _ _ k)
