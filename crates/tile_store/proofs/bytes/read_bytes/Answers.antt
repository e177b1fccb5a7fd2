-- The bytes of a tile are those of the blocks that its entry lists, in order.
use Rattle.std.proofs.Common.{ap, sym, subst, take, ◌∙◌, flat_map}
use Rattle.block_file.specs.State.{block, times}
use Rattle.block_file.specs.Words.{OnlyReads, Covers}
use Rattle.tile_store.specs.Stored.{entry_data}
use Rattle.tile_store.proofs.bytes.read_bytes.Goals as goal

pub read_blocks-requires : goal.read_blocks-requires
read_blocks-requires g c = subst (λ ks. Covers (g.B.Blocks.state c.args.blocks.now) (times ks)) (sym c.as_slice.ensures) c.requires

pub returns-clause-value : goal.returns-clause-value
unfolding entry_data
returns-clause-value g c = λ honest.
    c.truncate.ensures.items ∙ ap (take c.args.entry.now.length) (c.in_ok-read_blocks.ensures.value honest ∙ ap (flat_map (block (g.B.Blocks.state c.args.blocks.now))) c.as_slice.ensures)

pub returns-in_err-read_blocks-clause-frame : goal.returns-in_err-read_blocks-clause-frame
returns-in_err-read_blocks-clause-frame g c =
    let state = g.B.Blocks.state in
    subst (λ ks. OnlyReads (times ks) (state c.args.blocks.now) (state c.read_blocks.new.blocks)) c.as_slice.ensures c.in_err-read_blocks.ensures.frame

pub returns-clause-frame : goal.returns-clause-frame
returns-clause-frame g c =
    let state = g.B.Blocks.state in
    subst (λ ks. OnlyReads (times ks) (state c.args.blocks.now) (state c.read_blocks.new.blocks)) c.as_slice.ensures c.in_ok-read_blocks.ensures.frame
