use Rattle.std.proofs.Common.{◌≡◌, take, IsTrue, flat_map}
use Rattle.block_file.specs.State.{block, times}
use Rattle.block_file.specs.Words.{OnlyReads}
use Rattle.tile_store.proofs.bytes.read_each.Given as goal

abbrev pub invariant-loop-k : goal.invariant-loop-k
invariant-loop-k g l = let state = g.B.Blocks.state in record {
  bytes : IsTrue (state l.fn.blocks).honest → l.bytes.items ≡ flat_map (block (state l.fn.blocks)) (take l.k-index l.numbers);
  frame : OnlyReads (times l.numbers) (state l.fn.blocks) (state l.blocks);
  quiet : (state l.blocks).failures ≡ (state l.fn.blocks).failures;
}
