use Rattle.std.proofs.Common.{◌≡◌, ℕ, ◌<◌, get_or, IsTrue}
use Rattle.block_file.specs.State.{block, times}
use Rattle.block_file.specs.Words.{Moves}
use Rattle.block_file.specs.Growth.{EndsWith}
use Rattle.tile_store.specs.Written.{HoldsPart}
use Rattle.tile_store.proofs.bytes.write_bytes.Given as goal

abbrev pub invariant-loop-place : goal.invariant-loop-place
invariant-loop-place g l = let state = g.B.Blocks.state in record {
  parts : IsTrue (state l.fn.blocks).honest → (i : ℕ) → i < l.place → HoldsPart (block (state l.blocks) (get_or l.numbers i 0)) i l.bytes;
  frame : Moves (times l.numbers) (times l.numbers) (state l.fn.blocks) (state l.blocks);
  ends : EndsWith l.numbers (state l.fn.blocks).content (state l.blocks).content;
  quiet : (state l.blocks).failures ≡ (state l.fn.blocks).failures;
}
