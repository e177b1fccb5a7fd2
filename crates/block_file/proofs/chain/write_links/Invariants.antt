use Rattle.std.proofs.Common.{◌≡◌, IsTrue}
use Rattle.block_file.specs.State.{block, times}
use Rattle.block_file.specs.Words.{Moves}
use Rattle.block_file.specs.Growth.{EndsWith}
use Rattle.block_file.proofs.Chains.{LinkedTo}
use Rattle.block_file.proofs.chain.write_links.Given as goal

abbrev pub invariant-loop-i : goal.invariant-loop-i
invariant-loop-i g l = record {
  links : IsTrue (g.B.Blocks.state l.file).honest → LinkedTo l.i (block (g.B.Blocks.state l.file)) l.ks l.metadata;
  moves : Moves (times l.ks) (times l.ks) (g.B.Blocks.state l.fn.file) (g.B.Blocks.state l.file);
  ends : EndsWith l.ks (g.B.Blocks.state l.fn.file).content (g.B.Blocks.state l.file).content;
  failures : (g.B.Blocks.state l.file).failures ≡ (g.B.Blocks.state l.fn.file).failures;
}
