use Rattle.std.proofs.Common.{◌≡◌, ◌*◌, min, length, IsTrue}
use Rattle.disk_face.specs.Disk.{OnlyRead}
use Rattle.block_file.specs.State.{block_at}
use Rattle.block_file.specs.Uses.{IsFresh}
use Rattle.block_file.proofs.Chains.{Followed}
use Rattle.block_file.proofs.chain.read_chain.Given as goal

abbrev pub invariant-loop-i : goal.invariant-loop-i
invariant-loop-i g l = record {
  same : OnlyRead g.D.Disk.content g.D.Disk.synced g.D.Disk.honest g.D.Disk.overreads l.fn.disk l.disk;
  failures : g.D.Disk.failures l.disk ≡ g.D.Disk.failures l.fn.disk;
  fresh : IsFresh l.marks;
  len : length l.marks ≡ l.fn.header.blocks;
  size : length l.metadata.items ≡ min (4092 * l.i) l.fn.header.length;
  followed : IsTrue (g.D.Disk.honest l.fn.disk)
      → Followed (block_at (g.D.Disk.content l.fn.disk)) l.fn.header.first l.i l.k l.marks l.metadata.items;
}
