use Rattle.std.proofs.Common.{◌≡◌, ◌<◌, ℕ, get_or, pos, IsTrue}
use Rattle.block_file.specs.State.{times}
use Rattle.block_file.specs.Words.{OnlyReads}
use Rattle.file_bytes.specs.declared.form.Form.TheVariants.{Raw}
use Rattle.tile_store.specs.Picking.{cells_as, IsLast}
use Rattle.tile_store.proofs.picking.pick_raw.Given as goal

-- the cells at the first ranks were written, and nothing but blocks of the tile was read
abbrev pub invariant-loop-place : goal.invariant-loop-place
invariant-loop-place g l = let state = g.B.Blocks.state in record {
  last : IsLast (state l.blocks) l.last l.bytes;
  picked : IsTrue (state l.fn.blocks).honest → (k : ℕ) → k < l.place
      → get_or l.cells k (pos 0) ≡ get_or (cells_as Raw l.kind (state l.fn.blocks) l.entry) (get_or l.ranks k 0) (pos 0);
  frame : OnlyReads (times l.entry.blocks) (state l.fn.blocks) (state l.blocks);
  quiet : (state l.blocks).failures ≡ (state l.fn.blocks).failures;
}
