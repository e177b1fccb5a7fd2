-- The bytes of the count and of all entries are those of the index.
use Rattle.std.proofs.Common.{◌≡◌, ℕ, List, length, take, flat_map, sum_by, ap, ◌∙◌, arith, take_all, length-append}
use Rattle.std.proofs.lemmas.List.Concat.{length-flat_map}
use Rattle.tile_index.specs.declared.entry.Entry.{Entry}
use Rattle.tile_index.specs.Bytes.{number_bytes, entry_bytes}
use Rattle.tile_index.proofs.Codes.{index-parts}
use Rattle.tile_index.proofs.index.TileIndex.bytes_len.Goals as goal

pub returns-clause-value : goal.returns-clause-value
returns-clause-value c =
    let index = c.args.self.now in
    let all : take c.loop-tile._tile-index c.deref-tile-items.result.now ≡ index =
    take_all c.loop-tile._tile-index c.deref-tile-items.result.now c.loop-tile-test.false ∙ c.deref-tile-items.ensures.value ∙ c.self.view_is in
    omega (arith, c.loop-tile.invariant.value, ap (λ (xs : List (ℕ × Entry)). sum_by (λ (x : ℕ × Entry). length (entry_bytes x)) xs) all, ap length (index-parts index), length-append (number_bytes (length index)) (flat_map entry_bytes index), length-flat_map entry_bytes index)
