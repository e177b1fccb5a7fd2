-- What an index has for a tile is an entry.
use Rattle.std.proofs.Common.{◌∙◌, sym}
use Rattle.tile_store.proofs.Sizes.{found_entry}
use Rattle.tile_store.proofs.reserve.listed_size.Goals as goal

pub entry_size-size-requires : goal.entry_size-size-requires
entry_size-size-requires c = λ e some. found_entry c.args.index.now _ e c.requires.index (sym c.get.ensures ∙ some)
