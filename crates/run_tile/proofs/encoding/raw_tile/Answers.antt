-- Where the cells take fewer bytes one after the other, that is the form that they are written in.
use Rattle.run_tile.proofs.RawTiles.{raw-tile}
use Rattle.run_tile.proofs.encoding.raw_tile.Goals as goal

pub returns : goal.returns
returns c =
    raw-tile c.args.kind c.args.cells.now c.in_ok-bytes.bytes.items c.requires.of_type c.in_ok-bytes.ensures.whole c.in_ok-bytes.ensures.read c.requires.shorter
