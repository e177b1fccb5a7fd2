-- The first values are those that were copied.
use Rattle.std.proofs.Common.{◌≡◌, ◌∙◌, length, take, take_at, ap, rules}
use Rattle.std.proofs.lemmas.List.{length-take-le}
use Rattle.raster_store.proofs.lists.copy_front.Goals as goal

pub returns : goal.returns
returns c =
    let from = c.args.from.now in
    let piece : c.copy_from_slice.new.self ≡ take c.args.count from = search rules in
    take_at c.copy_from_slice.new.self _ c.args.count (ap length piece ∙ length-take-le c.args.count from c.requires.within) ∙ piece
