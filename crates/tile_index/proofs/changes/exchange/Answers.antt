-- The tile's pair has the entry, and stays the tile's.
use Rattle.std.proofs.Common.{◌≡◌, ap, ◌∙◌}
use Rattle.tile_index.proofs.Exchanging.{found-written, found-unwritten}
use Rattle.tile_index.proofs.changes.exchange.Goals as goal

pub returns-in-Some-clause-here : goal.returns-in-Some-clause-here
returns-in-Some-clause-here c =
    let pair = c.index_mut.result.now in
    let place = rw c.deref.ensures.value at c.in-Some.ensures.place in
    let same : pair.0 ≡ c.args.tile = ap (λ x. x.0) c.index_mut.ensures.value ∙ place.1 pair in
    found-written c.args.tile c.args.entries.now.items c.in-Some.place (pair.0, c.args.entry) pair c.requires.rising place.0 (place.1 pair) same

pub returns-in-Some-clause-others : goal.returns-in-Some-clause-others
returns-in-Some-clause-others c t n =
    let pair = c.index_mut.result.now in
    let place = rw c.deref.ensures.value at c.in-Some.ensures.place in
    let same : pair.0 ≡ c.args.tile = ap (λ x. x.0) c.index_mut.ensures.value ∙ place.1 pair in
    found-unwritten t c.args.tile c.args.entries.now.items c.in-Some.place (pair.0, c.args.entry) pair (place.1 pair) same n
