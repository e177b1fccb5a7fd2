-- The changes still to come, made in what there is, give what all of them give, and the tiles stay.
use Rattle.std.proofs.Common.{◌≡◌, ℕ, [], ◌∷◌, ◌++◌, rules, None, Some}
use Rattle.tile_index.specs.Index.{found_at, changed_at}
use Rattle.tile_index.proofs.Changed.{index-changed}
use Rattle.tile_index.proofs.Exchanging.{exchanging-step, gives-entry}
use Rattle.tile_index.proofs.changes.exchange_all.Goals as goal

pub loop-tile-preserved-in-Some-change : goal.loop-tile-preserved-in-Some-change
loop-tile-preserved-in-Some-change c =
    let popped : c.loop-tile.changes.items ≡ c.pop.new.self.items ++ (c.in-Some.tile, Some c.in-Some-change.new) ∷ [] = rw c.in-Some-change.is at c.in-Some.ensures.items in
    exchanging-step _ _ _ c.pop.new.self.items c.in-Some.tile c.in-Some-change.new _ _ popped c.loop-tile.invariant c.exchange.ensures.here c.exchange.ensures.others c.exchange.ensures.rising

pub loop-tile-preserved : goal.loop-tile-preserved
loop-tile-preserved c =
    let none : c.in-Some.change ≡ None = search rules in
    let some = gives-entry _ _ c.pop.new.self.items (c.in-Some.tile, c.in-Some.change) c.in-Some.ensures.items c.loop-tile.invariant.left in
    absurd (cc)

pub returns-clause-index : goal.returns-clause-index
returns-clause-index c =
    let none : c.loop-tile.changes.items ≡ [] = search rules in
    let gives : (t : ℕ) → found_at t c.loop-tile.entries.items ≡ changed_at t c.args.changes.items c.args.entries.now.items = λ t. rw none at (c.loop-tile.invariant.gives t) in
    index-changed _ _ c.loop-tile.entries.items c.requires.index c.requires.changes gives c.loop-tile.invariant.rising
