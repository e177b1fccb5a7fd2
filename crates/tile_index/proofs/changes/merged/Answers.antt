-- The changes still to come, made in what is left and what was moved, give what all of them give, and the tiles rise.
use Rattle.std.proofs.Common.{◌≡◌, ℕ, [], ◌∷◌, ◌++◌, reverse, ap, ◌∙◌, arith, rules, length, None}
use Rattle.std.proofs.lemmas.Grind.{common_steps}
use Rattle.std.proofs.lemmas.List.{reverse-append}
use Rattle.tile_index.specs.declared.entry.Entry.{Entry}
use Rattle.tile_index.proofs.Merging.{merging-start, merging-apart, merging-step, merging-rises}
use Rattle.tile_index.proofs.Changed.{index-changed}
use Rattle.tile_index.specs.Index.{found_at, changed_at}
use Rattle.tile_index.proofs.changes.merged.Goals as goal

pub loop-tile-init : goal.loop-tile-init
loop-tile-init c = record {
  merging = rw c.requires.empty (merging-start c.args.changes.items c.args.entries.items c.requires.index c.requires.changes);
  room = omega (arith, c.requires.room, ap length c.requires.empty, c.args.room.ok);
}

pub move_after-requires-clause-apart : goal.move_after-requires-clause-apart
move_after-requires-clause-apart c =
    merging-apart _ _ _ c.pop.new.self.items (c.in-Some.tile, c.in-Some.change) _ _ c.in-Some.ensures.items c.loop-tile.invariant.merging

pub loop-tile-preserved-in-Some-change : goal.loop-tile-preserved-in-Some-change
loop-tile-preserved-in-Some-change c =
    let x : ℕ × Entry = (c.in-Some.tile, c.in-Some-change.entry) in
    let moved = c.move_after.new.moved.items in
    let pushed : c.push.new.self.items ≡ moved ++ x ∷ [] = grind (arith, common_steps, c.push.ensures.items, c.unwrap.ensures) in
    let back : reverse c.push.new.self.items ≡ x ∷ reverse moved = ap reverse pushed ∙ reverse-append moved (x ∷ []) in
    let step = merging-step _ _ _ c.pop.new.self.items c.in-Some.tile c.in-Some.change _ _ _ _ c.in-Some.ensures.items c.loop-tile.invariant.merging c.move_after.ensures.parted in
    record { merging = rw back (rw c.in-Some-change.is at step); room = search rules }

pub loop-tile-preserved : goal.loop-tile-preserved
loop-tile-preserved c =
    let none : c.in-Some.change ≡ None = search rules in
    let step = merging-step _ _ _ c.pop.new.self.items c.in-Some.tile c.in-Some.change _ _ _ _ c.in-Some.ensures.items c.loop-tile.invariant.merging c.move_after.ensures.parted in
    record { merging = rw none at step; room = search rules }

pub returns-clause-index : goal.returns-clause-index
returns-clause-index c =
    let none : c.loop-tile.changes.items ≡ [] = search rules in
    let whole = c.reverse.ensures.items ∙ c.move_all.ensures in
    let gives : (t : ℕ) → found_at t c.reverse.new.self.items ≡ changed_at t c.args.changes.items c.args.entries.items = λ t. rw whole (rw none at (c.loop-tile.invariant.merging.gives t)) in
    index-changed _ _ c.reverse.new.self.items c.requires.index c.requires.changes gives (rw whole (merging-rises _ _ _ _ _ c.loop-tile.invariant.merging))
