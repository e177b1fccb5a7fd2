-- A tile that is listed has the cells of its entry, and one that is not is 0 everywhere.
use Rattle.std.proofs.Common.{◌≡◌, length, replicate, pos, rules, arith}
use Rattle.std.proofs.lemmas.Grind.{common_steps}
use Rattle.tile_store.proofs.Listed.{found_times}
use Rattle.tile_store.proofs.Picks.{entry_in, ok_both, picked_none, picked_some}
use Rattle.tile_store.proofs.Takes.{reads_more}
use Rattle.tile_store.proofs.picking.pick_tile_into.Goals as goal

pub pick_entry-requires : goal.pick_entry-requires
pick_entry-requires g c = entry_in c.args.field _ c.args.tile c.in-Some.entry.now c.index-listed.ensures.index c.requires.sound c.in-Some.ensures

pub returns-in_ok-resize-in-None-clause-picked : goal.returns-in_ok-resize-in-None-clause-picked
returns-in_ok-resize-in-None-clause-picked g c =
    let zeros : c.resize.new.self.items ≡ replicate (length c.args.ranks.now) (pos 0) = first_of (search rules, grind (arith, common_steps)) in
    picked_none c.args.field _ c.args.tile c.args.ranks.now c.resize.new.self.items c.axes-axes.ensures.domain c.requires.tile c.requires.ranks c.in-None.ensures zeros

pub returns-in-Some-clause-picked : goal.returns-in-Some-clause-picked
returns-in-Some-clause-picked g c =
    ok_both c.pick_entry.result _ _ _ (λ size picks. picked_some c.args.field _ c.args.tile c.args.ranks.now c.in-Some.entry.now c.pick_entry.new.cells.items c.axes-axes.ensures.domain c.requires.tile c.requires.ranks c.in-Some.ensures size picks) c.pick_entry.ensures.counted c.pick_entry.ensures.picked

pub returns-in-Some-clause-frame : goal.returns-in-Some-clause-frame
returns-in-Some-clause-frame g c = reads_more _ _ _ _ (found_times c.args.field.index.now c.args.tile _ c.in-Some.ensures) c.pick_entry.ensures.frame
