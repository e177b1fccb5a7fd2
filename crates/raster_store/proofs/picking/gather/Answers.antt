-- The cells so far, and in the end those at all ranks.
use Rattle.std.proofs.Common.{◌≡◌, ◌∙◌, List, ℕ, ap, take_all, arith, rules, SFits, w64, to_z-of_z}
use Rattle.tile_store.specs.Picking.{picked}
use Rattle.raster_store.proofs.Readings.{picked_more}
use Rattle.raster_store.proofs.picking.gather.Goals as goal

pub loop-rank-preserved : goal.loop-rank-preserved
loop-rank-preserved c =
    let fits : SFits w64 c.cell_at.result = search rules in
    let value = to_z-of_z fits ∙ (rw c.deref.ensures.value at c.cell_at.ensures) in
    rw c.in_ok-push.ensures.items (picked_more c.args.cells.now.items c.loop-rank.picks.items c.args.ranks.now c.loop-rank.rank-index _ (omega arith) c.loop-rank.invariant value)

pub returns : goal.returns
returns c =
    let copied : c.extend_from_slice.new.self.items ≡ c.loop-rank.picks.items = search rules in
    copied ∙ c.loop-rank.invariant ∙ ap (λ (l : List ℕ). picked c.args.cells.now.items l) (take_all c.loop-rank.rank-index c.args.ranks.now (omega arith))
