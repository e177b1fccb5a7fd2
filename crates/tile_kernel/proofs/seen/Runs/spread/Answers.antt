-- The values that were spread are the outcomes at their places.
use Rattle.std.proofs.Common.{◌∙◌, sym, ap, length, take, map, List, ℤ}
use Rattle.wcps_mean.specs.declared.cell.Outcome.TheVariants.{Value}
use Rattle.tile_kernel.proofs.Repeats.{values-repeated}
use Rattle.tile_kernel.proofs.seen.Runs.spread.Goals as goal

pub returns : goal.returns
returns c =
    let runs = c.args.self.now in
    let out = c.spread_over.new.out in
    ap (λ k. map Value (take k out)) (sym runs.total)
    ∙ ap (λ (l : List ℤ). map Value l) c.spread_over.ensures.front
    ∙ values-repeated (take (length runs.counts.now) runs.values.now) runs.counts.now
