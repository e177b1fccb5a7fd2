-- The values that were spread in 32 bits are the outcomes at their places.
use Rattle.std.proofs.Common.{IsTrue, ◌∙◌, sym, ap, length, take, map, List, ℤ, rules}
use Rattle.wcps_mean.specs.declared.cell.Outcome.TheVariants.{Value}
use Rattle.tile_kernel.proofs.Repeats.{values-repeated}
use Rattle.tile_kernel.proofs.seen.Runs.spread_narrow.Goals as goal

pub returns : goal.returns
returns c =
    let runs = c.args.self.now in
    let out = c.spread_narrow_over.new.out in
    let told : IsTrue c.spread_narrow_over.result = search rules in
    ap (λ k. map Value (take k out)) (sym runs.total)
    ∙ ap (λ (l : List ℤ). map Value l) (c.spread_narrow_over.ensures.front told)
    ∙ values-repeated (take (length runs.counts.now) runs.values.now) runs.counts.now
