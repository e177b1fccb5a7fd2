-- What was operated run by run is the operation at each place.
use Rattle.std.proofs.Common.{◌∙◌, sym, ap, length, List}
use Rattle.wcps_mean.specs.declared.cell.Outcome.{Outcome}
use Rattle.tile_kernel.specs.Columns.{operate_all}
use Rattle.tile_kernel.specs.Repeated.{repeated, shown}
use Rattle.tile_kernel.proofs.Places.{length-operate_all}
use Rattle.tile_kernel.proofs.Repeats.{repeats_now, operate-repeated}
use Rattle.tile_kernel.proofs.operate.operate_runs.Goals as goal

pub repeat-requires : goal.repeat-requires
repeat-requires c =
    let pair = c.in-Some.pair in
    let n = length-operate_all c.args.op pair.left pair.right (pair.left_even ∙ sym pair.right_even) in
    record { even = sym (ap length c.operate_views.ensures ∙ n ∙ pair.left_even); total = pair.total; few = pair.few }

pub returns-in-Some : goal.returns-in-Some
returns-in-Some c = λ t.
    let pair = c.in-Some.pair in
    let ns = pair.counts.now in
    repeats_now c.repeat.result ns _ _ t c.repeat.ensures ∙ ap (λ (l : List Outcome). repeated l ns) c.operate_views.ensures
    ∙ sym (operate-repeated c.args.op pair.left pair.right ns)
    ∙ ap (λ (l : List Outcome). operate_all c.args.op l (repeated pair.right ns)) (sym c.in-Some.ensures.left_is)
    ∙ ap (operate_all c.args.op (shown c.args.left.now)) (sym c.in-Some.ensures.right_is)
