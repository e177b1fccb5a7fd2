-- Every value is true if as many are true as there are values, and some value is if their number is above zero.
use Rattle.std.proofs.Common.{◌∙◌, sym, ap, nat_eq, nat_lt}
use Rattle.wcps_mean.specs.Condensers.{trues}
use Rattle.tile_kernel.specs.Selected.{selected}
use Rattle.tile_kernel.proofs.Reductions.{every_trues, any_trues, keeps_every, keeps_any}
use Rattle.tile_kernel.proofs.reduce.condense_values.Goals as goal

pub returns-in-Every-clause-kept : goal.returns-in-Every-clause-kept
returns-in-Every-clause-kept g c =
    let zs = selected (g.C.Choice.times c.args.choice.now) (g.V.Operand.value c.args.values.now) c.args.len in
    keeps_every c.args.op _ zs c.in-Every.is (ap (λ t. nat_eq t c.places_over-count.result) c.trues_over.ensures.value ∙ ap (nat_eq (trues zs)) c.places_over-count.ensures.value ∙ sym (every_trues zs))

pub returns-in-Any-clause-kept : goal.returns-in-Any-clause-kept
returns-in-Any-clause-kept g c =
    let zs = selected (g.C.Choice.times c.args.choice.now) (g.V.Operand.value c.args.values.now) c.args.len in
    keeps_any c.args.op _ zs c.in-Any.is (ap (nat_lt 0) c.trues_over-in-Any.ensures.value ∙ sym (any_trues zs))
