-- Every value is true if as many are true as there are values, and some value is if their number is above zero.
use Rattle.std.proofs.Common.{◌∙◌, sym, ap, nat_eq, nat_lt, length}
use Rattle.tile_kernel.proofs.Reductions.{every_trues, any_trues, keeps_every, keeps_any}
use Rattle.tile_kernel.proofs.narrow_reduce.condense_narrow.Goals as goal

pub returns-in-Every-clause-kept : goal.returns-in-Every-clause-kept
returns-in-Every-clause-kept c =
    let zs = c.args.values.now in
    keeps_every c.args.op _ zs c.in-Every.is (ap (λ t. nat_eq t (length zs)) c.narrow_trues.ensures.value ∙ sym (every_trues zs))

pub returns-in-Any-clause-kept : goal.returns-in-Any-clause-kept
returns-in-Any-clause-kept c =
    let zs = c.args.values.now in
    keeps_any c.args.op _ zs c.in-Any.is (ap (nat_lt 0) c.narrow_trues-in-Any.ensures.value ∙ sym (any_trues zs))
