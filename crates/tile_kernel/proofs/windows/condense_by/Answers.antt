-- What is kept of all rows is kept of those that a span reaches into.
use Rattle.std.proofs.Common.{◌*◌, ◌≤◌, arith, length, sym, subst, get_or, mul-le-mul_right}
use Rattle.tile_kernel.specs.Windows.{KeepsAcross}
use Rattle.tile_kernel.proofs.windows.condense_by.Goals as goal

pub push_row-requires-clause-kept : goal.push_row-requires-clause-kept
push_row-requires-clause-kept g c =
    let n = length c.args.across.now in
    let to = (get_or c.args.down.now c.loop-k.k (record { from = 0; to = 0 })).to in
    let wide : to * n ≤ c.reach.result * n = mul-le-mul_right n (c.reach.ensures.within c.loop-k.k _ (omega arith)) in
    subst (KeepsAcross g.S.Summary.keeps g.S.Summary.counted c.args.grid.now c.args.across.now (to * n)) (sym c.as_slice.ensures.value)
    (λ row place d e within below. c.in_ok-kept.ensures.kept row place d e within (omega arith))
