-- The place divided by the points of the other axes gives the first coordinate, and its remainder the others.
use Rattle.std.proofs.Common.{rules, ap, ◌∙◌, ◌+ℤ◌, ◌/◌, pos, w32, SFits, arith}
use Rattle.std.proofs.lemmas.Int.{to_z-of_z}
use Rattle.std.proofs.lemmas.Grind.{common_steps}
use Rattle.arr_core.proofs.FirstAxis.{cut, step, onto}
use Rattle.arr_core.proofs.axes.+push_coordinates.Goals as goal

pub coordinate-x-requires-clause-inside : goal.coordinate-x-requires-clause-inside
coordinate-x-requires-clause-inside t c =
    let e = cut c.args.axes.now c.axis-item.result c.in-len1-up.len_at_least c.axis-item.is in
    let s = step _ _ _ c.args.count (c.args.count / c.size.result) c.args.place e c.requires.ordered c.requires.counted c.requires.inside (ap (λ k. c.args.count / k) c.size.ensures.value) in
    let lo : SFits w32 c.axis-item.result.lo = search rules in
    let hi : SFits w32 c.axis-item.result.hi = search rules in
    rw (to_z-of_z w32 c.axis-item.result.lo lo, to_z-of_z w32 c.axis-item.result.hi hi) s.within

pub nonzero_rem-place : goal.nonzero_rem-place
nonzero_rem-place t c =
    let e = cut c.args.axes.now c.axis-item.result c.in-len1-up.len_at_least c.axis-item.is in
    let s = step _ _ _ c.args.count (c.args.count / c.size.result) c.args.place e c.requires.ordered c.requires.counted c.requires.inside (ap (λ k. c.args.count / k) c.size.ensures.value) in
    s.positive_inner

pub push_coordinates-requires : goal.push_coordinates-requires
push_coordinates-requires t c =
    let e = cut c.args.axes.now c.axis-item.result c.in-len1-up.len_at_least c.axis-item.is in
    let s = step _ _ _ c.args.count (c.args.count / c.size.result) c.args.place e c.requires.ordered c.requires.counted c.requires.inside (ap (λ k. c.args.count / k) c.size.ensures.value) in
    (search rules, (s.ordered, (s.left, s.inside)))

pub returns-in_ok-push_coordinates-in-len1-up : goal.returns-in_ok-push_coordinates-in-len1-up
returns-in_ok-push_coordinates-in-len1-up t c =
    let e = cut c.args.axes.now c.axis-item.result c.in-len1-up.len_at_least c.axis-item.is in
    let s = step _ _ _ c.args.count (c.args.count / c.size.result) c.args.place e c.requires.ordered c.requires.counted c.requires.inside (ap (λ k. c.args.count / k) c.size.ensures.value) in
    let lo : SFits w32 c.axis-item.result.lo = search rules in
    let x : SFits w32 c.coordinate-x.result = search rules in
    let y = to_z-of_z w32 c.coordinate-x.result x ∙ c.coordinate-x.ensures ∙ ap (λ z. z +ℤ pos (c.args.place / (c.args.count / c.size.result))) (to_z-of_z w32 c.axis-item.result.lo lo) in
    onto _ _ _ _ _ _ _ c.in_ok-push-in-len1-up.ensures.items y s.made c.in_ok-push_coordinates-in-len1-up.ensures

pub nonzero_div-place : goal.nonzero_div-place
nonzero_div-place t c = grind (arith, common_steps)

pub returns-in-empty : goal.returns-in-empty
returns-in-empty t c = grind (arith, common_steps)
