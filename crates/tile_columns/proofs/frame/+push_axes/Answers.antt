-- One variable for the first axis, and those of the others behind it.
use Rattle.std.proofs.Common.{◌/◌, ap, rules, arith, SFits, w32}
use Rattle.std.proofs.lemmas.Int.{to_z-of_z}
use Rattle.arr_core.proofs.Points.{count-pos}
use Rattle.arr_core.proofs.FirstAxis.{cut, step}
use Rattle.tile_columns.proofs.Turns.{axis_first, axis_told, more_whole}
use Rattle.tile_columns.proofs.frame.+push_axes.Goals as goal

pub push_axes-requires : goal.push_axes-requires
push_axes-requires t c =
    let e = cut c.args.axes.now c.axis-item.result c.in-len1-up.len_at_least c.axis-item.is in
    let s = step _ _ _ c.args.total (c.args.total / c.size.result) 0 e c.requires.ordered c.requires.counted (omega (arith, c.requires.counted, count-pos c.args.axes.now)) (ap (λ k. c.args.total / k) c.size.ensures.value) in
    (search rules, (s.ordered, s.left))

pub returns-in_err-push_axes-in-len1-up-clause-whole : goal.returns-in_err-push_axes-in-len1-up-clause-whole
returns-in_err-push_axes-in-len1-up-clause-whole t c = λ n h.
    let lo : SFits w32 c.axis-item.result.lo = search rules in
    let hi : SFits w32 c.axis-item.result.hi = search rules in
    let e = cut c.args.axes.now c.axis-item.result c.in-len1-up.len_at_least c.axis-item.is in
    let s = step _ _ _ c.args.total (c.args.total / c.size.result) 0 e c.requires.ordered c.requires.counted (omega (arith, c.requires.counted, count-pos c.args.axes.now)) (ap (λ k. c.args.total / k) c.size.ensures.value) in
    c.push_axes.ensures.whole n (more_whole n _ _ _ c.in_ok-push-in-len1-up.ensures.items (axis_told c.axis-item.result _ _ _ (to_z-of_z w32 c.axis-item.result.lo lo) (to_z-of_z w32 c.axis-item.result.hi hi) s.here s.positive_inner) h)

pub returns-in_ok-push_axes-in-len1-up-clause-numbers : goal.returns-in_ok-push_axes-in-len1-up-clause-numbers
returns-in_ok-push_axes-in-len1-up-clause-numbers t c = λ place.
    let lo : SFits w32 c.axis-item.result.lo = search rules in
    let hi : SFits w32 c.axis-item.result.hi = search rules in
    let e = cut c.args.axes.now c.axis-item.result c.in-len1-up.len_at_least c.axis-item.is in
    let s = step _ _ _ c.args.total (c.args.total / c.size.result) 0 e c.requires.ordered c.requires.counted (omega (arith, c.requires.counted, count-pos c.args.axes.now)) (ap (λ k. c.args.total / k) c.size.ensures.value) in
    axis_first c.args.variables.now.items c.push.new.self.items c.push_axes.new.variables.items c.args.axes.now c.axis-item.result _ _ _ _ place c.in_ok-push-in-len1-up.ensures.items (to_z-of_z w32 c.axis-item.result.lo lo) (to_z-of_z w32 c.axis-item.result.hi hi) s.left e (c.in_ok-push_axes-in-len1-up.ensures.numbers place)

pub returns-in_ok-push_axes-in-len1-up-clause-whole : goal.returns-in_ok-push_axes-in-len1-up-clause-whole
returns-in_ok-push_axes-in-len1-up-clause-whole t c = λ n h.
    let lo : SFits w32 c.axis-item.result.lo = search rules in
    let hi : SFits w32 c.axis-item.result.hi = search rules in
    let e = cut c.args.axes.now c.axis-item.result c.in-len1-up.len_at_least c.axis-item.is in
    let s = step _ _ _ c.args.total (c.args.total / c.size.result) 0 e c.requires.ordered c.requires.counted (omega (arith, c.requires.counted, count-pos c.args.axes.now)) (ap (λ k. c.args.total / k) c.size.ensures.value) in
    c.push_axes.ensures.whole n (more_whole n _ _ _ c.in_ok-push-in-len1-up.ensures.items (axis_told c.axis-item.result _ _ _ (to_z-of_z w32 c.axis-item.result.lo lo) (to_z-of_z w32 c.axis-item.result.hi hi) s.here s.positive_inner) h)
