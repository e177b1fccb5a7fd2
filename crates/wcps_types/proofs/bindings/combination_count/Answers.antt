-- The count so far times the choices still to come is the number of combinations, or one more than the most.
use Rattle.std.proofs.Common.{◌≡◌, ◌+◌, ◌*◌, min, length, drop, arith, ap, sym, ◌∙◌}
use Rattle.wcps_types.specs.Bindings.{max_combinations}
use Rattle.wcps_types.proofs.Choices.{count_of, drop_next, product_step}
use Rattle.wcps_types.proofs.bindings.combination_count.Goals as goal

pub loop-choice-preserved : goal.loop-choice-preserved
loop-choice-preserved c =
    let most = max_combinations + 1 in
    let i = c.loop-choice.choice-index in
    let x = c.choice-item.result in
    let next = ap count_of (drop_next c.args.choices.now i x c.loop-choice-test.true c.choice-item.is) in
    let rest = count_of (drop (i + 1) c.args.choices.now) in
    let len : c.len.result ≡ length x.coverages.items = omega (arith, x.coverages.ok, c.len.ensures) in
    let factor : c.min-factor.result ≡ min (length x.coverages.items) most = c.min-factor.ensures ∙ ap (λ n. min n most) len in
    let made : c.min-count.result ≡ min (c.loop-choice.count * min (length x.coverages.items) most) most = c.min-count.ensures ∙ ap (λ n. min (c.loop-choice.count * n) most) factor in
    record {
      few = omega arith;
      counted =
          ap (λ n. min (n * rest) most) made
          ∙ product_step most c.loop-choice.count (length x.coverages.items) rest
          ∙ ap (λ n. min (c.loop-choice.count * n) most) (sym next)
          ∙ c.loop-choice.invariant.counted;
    }
