-- The work of the fields so far and of those still to come is the work of all, or one more than the most.
use Rattle.std.proofs.Common.{◌≡◌, ◌<◌, ◌+◌, suc, length, drop, arith, ap, ◌∙◌}
use Rattle.wcps_types.specs.Typed.{fields_view}
use Rattle.wcps_types.specs.Work.{fields_work, capped}
use Rattle.wcps_types.proofs.Efforts.{next_work}
use Rattle.wcps_types.proofs.effort.each_field_work.Goals as goal

pub loop-field-preserved : goal.loop-field-preserved
loop-field-preserved c =
    let e = c.args.node.now in
    let bs = c.args.booleans.now in
    let j = c.loop-field.field in
    let lt : j < length bs = omega arith in
    let next : j + 1 ≡ suc j = omega arith in
    let cut = next_work e j bs j lt in
    let here : capped (c.plus-total.result + fields_work (fields_view e (suc j) (drop (suc j) bs))) ≡ capped (c.loop-field.total + fields_work (fields_view e j (drop j bs))) =
    omega (arith, c.plus-total.ensures, c.node_work.ensures, cut) in
    record {
      few = omega (arith, c.plus-total.ensures);
      counted = ap (λ n. capped (c.plus-total.result + fields_work (fields_view e n (drop n bs)))) next ∙ here ∙ c.loop-field.invariant.counted;
    }
