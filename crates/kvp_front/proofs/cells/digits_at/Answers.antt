-- One digit more is read, and 18 digits write no number past 64 bits.
use Rattle.std.proofs.Common.{arith, get_or}
use Rattle.std.specs.Int.{IsInRange}
use Rattle.std.proofs.lemmas.Bool.Decides.{nat_tests}
use Rattle.kvp_front.proofs.FrontLemmas.{number_has_room, number_more, number_small}
use Rattle.kvp_front.proofs.cells.digits_at.Goals as goal

pub returns-then-not-is_ascii_digit-clause-small : goal.returns-then-not-is_ascii_digit-clause-small
returns-then-not-is_ascii_digit-clause-small c =
    number_small c.args.bytes.now c.loop-count.number c.loop-count.count c.loop-count.invariant (omega arith)

pub overflow_mul-number : goal.overflow_mul-number
overflow_mul-number c =
    omega (arith, number_has_room c.args.bytes.now c.loop-count.number c.loop-count.count c.loop-count.invariant (omega arith))

pub overflow_add-number : goal.overflow_add-number
overflow_add-number c =
    let digit : IsInRange 48 57 (get_or c.args.bytes.now c.loop-count.count 0) = grind (arith, nat_tests) in
    omega (arith, number_has_room c.args.bytes.now c.loop-count.number c.loop-count.count c.loop-count.invariant (omega arith))

pub loop-count-preserved : goal.loop-count-preserved
loop-count-preserved c =
    let digit : IsInRange 48 57 (get_or c.args.bytes.now c.loop-count.count 0) = grind (arith, nat_tests) in
    number_more c.args.bytes.now c.loop-count.number c.loop-count.count (omega arith) digit c.loop-count.invariant

pub returns-clause-small : goal.returns-clause-small
returns-clause-small c =
    number_small c.args.bytes.now c.loop-count.number c.loop-count.count c.loop-count.invariant (omega arith)
