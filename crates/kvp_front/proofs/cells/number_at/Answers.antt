-- The bytes begin with the number that was read.
use Rattle.std.proofs.Common.{◌≡◌, ◌∙◌, cond, drop, pos, neg_ℤ, to_z, w64, arith}
use Rattle.std.proofs.lemmas.List.{take_rest}
use mir.Val.{bool_byte}
use Rattle.kvp_front.proofs.FrontLemmas.{negated, number_begins, positive}
use Rattle.kvp_front.proofs.cells.number_at.Goals as goal
use Rattle.kvp_front.proofs.cells.number_at.Goals.{then-negative, else-negative}

pub returns : goal.returns
returns c =
    let bytes = c.args.bytes.now in
    let negative = c.has_minus-negative.result in
    let (number, count) = c.digits_at-number.result in
    let digits = take_rest bytes (bool_byte negative) in
    let written = rw digits at c.digits_at-number.ensures.number in
    let small = c.digits_at-number.ensures.small in
    let begins = number_begins bytes negative number count c.has_minus-negative.ensures written (omega arith) small in
    let is : to_z w64 c.if-negative.result-bits ≡ cond negative (neg_ℤ (pos number)) (pos number) =
    elim c.if-negative.branch [
      | then-negative w ↦ rw w.if-negative.true (w.result-is ∙ negated number small)
      | else-negative w ↦ rw w.if-negative.false (w.result-is ∙ positive number small)
    ] in
    rw (digits, take_rest (drop (bool_byte negative) bytes) count, is) begins
