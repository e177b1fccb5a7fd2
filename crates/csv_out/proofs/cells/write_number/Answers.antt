-- The digits, and a minus sign before them.
use Rattle.std.proofs.Common.{◌≡◌, ℕ, List, ◌+◌, ◌-◌, ◌++◌, drop, ap, arith, rules, to_z-of_z}
use Rattle.std.proofs.lemmas.Fmt.{length-decimal-le}
use Rattle.std.proofs.lemmas.List.{drop-set}
use Rattle.itoa.proofs.Decimal.{minus_first, IsAscii-signed_decimal}
use Rattle.csv_out.proofs.cells.write_number.Goals as goal

pub write_digits-begin-requires : goal.write_digits-begin-requires
write_digits-begin-requires c = (omega (arith, length-decimal-le 19 c.unsigned_abs.result (omega arith) (omega arith) (omega arith)), search rules)

pub returns-then-number-ge0-clause-short : goal.returns-then-number-ge0-clause-short
returns-then-number-ge0-clause-short c = omega (arith, length-decimal-le 19 c.unsigned_abs.result (omega arith) (omega arith) (omega arith))

pub returns-then-number-ge0-clause-ascii : goal.returns-then-number-ge0-clause-ascii
returns-then-number-ge0-clause-ascii c = IsAscii-signed_decimal c.args.number c.ranges.number

pub overflow_sub-room : goal.overflow_sub-room
overflow_sub-room c = omega (arith, length-decimal-le 19 c.unsigned_abs.result (omega arith) (omega arith) (omega arith))

pub overflow_sub-result : goal.overflow_sub-result
overflow_sub-result c = omega (arith, length-decimal-le 19 c.unsigned_abs.result (omega arith) (omega arith) (omega arith))

pub returns-clause-text : goal.returns-clause-text
returns-clause-text c =
    let w = c.write_digits-begin in
    let long = length-decimal-le 19 c.unsigned_abs.result (omega arith) (omega arith) (omega arith) in
    let e : w.result - 1 + 1 ≡ w.result = omega arith in
    let back = to_z-of_z c.ranges.number in
    rw (drop-set w.new.buf (w.result - 1) 45 (omega arith), e, w.ensures.written, c.unsigned_abs.ensures.value, back)
    (ap (λ (xs : List ℕ). xs ++ drop c.args.end c.args.room.now) (minus_first c.args.number (rw back at c.if-number-ge0.false)))

pub returns-clause-short : goal.returns-clause-short
returns-clause-short c = omega (arith, length-decimal-le 19 c.unsigned_abs.result (omega arith) (omega arith) (omega arith))

pub returns-clause-ascii : goal.returns-clause-ascii
returns-clause-ascii c = IsAscii-signed_decimal c.args.number c.ranges.number
