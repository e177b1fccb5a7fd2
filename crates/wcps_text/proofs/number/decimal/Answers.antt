-- Digits that are given up write a number above 9223372036854775807, whatever digits are left.
use Rattle.std.proofs.Common.{arith}
use Rattle.wcps_text.proofs.Bytes.{too_large}
use Rattle.wcps_text.proofs.number.decimal.Goals as goal

pub returns-then-value : goal.returns-then-value
returns-then-value c = rw c.loop-byte.invariant.whole (too_large _ _ 0 _ c.loop-byte-test.true (omega arith))

pub returns-then-next-gt-MAX_NUMBER : goal.returns-then-next-gt-MAX_NUMBER
returns-then-next-gt-MAX_NUMBER c = rw c.loop-byte.invariant.whole (too_large _ _ 0 _ c.loop-byte-test.true (omega (arith, c.from-digit.ensures)))
