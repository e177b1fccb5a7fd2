-- A quotient by a divisor above 0 fits 32 bits as its dividend does.
use Rattle.std.proofs.Common.{arith, pos, ◌≤ℤ◌, subst, sym}
use Rattle.std.specs.Int.{w32}
use Rattle.std.proofs.lemmas.Int.{ints, to_z-of_z}
use Rattle.std.proofs.lemmas.Grind.{common_steps}
use Rattle.tile_kernel.proofs.Narrow.{quotient_fits}
use Rattle.tile_kernel.proofs.operate_narrow.write_quotient.Goals as goal

pub write_narrow-requires-clause-narrow : goal.write_narrow-requires-clause-narrow
write_narrow-requires-clause-narrow g c = λ k lt p q. quotient_fits _ (pos 2) p (omega (arith, ints))

pub write_narrow-requires-in-4-clause-narrow : goal.write_narrow-requires-in-4-clause-narrow
write_narrow-requires-in-4-clause-narrow g c = λ k lt p q. quotient_fits _ (pos 4) p (omega (arith, ints))

pub write_narrow-requires-in-8-clause-narrow : goal.write_narrow-requires-in-8-clause-narrow
write_narrow-requires-in-8-clause-narrow g c = λ k lt p q. quotient_fits _ (pos 8) p (omega (arith, ints))

pub write_narrow-requires-in-16-clause-narrow : goal.write_narrow-requires-in-16-clause-narrow
write_narrow-requires-in-16-clause-narrow g c = λ k lt p q. quotient_fits _ (pos 16) p (omega (arith, ints))

pub write_narrow-requires-in-10-clause-narrow : goal.write_narrow-requires-in-10-clause-narrow
write_narrow-requires-in-10-clause-narrow g c = λ k lt p q. quotient_fits _ (pos 10) p (omega (arith, ints))

pub write_narrow-requires-in-100-clause-narrow : goal.write_narrow-requires-in-100-clause-narrow
write_narrow-requires-in-100-clause-narrow g c = λ k lt p q. quotient_fits _ (pos 100) p (omega (arith, ints))

pub write_narrow-requires-in-1000-clause-narrow : goal.write_narrow-requires-in-1000-clause-narrow
write_narrow-requires-in-1000-clause-narrow g c = λ k lt p q. quotient_fits _ (pos 1000) p (omega (arith, ints))

pub write_narrow-requires-in_default-clause-narrow : goal.write_narrow-requires-in_default-clause-narrow
write_narrow-requires-in_default-clause-narrow g c = λ k lt p q.
    quotient_fits _ _ p (subst (λ d. pos 1 ≤ℤ d) (sym (to_z-of_z w32 c.args.divisor c.ranges.divisor)) c.requires.divisor)

pub returns-in-2 : goal.returns-in-2
returns-in-2 g c = grind (arith, common_steps)

pub returns-in-4 : goal.returns-in-4
returns-in-4 g c = grind (arith, common_steps)

pub returns-in-8 : goal.returns-in-8
returns-in-8 g c = grind (arith, common_steps)

pub returns-in-16 : goal.returns-in-16
returns-in-16 g c = grind (arith, common_steps)

pub returns-in-10 : goal.returns-in-10
returns-in-10 g c = grind (arith, common_steps)

pub returns-in-100 : goal.returns-in-100
returns-in-100 g c = grind (arith, common_steps)

pub returns-in-1000 : goal.returns-in-1000
returns-in-1000 g c = grind (arith, common_steps)

pub returns-in_default : goal.returns-in_default
returns-in_default g c = grind (arith, common_steps)
