-- A truth value fits 32 bits.
use Rattle.tile_kernel.proofs.Narrow.{truth_fits}
use Rattle.tile_kernel.proofs.operate_narrow.try_narrow_truths.Goals as goal

pub write_narrow-requires-clause-narrow : goal.write_narrow-requires-clause-narrow
write_narrow-requires-clause-narrow g c = λ k lt p q. truth_fits _

pub write_narrow-requires-in-LessEqual-clause-narrow : goal.write_narrow-requires-in-LessEqual-clause-narrow
write_narrow-requires-in-LessEqual-clause-narrow g c = λ k lt p q. truth_fits _

pub write_narrow-requires-in-Greater-clause-narrow : goal.write_narrow-requires-in-Greater-clause-narrow
write_narrow-requires-in-Greater-clause-narrow g c = λ k lt p q. truth_fits _

pub write_narrow-requires-in-GreaterEqual-clause-narrow : goal.write_narrow-requires-in-GreaterEqual-clause-narrow
write_narrow-requires-in-GreaterEqual-clause-narrow g c = λ k lt p q. truth_fits _

pub write_narrow-requires-in-Equal-clause-narrow : goal.write_narrow-requires-in-Equal-clause-narrow
write_narrow-requires-in-Equal-clause-narrow g c = λ k lt p q. truth_fits _

pub write_narrow-requires-in-NotEqual-clause-narrow : goal.write_narrow-requires-in-NotEqual-clause-narrow
write_narrow-requires-in-NotEqual-clause-narrow g c = λ k lt p q. truth_fits _

pub write_narrow-requires-in-And-clause-narrow : goal.write_narrow-requires-in-And-clause-narrow
write_narrow-requires-in-And-clause-narrow g c = λ k lt p q. truth_fits _

pub write_narrow-requires-in-Or-clause-narrow : goal.write_narrow-requires-in-Or-clause-narrow
write_narrow-requires-in-Or-clause-narrow g c = λ k lt p q. truth_fits _

pub write_narrow-requires-in-Xor-clause-narrow : goal.write_narrow-requires-in-Xor-clause-narrow
write_narrow-requires-in-Xor-clause-narrow g c = λ k lt p q. truth_fits _
