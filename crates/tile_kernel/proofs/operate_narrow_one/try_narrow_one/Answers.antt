-- A truth value fits 32 bits.
use Rattle.tile_kernel.proofs.Narrow.{truth_fits}
use Rattle.tile_kernel.proofs.operate_narrow_one.try_narrow_one.Goals as goal

pub write_narrow-requires-clause-narrow : goal.write_narrow-requires-clause-narrow
write_narrow-requires-clause-narrow g c = λ k lt p q. truth_fits _
