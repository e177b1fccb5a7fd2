use Rattle.std.proofs.Common.{◌≤◌, take}
use Rattle.tile_kernel.specs.Told.{told_at}
use Rattle.tile_kernel.proofs.condenser.condense_view.Given as goal

abbrev pub invariant-loop-k : goal.invariant-loop-k
invariant-loop-k g l = g.C.Condenser.stands l.all (take l.k (told_at l.places l.column)) × (g.C.Condenser.counted l.all ≤ l.k)
