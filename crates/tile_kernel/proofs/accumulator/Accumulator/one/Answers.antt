-- The accumulator of one point stands for that point.
use Rattle.std.proofs.Common.{[]}
use Rattle.tile_kernel.proofs.Merges.{stands_one}
use Rattle.tile_kernel.proofs.accumulator.Accumulator.one.Goals as goal

pub returns-clause-stands : goal.returns-clause-stands
returns-clause-stands c = stands_one c.add.new.self c.args.place c.args.o (c.add.ensures.fed [] c.new-running.ensures.fed)
