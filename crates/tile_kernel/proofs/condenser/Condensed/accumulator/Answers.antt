-- It stands for the same points.
use Rattle.std.proofs.Common.{refl, sym, ◌∙◌}
use Rattle.tile_kernel.proofs.Condensing.{stands_as}
use Rattle.tile_kernel.proofs.condenser.Condensed.accumulator.Goals as goal

pub returns-clause-stands : goal.returns-clause-stands
returns-clause-stands g c = λ told n h.
    stands_as g.S.Summary.keeps g.S.Summary.op c.args.self.summary (record { running = c.running.result; place = c.args.self.first.place }) c.args.self.first.fault c.args.self.first.place told
    c.running.ensures.kept c.running.ensures.op (c.running.ensures.count ∙ sym n) c.running.ensures.fault refl h
