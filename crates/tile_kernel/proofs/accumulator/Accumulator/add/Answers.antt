-- A running condenser that was fed the value stands for one more point, and a fault is taken in as an accumulator of it
-- alone.
use Rattle.std.proofs.Common.{refl, [], ◌∷◌, sym, subst, rules, SFits, w64, to_z, of_z}
use Rattle.std.proofs.lemmas.Int.{to_z-of_z}
use Rattle.wcps_mean.specs.declared.cell.Outcome.TheVariants.{Value}
use Rattle.tile_kernel.specs.declared.accumulator.Accumulator.{Accumulator}
use Rattle.tile_kernel.specs.Standing.{TakesIn}
use Rattle.tile_kernel.proofs.Values.{value_taken}
use Rattle.tile_kernel.proofs.accumulator.Accumulator.add.Goals as goal

pub returns-in-Value-clause-stands : goal.returns-in-Value-clause-stands
returns-in-Value-clause-stands c =
    let fits : SFits w64 c.in-Value.x = search rules in
    let after : Accumulator = record { running = c.add.new.self; place = c.args.self.now.place } in
    subst (λ o. TakesIn c.args.self.now after ((c.args.place, o) ∷ [])) (sym c.in-Value.is)
    (subst (λ z. TakesIn c.args.self.now after ((c.args.place, Value z) ∷ [])) (to_z-of_z w64 c.in-Value.x fits)
    (value_taken c.args.self.now after c.args.place (to_z w64 (of_z w64 c.in-Value.x)) refl c.add.ensures.fed))
