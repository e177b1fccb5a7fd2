-- A value is kept with the others, and a fault stands if it is the first one.
use Rattle.std.proofs.Common.{◌++◌, ◌∷◌, [], subst, sym, rules, SFits, w64}
use Rattle.std.proofs.lemmas.Int.{to_z-of_z}
use Rattle.tile_kernel.specs.Joins.{HoldsWith}
use Rattle.tile_kernel.specs.Condensing.{IsKeptOf}
use Rattle.tile_kernel.proofs.Condensing.{with_value, with_fault}
use Rattle.tile_kernel.proofs.condenser.CondensedCondenser.add.Goals as goal

pub returns-in-Value-clause-stands : goal.returns-in-Value-clause-stands
returns-in-Value-clause-stands g c told h =
    let keeps = g.S.Summary.keeps in
    let before = c.args.self.now in
    let fits : SFits w64 c.in-Value.x = search rules in
    let more : HoldsWith c.in-Value.x (keeps before.summary) (keeps c.add.new.self) = subst (λ z. HoldsWith z (keeps before.summary) (keeps c.add.new.self)) (to_z-of_z w64 c.in-Value.x fits) c.add.ensures.keeps in
    subst (λ o. IsKeptOf keeps c.add.new.self before.first.fault before.first.place (told ++ (c.args.place, o) ∷ [])) (sym c.in-Value.is)
    (with_value keeps before.summary c.add.new.self before.first.fault before.first.place c.args.place c.in-Value.x more told h)

pub returns-in-Fault-clause-stands : goal.returns-in-Fault-clause-stands
returns-in-Fault-clause-stands g c told h =
    let keeps = g.S.Summary.keeps in
    let before = c.args.self.now in
    let first = c.least-self.result in
    subst (λ o. IsKeptOf keeps before.summary first.fault first.place (told ++ (c.args.place, o) ∷ [])) (sym c.in-Fault.is)
    (with_fault keeps before.summary before.first.fault first.fault before.first.place first.place c.args.place c.in-Fault.f c.least-self.ensures told h)
