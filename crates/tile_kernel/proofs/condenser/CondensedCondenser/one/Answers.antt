-- A value is kept, and a fault is the first one.
use Rattle.std.proofs.Common.{◌∷◌, [], subst, sym, Some, None, rules, SFits, w64}
use Rattle.std.proofs.lemmas.Int.{to_z-of_z}
use Rattle.tile_kernel.specs.Condensing.{IsKeptOf}
use Rattle.tile_kernel.proofs.Condensing.{kept_value, kept_fault}
use Rattle.tile_kernel.proofs.condenser.CondensedCondenser.one.Goals as goal

pub returns-in-Value-clause-stands : goal.returns-in-Value-clause-stands
returns-in-Value-clause-stands g c =
    let fits : SFits w64 c.in-Value.x = search rules in
    let kept : g.S.Summary.keeps c.of.result (c.in-Value.x ∷ []) = subst (λ z. g.S.Summary.keeps c.of.result (z ∷ [])) (to_z-of_z w64 c.in-Value.x fits) c.of.ensures.keeps in
    subst (λ o. IsKeptOf g.S.Summary.keeps c.of.result None c.args.place ((c.args.place, o) ∷ [])) (sym c.in-Value.is)
    (kept_value g.S.Summary.keeps c.of.result c.args.place c.in-Value.x kept)

pub returns-in-Fault-clause-stands : goal.returns-in-Fault-clause-stands
returns-in-Fault-clause-stands g c = subst (λ o. IsKeptOf g.S.Summary.keeps c.none.result (Some c.in-Fault.f) c.args.place ((c.args.place, o) ∷ [])) (sym c.in-Fault.is)
    (kept_fault g.S.Summary.keeps c.none.result c.args.place c.in-Fault.f c.none.ensures.keeps)
