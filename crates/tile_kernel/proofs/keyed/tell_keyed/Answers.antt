-- Of a value each is told by it, and of a fault all are told.
use Rattle.std.proofs.Common.{ℤ, ◌++◌, get_or, sym, subst, rules, SFits, w64}
use Rattle.std.proofs.lemmas.Int.{to_z-of_z}
use Rattle.wcps_mean.specs.declared.cell.Outcome.{Outcome}
use Rattle.wcps_mean.specs.declared.cell.Outcome.TheVariants.{Value}
use Rattle.tile_kernel.specs.Condensing.{EachIsTold}
use Rattle.tile_kernel.specs.Keyed.{told_by_key}
use Rattle.tile_kernel.proofs.keyed.tell_keyed.Goals as goal

pub returns-in-Fault-clause-stands : goal.returns-in-Fault-clause-stands
returns-in-Fault-clause-stands g c told s k d l =
    let numbers = g.N.Numbers.numbers c.args.numbers.now in
    subst (λ (y : Outcome). g.C.Condenser.stands (get_or c.tell_all.new.folds k d) (told k ++ told_by_key numbers c.args.place y c.args.o k)) (sym c.in-Fault.is) (c.tell_all.ensures.stands told s k d l)

pub returns-in-Value-clause-stands : goal.returns-in-Value-clause-stands
returns-in-Value-clause-stands g c =
    let numbers = g.N.Numbers.numbers c.args.numbers.now in
    let fits : SFits w64 c.in-Value.z = search rules in
    subst (λ (y : Outcome). EachIsTold g.C.Condenser.stands c.args.folds.now c.tell_number.new.folds (told_by_key numbers c.args.place y c.args.o)) (sym c.in-Value.is)
    (subst (λ (z : ℤ). EachIsTold g.C.Condenser.stands c.args.folds.now c.tell_number.new.folds (told_by_key numbers c.args.place (Value z) c.args.o)) (to_z-of_z w64 c.in-Value.z fits) c.tell_number.ensures.stands)
