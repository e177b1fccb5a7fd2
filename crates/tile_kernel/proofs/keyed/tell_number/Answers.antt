-- The condenser whose number the key is has taken in the cell.
use Rattle.std.proofs.Common.{◌<◌, ℤ, length, ap, subst, arith, rules, SFits, w64, Some, None}
use Rattle.std.proofs.lemmas.Int.{to_z-of_z}
use Rattle.tile_kernel.specs.Keyed.{IsPlaceOf}
use Rattle.tile_kernel.proofs.Places.{other_default}
use Rattle.tile_kernel.proofs.Keys.{set_told, set_counted, none_told}
use Rattle.tile_kernel.proofs.keyed.tell_number.Goals as goal

pub returns-in-Some-clause-stands : goal.returns-in-Some-clause-stands
returns-in-Some-clause-stands g c =
    let folds = c.args.folds.now in
    let numbers = g.N.Numbers.numbers c.args.numbers.now in
    let at = c.in-Some.k in
    let fits : SFits w64 c.args.key = search rules in
    let is = subst (λ (y : ℤ). IsPlaceOf y numbers (Some at)) (to_z-of_z w64 c.args.key fits) c.in-Some.ensures.place in
    let lt : at < length folds = omega (arith, c.requires.folds, c.in-Some.ensures.within) in
    let p = c.index-folds-k.result in
    set_told g.C.Condenser.stands folds numbers c.args.key c.args.place c.args.o at c.add.new.self lt c.requires.folds is
    (λ d told s. c.add.ensures.stands told (subst (λ a. g.C.Condenser.stands a told) (other_default folds at d p lt) s))

pub returns-in-Some-clause-room : goal.returns-in-Some-clause-room
returns-in-Some-clause-room g c =
    let folds = c.args.folds.now in
    let at = c.in-Some.k in
    let lt : at < length folds = omega (arith, c.requires.folds, c.in-Some.ensures.within) in
    let p = c.index-folds-k.result in
    set_counted g.C.Condenser.counted folds at c.add.new.self lt
    (λ d. let same = ap g.C.Condenser.counted (other_default folds at d p lt) in omega (arith, same, c.add.ensures.counted))

pub returns-in-None-clause-stands : goal.returns-in-None-clause-stands
returns-in-None-clause-stands g c =
    let numbers = g.N.Numbers.numbers c.args.numbers.now in
    let fits : SFits w64 c.args.key = search rules in
    let is = subst (λ (y : ℤ). IsPlaceOf y numbers None) (to_z-of_z w64 c.args.key fits) c.in-None.ensures.place in
    none_told g.C.Condenser.stands c.args.folds.now numbers c.args.key c.args.place c.args.o c.requires.folds is
