-- The table has one more than the place of each number.
use Rattle.std.proofs.Common.{◌≡◌, ◌∙◌, ◌-◌, ◌<◌, ◌+ℤ◌, ℤ, pos, List, length, get_or, sym, ap, subst, arith, rules, None, Some, SFits, w64, to_z-of_z}
use Rattle.std.proofs.lemmas.Grind.{common_steps}
use Rattle.tile_kernel.specs.Keyed.{IsPlaceOf}
use Rattle.tile_kernel.proofs.Places.{other_default}
use Rattle.tile_kernel.proofs.Keys.{none_above, none_there, some_there}
use Rattle.tile_kernel.proofs.slots.SlotsNumbers.place_of.Goals as goal

pub returns-in-None-clause-place : goal.returns-in-None-clause-place
returns-in-None-clause-place c =
    let s = c.self.inside in
    let some : 0 < length s.table.items = search rules in
    let fz : SFits w64 c.args.z = search rules in
    let fl : SFits w64 s.low = search rules in
    subst (λ (ns : List ℤ). IsPlaceOf c.args.z ns None) c.self.view_is
    (none_above s.low c.args.z s.table.items s.numbers.items (c.self.invariant.tabled some)
    (λ i l e. c.in-None.ensures.none i (omega (arith, c.len.ensures)) (to_z-of_z fz ∙ e ∙ ap (λ (x : ℤ). x +ℤ pos i) (sym (to_z-of_z fl)))))

pub returns-then-place-eq0-clause-place : goal.returns-then-place-eq0-clause-place
returns-then-place-eq0-clause-place c =
    let s = c.self.inside in
    let some : 0 < length s.table.items = search rules in
    let fz : SFits w64 c.args.z = search rules in
    let fl : SFits w64 s.low = search rules in
    let at : c.args.z ≡ s.low +ℤ pos c.in-Some.i = sym (to_z-of_z fz) ∙ c.in-Some.ensures.within.1 ∙ ap (λ (x : ℤ). x +ℤ pos c.in-Some.i) (to_z-of_z fl) in
    let lt : c.in-Some.i < length s.table.items = omega (arith, c.in-Some.ensures.within.0, c.len.ensures) in
    let zero : get_or s.table.items c.in-Some.i 0 ≡ 0 = other_default s.table.items c.in-Some.i 0 c.index-place.result.now lt ∙ sym c.index-place.ensures ∙ c.if-place-eq0.true in
    subst (λ (ns : List ℤ). IsPlaceOf c.args.z ns None) c.self.view_is
    (none_there s.low c.args.z s.table.items s.numbers.items c.in-Some.i (c.self.invariant.tabled some) at zero)

pub returns-else-place-eq0-clause-place : goal.returns-else-place-eq0-clause-place
returns-else-place-eq0-clause-place c =
    let s = c.self.inside in
    let some : 0 < length s.table.items = search rules in
    let fz : SFits w64 c.args.z = search rules in
    let fl : SFits w64 s.low = search rules in
    let at : c.args.z ≡ s.low +ℤ pos c.in-Some.i = sym (to_z-of_z fz) ∙ c.in-Some.ensures.within.1 ∙ ap (λ (x : ℤ). x +ℤ pos c.in-Some.i) (to_z-of_z fl) in
    let lt : c.in-Some.i < length s.table.items = omega (arith, c.in-Some.ensures.within.0, c.len.ensures) in
    let is : get_or s.table.items c.in-Some.i 0 ≡ c.index-place.result.now = other_default s.table.items c.in-Some.i 0 c.index-place.result.now lt ∙ sym c.index-place.ensures in
    subst (λ (ns : List ℤ). IsPlaceOf c.args.z ns (Some (c.index-place.result.now - 1))) c.self.view_is
    (some_there s.low c.args.z s.table.items s.numbers.items c.in-Some.i c.index-place.result.now (c.self.invariant.tabled some) lt at is c.if-place-eq0.false)

pub returns-else-place-eq0-clause-within : goal.returns-else-place-eq0-clause-within
returns-else-place-eq0-clause-within c = grind (arith, common_steps)
