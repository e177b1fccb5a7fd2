-- Where values and faults are kept, there are both at each place, and they are its outcome.
use Rattle.std.proofs.Common.{◌≡◌, ◌∙◌, ap, sym, arith, SFits, w64, rules, length, get_or, pos, Some, None}
use Rattle.std.specs.Int.{w32}
use Rattle.std.proofs.lemmas.Int.{to_z-of_z}
use Rattle.std.proofs.lemmas.Option.{slice_get-get_or}
use Rattle.std.proofs.lemmas.Grind.{common_steps}
use Rattle.wcps_mean.specs.declared.cell.Outcome.TheVariants.{Value}
use Rattle.tile_kernel.specs.Columns.{outcome_of}
use Rattle.tile_kernel.proofs.Results.{widened}
use Rattle.tile_kernel.proofs.Places.{places_are, narrow_places, narrow_there, mixed_there}
use Rattle.tile_kernel.proofs.view.View.at.Goals as goal

pub bounds-self-inside-place-in-Narrow : goal.bounds-self-inside-place-in-Narrow
bounds-self-inside-place-in-Narrow c =
    let n : c.self.inside.len ≡ length c.args.self.now = places_are _ _ _ _ _ _ c.self.view_is c.self.invariant in
    let room = narrow_places _ _ _ _ _ c.in-Narrow.is c.self.invariant in
    omega (arith, n, room, c.requires)

pub offset_bounds-self-inside-place-in-Narrow : goal.offset_bounds-self-inside-place-in-Narrow
offset_bounds-self-inside-place-in-Narrow c =
    let n : c.self.inside.len ≡ length c.args.self.now = places_are _ _ _ _ _ _ c.self.view_is c.self.invariant in
    let room = narrow_places _ _ _ _ _ c.in-Narrow.is c.self.invariant in
    omega (arith, n, room, c.requires)

pub returns-in-Narrow : goal.returns-in-Narrow
returns-in-Narrow c =
    let z = get_or c.self.inside.narrow.now c.args.place (pos 0) in
    let fits : SFits w32 z = search rules in
    slice_get-get_or c.args.self.now c.args.place (Value (pos 0)) c.requires
    ∙ ap Some (narrow_there _ _ _ _ _ _ c.args.place c.in-Narrow.is c.self.view_is c.self.invariant c.requires ∙ ap Value (sym (widened z fits)))

pub bounds-self-inside-place-in-Mixed : goal.bounds-self-inside-place-in-Mixed
bounds-self-inside-place-in-Mixed c =
    let n : c.self.inside.len ≡ length c.args.self.now = places_are _ _ _ _ _ _ c.self.view_is c.self.invariant in
    omega arith

pub bounds-self-inside-place-in-Mixed-2 : goal.bounds-self-inside-place-in-Mixed-2
bounds-self-inside-place-in-Mixed-2 c =
    let n : c.self.inside.len ≡ length c.args.self.now = places_are _ _ _ _ _ _ c.self.view_is c.self.invariant in
    omega arith

pub offset_bounds-self-inside-place-in-Mixed : goal.offset_bounds-self-inside-place-in-Mixed
offset_bounds-self-inside-place-in-Mixed c =
    let n : c.self.inside.len ≡ length c.args.self.now = places_are _ _ _ _ _ _ c.self.view_is c.self.invariant in
    omega arith

pub offset_bounds-self-inside-place-in-Mixed-2 : goal.offset_bounds-self-inside-place-in-Mixed-2
offset_bounds-self-inside-place-in-Mixed-2 c =
    let n : c.self.inside.len ≡ length c.args.self.now = places_are _ _ _ _ _ _ c.self.view_is c.self.invariant in
    omega arith

pub returns-in-Mixed : goal.returns-in-Mixed
returns-in-Mixed c =
    let z = get_or c.self.inside.values.now c.args.place (pos 0) in
    let fits : SFits w64 z = search rules in
    mixed_there _ _ _ _ _ _ _ None _ c.in-Mixed.is c.self.view_is c.self.invariant c.requires
    (c.outcome.ensures ∙ ap (λ z. outcome_of z (get_or c.self.inside.faults.now c.args.place None)) (to_z-of_z w64 z fits))

pub offset_bounds-self-inside-place : goal.offset_bounds-self-inside-place
offset_bounds-self-inside-place c = grind (arith, common_steps)

pub bounds-self-inside-place : goal.bounds-self-inside-place
bounds-self-inside-place c = grind (arith, common_steps)
