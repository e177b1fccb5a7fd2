-- Each variable has a number at each place.
use Rattle.std.proofs.Common.{◌∙◌, ap, subst, sym, length, arith, get_or, pos, [], SFits, w32, rules}
use Rattle.std.specs.List.{All}
use Rattle.std.proofs.lemmas.Int.{to_z-of_z}
use Rattle.std.proofs.lemmas.List.FromFn.{length-map-range_with_len}
use Rattle.tile_columns.specs.Frames.{environment, TellsAt}
use Rattle.tile_columns.proofs.Turns.{number_there, tells}
use Rattle.tile_columns.proofs.frame.Frame.number.Goals as goal

pub number_at-requires : goal.number_at-requires
number_at-requires c =
    let l = length-map-range_with_len (environment c.self.inside.variables.items) 0 c.self.inside.places in
    let e = ap length c.self.view_is in
    subst (All (TellsAt c.args.place)) (sym c.deref.ensures.value)
    (tells c.self.inside.places c.args.place c.self.inside.variables.items (omega (arith, l, e, c.requires)) c.self.invariant.whole)

pub returns : goal.returns
returns c =
    let fits : SFits w32 c.number_at.result = search rules in
    let l = length-map-range_with_len (environment c.self.inside.variables.items) 0 c.self.inside.places in
    let e = ap length c.self.view_is in
    to_z-of_z w32 c.number_at.result fits
    ∙ number_there c.self.inside.places c.args.place c.args.k c.self.inside.variables.items c.number_at.result (omega (arith, l, e, c.requires))
    (c.number_at.ensures ∙ ap (λ v. get_or (environment v c.args.place) c.args.k (pos 0)) c.deref.ensures.value)
    ∙ ap (λ v. get_or (get_or v c.args.place []) c.args.k (pos 0)) c.self.view_is
