-- One more variable has a number for each place.
use Rattle.std.proofs.Common.{◌≡◌, ◌∙◌, ap, sym, subst, length}
use Rattle.std.specs.List.{All}
use Rattle.std.proofs.lemmas.List.FromFn.{length-map-range_with_len}
use Rattle.tile_columns.specs.Frames.{environment, extended, HasPlaces}
use Rattle.tile_columns.proofs.Turns.{with_column}
use Rattle.tile_columns.proofs.frame.Frame.push_column.Goals as goal

pub invariant_of-self : goal.invariant_of-self
invariant_of-self c =
    let e : length c.args.numbers.items ≡ c.self.inside.places = c.requires ∙ ap length (sym c.self.view_is) ∙ length-map-range_with_len (environment c.self.inside.variables.items) 0 c.self.inside.places in
    record { few = c.self.invariant.few; whole = subst (λ n. All (HasPlaces n) c.push_each.new.variables.items) e (c.push_each.ensures.whole (subst (λ n. All (HasPlaces n) c.self.inside.variables.items) (sym e) c.self.invariant.whole)) }

pub invariant_of-self-2 : goal.invariant_of-self-2
invariant_of-self-2 c =
    let e : length c.args.numbers.items ≡ c.self.inside.places = c.requires ∙ ap length (sym c.self.view_is) ∙ length-map-range_with_len (environment c.self.inside.variables.items) 0 c.self.inside.places in
    record { few = c.self.invariant.few; whole = subst (λ n. All (HasPlaces n) c.push_each.new.variables.items) e (c.push_each.ensures.whole (subst (λ n. All (HasPlaces n) c.self.inside.variables.items) (sym e) c.self.invariant.whole)) }

pub returns : goal.returns
returns c =
    with_column c.self.inside.places c.self.inside.variables.items c.push_each.new.variables.items c.args.numbers.items c.in_ok-push_each.ensures.numbers
    ∙ ap (λ v. extended v c.args.numbers.items) c.self.view_is
