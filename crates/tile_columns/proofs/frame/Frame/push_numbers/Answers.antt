-- Further variables have one number each.
use Rattle.std.proofs.Common.{◌∙◌, ap}
use Rattle.tile_columns.specs.Frames.{under}
use Rattle.tile_columns.proofs.Turns.{with_numbers}
use Rattle.tile_columns.proofs.frame.Frame.push_numbers.Goals as goal

pub returns : goal.returns
returns c =
    with_numbers c.self.inside.places c.self.inside.variables.items c.push_numbers.new.variables.items c.args.numbers.now c.in_ok-push_numbers.ensures.numbers
    ∙ ap (λ v. under v c.args.numbers.now) c.self.view_is

pub invariant_of-self : goal.invariant_of-self
invariant_of-self c = record { few = c.self.invariant.few; whole = c.push_numbers.ensures.whole c.self.inside.places c.self.invariant.whole }

pub invariant_of-self-2 : goal.invariant_of-self-2
invariant_of-self-2 c = record { few = c.self.invariant.few; whole = c.push_numbers.ensures.whole c.self.inside.places c.self.invariant.whole }
