-- Each environment has a number for each variable.
use Rattle.std.proofs.Common.{◌≡◌, subst, length, List, ℤ, arith}
use Rattle.std.specs.List.{All}
use Rattle.tile_columns.proofs.Turns.{how_deep}
use Rattle.tile_columns.proofs.frame.Frame.depth.Goals as goal

pub returns : goal.returns
returns c = subst (λ v. All (λ (e : List ℤ). length e ≡ c.len.result) v) c.self.view_is (how_deep c.self.inside.places c.len.result c.self.inside.variables.items (omega (arith, c.len.ensures, c.self.inside.variables.ok.0)))
