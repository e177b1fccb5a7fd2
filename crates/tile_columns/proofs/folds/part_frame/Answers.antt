-- The variables of the place stand before the coordinates of each point of the box.
use Rattle.std.proofs.Common.{◌≡◌, ◌∙◌, ◌++◌, List, ℤ, subst, map}
use Rattle.std.specs.Prelude.{IfOk}
use Rattle.arr_core.specs.Domains.{points}
use Rattle.tile_columns.proofs.folds.part_frame.Goals as goal

pub returns : goal.returns
returns c = subst (λ (n : List ℤ). IfOk c.of_box_under.result (λ f. f ≡ map (λ p. n ++ p) (points c.args.area.now))) (c.deref.ensures.value ∙ c.in_ok-numbers.ensures) c.of_box_under.ensures
