-- One number stands at each of the coordinates in common.
use Rattle.std.proofs.Common.{rules, w64, ◌∙◌}
use Rattle.std.proofs.lemmas.Int.{to_z-of_z}
use Rattle.tile_store.proofs.overlay.write_run.Goals as goal

pub returns-in-Same-clause-inside : goal.returns-in-Same-clause-inside
returns-in-Same-clause-inside c = rw c.in-Same.is (λ i a b. c.fill_run.ensures.inside i a b ∙ to_z-of_z w64 c.in-Same.number (search rules))
