use Rattle.std.proofs.Common.{All, length}
use Rattle.kvp_front.specs.Spelling.{cell_in, list_in}
use Rattle.kvp_front.proofs.FrontLemmas.{IsItself}
use Rattle.kvp_front.proofs.SpellingLemmas.{Left}
use Rattle.kvp_front.proofs.cells.plain_cells.Given as goal

abbrev pub invariant-cells : goal.invariant-cells
invariant-cells l =
    (All IsItself l.rest → All IsItself l.bytes) × Left cell_in (list_in cell_in l.bytes) l.cells.items l.rest

abbrev pub decreases-cells : goal.decreases-cells
decreases-cells l = length l.rest
