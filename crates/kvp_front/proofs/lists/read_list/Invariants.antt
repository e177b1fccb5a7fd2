use Rattle.std.proofs.Common.{◌≡◌, ◌++◌, length, Ok}
use denote.Shadow.{shadow}
use denote.Text.{Utf8}
use Rattle.kvp_front.specs.Values.{and_then}
use Rattle.kvp_front.specs.Spelling.{list_in}
use Rattle.kvp_front.proofs.lists.read_list.Given as goal

abbrev pub invariant-pieces : goal.invariant-pieces
invariant-pieces g l =
    shadow (Utf8 l.rest)
    × (list_in g.T.Item.item_in l.text ≡ and_then (λ more. Ok (l.list.items ++ more)) (list_in g.T.Item.item_in l.rest))

abbrev pub decreases-pieces : goal.decreases-pieces
decreases-pieces g l = length l.rest
