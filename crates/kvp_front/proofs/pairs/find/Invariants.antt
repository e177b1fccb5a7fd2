use Rattle.std.proofs.Common.{◌≡◌, ◌∷◌, drop, map, MatchOption}
use Rattle.kvp_front.specs.Values.{pair_view, text_of, values_of}
use Rattle.kvp_front.proofs.pairs.find.Given as goal

abbrev pub invariant-loop-pair : goal.invariant-loop-pair
invariant-loop-pair l =
    let left = values_of l.key (map pair_view (drop l.pair-index l.pairs)) in
    MatchOption l.first (values_of l.key (map pair_view l.pairs) ≡ left)
    (λ value. values_of l.key (map pair_view l.pairs) ≡ text_of value.now ∷ left)
