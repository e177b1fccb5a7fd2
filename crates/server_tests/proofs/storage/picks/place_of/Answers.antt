-- Each rank is below the number of the tile's points.
use Rattle.std.proofs.Common.{ℕ, ◌<◌, List, All, sym, subst}
use Rattle.arr_core.specs.declared.domain.Axis.{Axis}
use Rattle.arr_core.specs.Domains.{count}
use Rattle.arr_core.specs.Tiles.{tile_box}
use Rattle.server_tests.proofs.Ranked.{at_place}
use Rattle.server_tests.proofs.storage.picks.place_of.Goals as goal

pub returns-clause-ranks : goal.returns-clause-ranks
returns-clause-ranks c =
    let fact = subst (λ (m : ℕ). All (λ (r : ℕ). r < m) c.args.ranks.now) (sym c.in_ok-points.ensures.count) (c.are_below.ensures c.if-not-are_below.false) in
    at_place _ _ c.in-Some.at.coverage c.in-Some-signature_at.signature.now (λ (d : List Axis). All (λ (r : ℕ). r < count (tile_box d c.in-Some.at.tile)) c.args.ranks.now) c.in-Some.ensures.place c.in-Some-signature_at.ensures fact
