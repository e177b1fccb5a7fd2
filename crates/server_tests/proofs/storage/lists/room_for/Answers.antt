-- There is a value for each point of the tile.
use Rattle.std.proofs.Common.{◌≡◌, List, length, arith, ap}
use Rattle.arr_core.specs.declared.domain.Axis.{Axis}
use Rattle.arr_core.specs.declared.runs.RunList.{RunList}
use Rattle.arr_core.specs.Domains.{points}
use Rattle.arr_core.specs.Tiles.{tile_box}
use Rattle.server_tests.proofs.Ranked.{at_place}
use Rattle.server_tests.proofs.storage.lists.room_for.Goals as goal

pub returns-clause-room : goal.returns-clause-room
returns-clause-room c =
    let fact : length c.of.result.values.items ≡ length (points (tile_box c.in-Some-signature_at.signature.now.domain c.in-Some.at.tile)) = omega (arith, ap (λ (r : RunList). length r.values.items) c.of.ensures, c.in_ok-values.ensures.len, c.in_ok-points.ensures.points) in
    at_place _ _ c.in-Some.at.coverage c.in-Some-signature_at.signature.now (λ (d : List Axis). length c.of.result.values.items ≡ length (points (tile_box d c.in-Some.at.tile))) c.in-Some.ensures.place c.in-Some-signature_at.ensures fact
