-- As many places as the tile has points, and at each the point.
use Rattle.std.proofs.Common.{◌≡◌, length, subst, rules}
use Rattle.arr_core.specs.Tiles.{edge_of}
use Rattle.tile_columns.specs.Covering.{TurnsOver, GoesOver}
use Rattle.tile_columns.proofs.Coverings.{covers}
use Rattle.tile_columns.proofs.frame.Frame.tile_under.Goals as goal

pub returns-else-tile-self : goal.returns-else-tile-self
returns-else-tile-self c =
    let domain = c.args.domain.now in
    let places = c.self.inside.places in
    let vs = c.self.inside.variables.items in
    let over : TurnsOver (edge_of (length domain)) vs c.args.indexes.now domain c.in-Some.tile = search rules in
    let same : c.in-Some.tile.points ≡ places = search rules in
    subst (λ envs. GoesOver domain c.args.indexes.now envs c.in-Some.tile.number) c.self.view_is (covers domain vs c.args.indexes.now places c.in-Some.tile over same)
