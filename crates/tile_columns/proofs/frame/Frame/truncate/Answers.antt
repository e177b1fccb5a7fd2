-- The first variables have the first numbers.
use Rattle.std.proofs.Common.{◌∙◌, ap, take, map}
use Rattle.tile_columns.specs.Frames.{environments}
use Rattle.tile_columns.proofs.Turns.{first_variables}
use Rattle.tile_columns.proofs.frame.Frame.truncate.Goals as goal

pub returns : goal.returns
returns c =
    ap (environments c.self.inside.places) c.truncate.ensures.items
    ∙ first_variables c.self.inside.places c.args.depth c.self.inside.variables.items
    ∙ ap (map (take c.args.depth)) c.self.view_is
