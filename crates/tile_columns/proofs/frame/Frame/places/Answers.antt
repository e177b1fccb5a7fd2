-- There is an environment for each place.
use Rattle.std.proofs.Common.{◌∙◌, ap, sym, length}
use Rattle.std.proofs.lemmas.List.FromFn.{length-map-range_with_len}
use Rattle.tile_columns.specs.Frames.{environment}
use Rattle.tile_columns.proofs.frame.Frame.places.Goals as goal

pub returns-clause-value : goal.returns-clause-value
returns-clause-value c = sym (length-map-range_with_len (environment c.self.inside.variables.items) 0 c.self.inside.places) ∙ ap length c.self.view_is
