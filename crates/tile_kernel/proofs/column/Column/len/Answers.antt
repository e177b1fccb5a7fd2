-- The number of places that is kept is how many outcomes the column has.
use Rattle.std.proofs.Common.{◌∙◌, sym, ap, length}
use Rattle.tile_kernel.proofs.Repeats.{length-column}
use Rattle.tile_kernel.proofs.column.Column.len.Goals as goal

pub returns-clause-places : goal.returns-clause-places
returns-clause-places c = sym (length-column c.self.inside.runs c.self.inside.form c.self.inside.len c.self.inside.values c.self.inside.faults c.self.inside.narrow.items c.self.inside.counts.items c.self.invariant) ∙ ap length c.self.view_is
