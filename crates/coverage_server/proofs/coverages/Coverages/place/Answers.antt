-- A place among what the store below reads for a number is one among what the server reads for it.
use Rattle.coverage_server.proofs.TileLemmas.{view_place, view_none}
use Rattle.coverage_server.proofs.coverages.Coverages.place.Goals as goal

pub returns-clause-some : goal.returns-clause-some
returns-clause-some g c = rw (← c.self.view_is) (view_place c.args.number c.self.inside.cells c.args.name.now c.place_at.result c.place_at.ensures.some)

pub returns-clause-none : goal.returns-clause-none
returns-clause-none g c = rw (← c.self.view_is) (view_none c.args.number c.self.inside.cells c.args.name.now c.place_at.result c.place_at.ensures.none)
