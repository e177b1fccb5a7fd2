-- A tile of what the store below reads for a number is one of what the server reads for it, and a damaged one is not
-- spelled.
use Rattle.arr_core.specs.Runs.{cells_of}
use Rattle.coverage_server.proofs.FaultLemmas.{on_ok}
use Rattle.coverage_server.proofs.FreeLemmas.{fetches_ready}
use Rattle.coverage_server.proofs.TileLemmas.{view_tile, view_room, view_cells, view_counted, view_damaged}
use Rattle.coverage_server.proofs.coverages.Coverages.fetch_runs.Goals as goal

pub fetch_runs_at-requires : goal.fetch_runs_at-requires
fetch_runs_at-requires g c = record {
  tile = view_tile c.args.number c.self.inside.cells c.args.at (rw (← c.self.view_is) at c.requires.tile);
  room = view_room c.args.number c.self.inside.cells c.args.at c.args.runs.now.values.items (rw (← c.self.view_is) at c.requires.room);
}

pub invariant_of-self : goal.invariant_of-self
invariant_of-self g c = fetches_ready c.self.inside.catalogue c.self.inside.cells c.fetch_runs_at.new.self c.self.invariant c.fetch_runs_at.ensures.frame

pub returns-clause-value : goal.returns-clause-value
returns-clause-value g c =
    rw (← c.self.view_is) (on_ok c.fetch_runs_at.result _ _ (λ read honest. view_cells c.args.number c.self.inside.cells c.args.at (cells_of c.fetch_runs_at.new.runs) read honest) c.fetch_runs_at.ensures.read)

pub returns-clause-counted : goal.returns-clause-counted
returns-clause-counted g c =
    rw (← c.self.view_is) (on_ok c.fetch_runs_at.result _ _ (view_counted c.args.number c.self.inside.cells c.args.at (cells_of c.fetch_runs_at.new.runs)) c.fetch_runs_at.ensures.read)

pub returns-clause-why : goal.returns-clause-why
returns-clause-why g c =
    rw (← c.self.view_is) (record {
      for_damage = λ err honest spelled. view_damaged c.args.number c.self.inside.cells c.args.at (c.fetch_runs_at.ensures.why.for_damage err) honest spelled;
      for_room = c.fetch_runs_at.ensures.why.for_room;
    })
