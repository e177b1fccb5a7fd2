-- Cells of a tile of what the store below reads for a number are those of what the server reads for it.
use Rattle.coverage_server.proofs.FaultLemmas.{on_ok}
use Rattle.coverage_server.proofs.FreeLemmas.{fetches_ready}
use Rattle.coverage_server.proofs.TileLemmas.{view_tile, view_ranks, view_picked, view_picked_count, view_damaged}
use Rattle.coverage_server.proofs.coverages.Coverages.pick.Goals as goal

pub pick_at-requires : goal.pick_at-requires
pick_at-requires g c = record {
  tile = view_tile c.args.number c.self.inside.cells c.args.at (rw (← c.self.view_is) at c.requires.tile);
  ranks = view_ranks c.args.number c.self.inside.cells c.args.at c.args.ranks.now (rw (← c.self.view_is) at c.requires.ranks);
}

pub invariant_of-self : goal.invariant_of-self
invariant_of-self g c = fetches_ready c.self.inside.catalogue c.self.inside.cells c.pick_at.new.self c.self.invariant c.pick_at.ensures.frame

pub returns-clause-value : goal.returns-clause-value
returns-clause-value g c =
    rw (← c.self.view_is) (on_ok c.pick_at.result _ _ (λ read honest. view_picked c.args.number c.self.inside.cells c.args.at c.args.ranks.now c.pick_at.new.cells.items read honest) c.pick_at.ensures.read)

pub returns-clause-counted : goal.returns-clause-counted
returns-clause-counted g c = on_ok c.pick_at.result _ _ (view_picked_count c.args.number c.self.inside.cells c.args.at c.args.ranks.now c.pick_at.new.cells.items) c.pick_at.ensures.read

pub returns-clause-why : goal.returns-clause-why
returns-clause-why g c =
    rw (← c.self.view_is) (record {
      for_damage = λ err honest spelled. view_damaged c.args.number c.self.inside.cells c.args.at (c.pick_at.ensures.why.for_damage err) honest spelled;
      for_room = c.pick_at.ensures.why.for_room;
    })
