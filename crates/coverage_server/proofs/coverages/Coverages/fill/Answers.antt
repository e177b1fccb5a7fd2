-- A box filled on an honest disk has the cell everywhere; a refusal has its reason, and the header stays.
use Rattle.std.proofs.Common.{rules}
use Rattle.block_file.proofs.Headers.{keeps_header}
use Rattle.kvp_front.specs.Contents as contents
use Rattle.coverage_server.proofs.FreeLemmas.{stays_ready, written_ready}
use Rattle.coverage_server.proofs.GrowthLemmas.{grows_shown}
use Rattle.coverage_server.proofs.SpelledLemmas.{stays_spelled, writes_spelled}
use Rattle.coverage_server.proofs.WriteLemmas.{fill_done, fill_refused}
use Rattle.coverage_server.proofs.coverages.Coverages.fill.Goals as goal
use Rattle.coverage_server.proofs.coverages.Coverages.fill.Goals.{in-Ok, in-Err}

pub returns-clause-done : goal.returns-clause-done
returns-clause-done g c = elim c.match-fill_box.branch [
  | in-Ok w ↦ rw (w.result-is, ← c.self.view_is)
      (fill_done _ _ _ _ _ _ _ w.in-Ok.ensures.done w.in-Ok.ensures.snapshots)
  | in-Err w ↦ rw w.result-is tt
]

pub returns-clause-refused : goal.returns-clause-refused
returns-clause-refused g c = elim c.match-fill_box.branch [
  | in-Ok w ↦ rw w.result-is tt
  | in-Err w ↦
      rw (w.result-is, w.write_refusal.ensures, ← c.self.view_is)
      (fill_refused c.args.name.now c.args.field c.args.area.now _ c.self.inside.catalogue c.self.inside.cells
      c.self.invariant c.len-listed.ensures.held c.bytes_len-bytes.ensures c.args.cell w.in-Err.fault
      w.in-Err.ensures.why)
]

pub returns-clause-spelled : goal.returns-clause-spelled
returns-clause-spelled g c = elim c.match-fill_box.branch [
  | in-Ok w ↦
      rw (← c.self.view_is)
      (writes_spelled c.self.inside.catalogue _ _ _ _ _ c.self.inside.cells c.fill_box.new.self c.self.invariant
      w.in-Ok.ensures.done.1 w.in-Ok.ensures.snapshots)
  | in-Err w ↦
      rw (← c.self.view_is)
      (stays_spelled c.self.inside.catalogue c.self.inside.cells c.fill_box.new.self c.self.invariant
      w.in-Err.ensures.same
      w.in-Err.ensures.snapshots)
]

pub returns-clause-continues : goal.returns-clause-continues
returns-clause-continues g c = record {
  sound = search rules;
  header = elim c.match-fill_box.branch [
    | in-Ok w ↦ rw (← c.self.view_is) (keeps_header _ _ w.in-Ok.ensures.done.1.moves.header)
    | in-Err w ↦ rw (← c.self.view_is) (keeps_header _ _ w.in-Err.ensures.same.moves.header)
  ];
  honest = search rules;
  no_fewer = search rules;
  overreads = search rules;
}

pub invariant_of-self : goal.invariant_of-self
invariant_of-self g c = elim c.match-fill_box.branch [
  | in-Ok w ↦ written_ready c.self.inside.catalogue _ _ _ _ _ c.self.inside.cells c.fill_box.new.self c.self.invariant c.bytes_len-bytes.ensures w.in-Ok.ensures.done.1 w.in-Ok.ensures.snapshots
  | in-Err w ↦ stays_ready c.self.inside.catalogue c.self.inside.cells c.fill_box.new.self c.self.invariant w.in-Err.ensures.same w.in-Err.ensures.snapshots
]

pub returns-clause-grows : goal.returns-clause-grows
returns-clause-grows g c = elim c.match-fill_box.branch [
  | in-Ok w ↦ rw (← c.self.view_is) (grows_shown _ _ _ (contents.fill c.args.cell) c.self.inside.catalogue c.self.inside.cells c.fill_box.new.self c.self.invariant c.len-catalogue.ensures.catalogue c.len-listed.ensures.held w.in-Ok.ensures.grows)
  | in-Err w ↦ rw (← c.self.view_is) (grows_shown _ _ _ (contents.fill c.args.cell) c.self.inside.catalogue c.self.inside.cells c.fill_box.new.self c.self.invariant c.len-catalogue.ensures.catalogue c.len-listed.ensures.held w.in-Err.ensures.grows)
]
