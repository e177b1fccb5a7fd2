-- A text that is typed becomes a job.
use Rattle.wcps_types.specs.TypedQueries.{query_view as tree_of}
use Rattle.coverage_server.specs.Answered.{LaysTree}
use Rattle.coverage_server.specs.Layouts.{LaysQuery}
use Rattle.coverage_server.proofs.FaultLemmas.{on_ok}
use Rattle.coverage_server.proofs.jobs.submit_query.Goals as goal

pub returns-clause-answered : goal.returns-clause-answered
returns-clause-answered g c = c.submit_typed.ensures.answered c.args.text.now c.in_ok-typed.ensures

pub returns-clause-lays : goal.returns-clause-lays
returns-clause-lays g c =
    let v = c.args.cells.now.coverages in
    let w = c.submit_typed.new.cells.coverages in
    on_ok c.submit_typed.result (LaysTree (tree_of c.in_ok-typed.typed) v c.args.desk.now.next w)
    (LaysQuery c.args.text.now v c.args.desk.now.next w)
    (λ lays. lays c.args.text.now c.in_ok-typed.ensures) c.submit_typed.ensures.lays
