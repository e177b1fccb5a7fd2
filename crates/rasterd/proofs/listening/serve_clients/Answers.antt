-- A session is an opening, connections, and a close or what is left without one.
use Rattle.std.proofs.Common.{[], sym, subst, ◌∙◌, arith}
use Rattle.std.specs.Prelude.{IsTrue}
use Rattle.std.proofs.lemmas.List.Elements.{All-weaker}
use Rattle.arr_core.specs.Stores.{Store}
use Rattle.raster_store.specs.Views.{AreIntact}
use Rattle.coverage_server.specs.Damage.{IsIntactIn, IsIntactNamed}
use Rattle.coverage_server.specs.Disk.{ListsStore}
use Rattle.coverage_server.specs.Layouts.{Layout}
use Rattle.coverage_server.specs.Runs.{begun_with}
use Rattle.coverage_server.proofs.SessionLemmas.{begins, sound_from, unclosed, unclosed_left}
use Rattle.rasterd.proofs.listening.serve_clients.Goals as goal

pub returns-in-Ok-close_with_retry-clause-session : goal.returns-in-Ok-close_with_retry-clause-session
returns-in-Ok-close_with_retry-clause-session g c = (
  c.serve_each.ensures.served.0,
  c.serve_each.ensures.served.1,
  λ honest store indexes lists intact whole.
      let from = c.in-Ok.ensures.opened honest in
      let found = from.lists.only store indexes lists in
      let sure = subst IsTrue (sym c.in-Ok.ensures.honest) honest in
      let after = subst IsTrue (sym c.serve_each.ensures.continues.honest) sure in
      let sound = sound_from _ c.in-Ok.server.coverages store indexes found.0 found.1 from.sound in
      let began = begins c.in-Ok.server c.in-Ok.ensures.desk c.in-Ok.ensures.unheld store indexes found.0 found.1 _
      from.spelled intact whole (g.D.Disk.failures c.args.disk) c.in-Ok.ensures.failures in
      let run = c.serve_each.ensures.served.2 sure (begun_with store indexes intact (g.D.Disk.failures c.args.disk)) began in
      let served = c.serve_each.new.server.coverages in
      let later = served.indexes in
      let content = g.D.Disk.content c.in-Ok-close_with_retry.disk in
      let close = c.in-Ok-close_with_retry.ensures.closed in (
        run.0,
        subst (λ (l : Layout). ListsStore content run.0.state.store l.indexes) (sym run.1.layout)
            (subst (λ (s : Store). ListsStore content s later) (sym run.1.state.store) (close.lists after)),
        All-weaker (IsIntactNamed served) (IsIntactIn content run.0.state.store run.0.layout.indexes)
            (λ name own. subst (λ (l : Layout). IsIntactIn content run.0.state.store l.indexes name) (sym run.1.layout)
            (subst (λ (s : Store). IsIntactIn content s later name) (sym run.1.state.store)
            (close.spelled after name own)))
            run.0.intact (run.1.intact after),
        λ spelled. subst (λ (l : Layout). AreIntact content run.0.state.store l.indexes) (sym run.1.layout)
            (subst (λ (s : Store). AreIntact content s later) (sym run.1.state.store)
            (close.intact (c.serve_each.ensures.continues.sound (sound spelled)))),
        close.failures ∙ sym run.1.failures,
        run.2,
      ),
)

pub returns-in-Err-close_with_retry-clause-session : goal.returns-in-Err-close_with_retry-clause-session
returns-in-Err-close_with_retry-clause-session g c = (
  c.serve_each.ensures.served.0,
  c.serve_each.ensures.served.1,
  unclosed_left c.in-Err-close_with_retry.field-0.fault _ _ c.serve_each.new.server _
      (λ first mid. unclosed first _ _ c.in-Ok.server c.serve_each.new.server mid
      c.in-Ok.ensures.opened c.in-Ok.ensures.desk c.in-Ok.ensures.unheld c.in-Ok.ensures.honest
      c.in-Ok.ensures.failures c.in-Ok.ensures.overreads c.serve_each.ensures.served.2 c.serve_each.ensures.continues)
      c.in-Err-close_with_retry.ensures.left,
)

pub returns-in-Err-clause-session : goal.returns-in-Err-clause-session
returns-in-Err-clause-session g c = ([], omega arith, c.in-Err.ensures.refused)

pub returns-in-Ok-close_with_retry-clause-still : goal.returns-in-Ok-close_with_retry-clause-still
returns-in-Ok-close_with_retry-clause-still g c =
    let opened = c.in-Ok.ensures in
    let keeps = c.serve_each.ensures.continues in
    let close = c.in-Ok-close_with_retry.ensures.closed in
    record {
      honest = close.honest ∙ keeps.honest ∙ opened.honest;
      no_fewer = omega (arith, close.failures, keeps.no_fewer, opened.failures);
      overreads = close.overreads ∙ keeps.overreads ∙ opened.overreads;
    }

pub returns-in-Err-close_with_retry-clause-no_store : goal.returns-in-Err-close_with_retry-clause-no_store
returns-in-Err-close_with_retry-clause-no_store g c =
    λ honest none. absurd (none _ _ (c.in-Ok.ensures.opened honest).lists.lists)

pub returns-in-Ok-close_with_retry-clause-no_store : goal.returns-in-Ok-close_with_retry-clause-no_store
returns-in-Ok-close_with_retry-clause-no_store g c =
    λ honest none. absurd (none _ _ (c.in-Ok.ensures.opened honest).lists.lists)
