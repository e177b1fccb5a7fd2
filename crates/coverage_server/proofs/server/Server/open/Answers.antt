-- Where an honest disk lists a store, that is the server's store, and where its tiles are intact they are so.
use Rattle.std.proofs.Common.{◌∙◌, Bool, sym, ap, subst}
use Rattle.coverage_server.specs.Damage.{IsIntactNamed}
use Rattle.coverage_server.specs.Disk.{IsOpenFile}
use Rattle.coverage_server.specs.Views.{ServerView, IsSound}
use Rattle.coverage_server.proofs.SpelledLemmas.{opened_spelled}
use Rattle.std.specs.Prelude.{IsTrue}
use Rattle.std.proofs.lemmas.Result.{err_from_is_err_and}
use Rattle.block_file.proofs.Places.{same_overreads}
use Rattle.coverage_server.proofs.OpeningLemmas.{not_opened}
use Rattle.coverage_server.proofs.server.Server.open.Goals as goal

pub returns-in-Ok-clause-opened : goal.returns-in-Ok-clause-opened
returns-in-Ok-clause-opened g c honest =
    let shows = c.in_ok-coverages.ensures.shows in
    let file = subst (λ (b : Bool). IsTrue b) (sym c.in_ok-opened.ensures.shows.same_honest) honest in
    let kept = subst (λ (b : Bool). IsTrue b) (sym shows.honest) file in
    let lists = rw c.in_ok-opened.ensures.shows.same_content at (c.in_ok-coverages.ensures.lists file) in
    let store = ap (λ (v : ServerView). v.store) c.new.ensures ∙ c.write_open.ensures.unchanged.store kept in
    let indexes = ap (λ (v : ServerView). v.indexes) c.new.ensures ∙ c.write_open.ensures.unchanged.indexes in
    record {
      lists = record {
        lists = rw (store, indexes) lists.lists;
        only = λ s i listed. let same = lists.only s i listed in (store ∙ same.0, indexes ∙ same.1);
      };
      sound = λ intact. subst IsSound (sym c.new.ensures) (c.write_open.ensures.sound (record {
        honest = kept;
        intact = rw (shows.content, c.in_ok-opened.ensures.shows.same_content, ← store, ← indexes) intact;
        held = rw shows.unheld tt;
      }));
      spelled = λ name whole.
          let store_now = ap (λ (v : ServerView). v.store) c.new.ensures in
          let indexes_now = ap (λ (v : ServerView). v.indexes) c.new.ensures in
          subst (λ (v : ServerView). IsIntactNamed v name) (sym c.new.ensures)
          (opened_spelled _ c.in_ok-coverages.coverages c.write_open.new.self
          (shows.content ∙ c.in_ok-opened.ensures.shows.same_content) (c.write_open.ensures.unchanged.store kept)
          c.write_open.ensures.unchanged.indexes (c.write_open.ensures.spelled kept) name (rw (← store_now, ← indexes_now) whole));
      header = subst (λ (v : ServerView). IsOpenFile v.content) (sym c.new.ensures) (c.in-Ok.ensures.header kept);
      torn = rw (← c.in_ok-opened.ensures.shows.same_content, ← shows.content, c.new.ensures) (c.write_open.ensures.torn kept);
    }

pub returns-in_err-opened-clause-refused : goal.returns-in_err-opened-clause-refused
returns-in_err-opened-clause-refused g c =
    let p = err_from_is_err_and c.from_residual.result c.from_residual.ensures.1 in
    rw (p.1, p.2)
    (not_opened c.in_err-opened.field-0.0.fault _ _ c.in_err-opened.ensures.refused c.in_err-opened.ensures.same.same_content c.in_err-opened.ensures.same.same_honest
    (same_overreads _ _ _ _ c.in_err-opened.ensures.same.same_honest c.in_err-opened.ensures.same.same_overreads) c.in_err-opened.ensures.told)
