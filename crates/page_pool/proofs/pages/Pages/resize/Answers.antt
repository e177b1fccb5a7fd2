-- Fewer places keep some of the entries and add none.
use Rattle.std.proofs.Common.{◌≡◌, ◌∙◌, sym, ap}
use Rattle.page_pool.specs.Pages.{entries_of}
use Rattle.page_pool.proofs.Lookups.{none_added}
use Rattle.page_pool.proofs.pages.Pages.resize.Goals as goal

pub returns-in-Some-Some : goal.returns-in-Some-Some
returns-in-Some-Some c =
    let old : c.args.self.now ≡ c.in-Some-Some.kept.entries = sym c.self.view_is ∙ ap entries_of c.in-Some-Some.is-0 in
    rw (old, c.resize.ensures) (none_added _ c.in-Some-Some.kept.entries)
