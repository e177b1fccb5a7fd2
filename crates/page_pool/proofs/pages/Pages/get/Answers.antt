-- A page that is asked for goes to the front, so each block has the page that it had.
use Rattle.std.proofs.Common.{◌≡◌, ◌∙◌, sym, ap}
use Rattle.page_pool.specs.Pages.{entries_of}
use Rattle.page_pool.proofs.Lookups.{same_promoted}
use Rattle.page_pool.proofs.pages.Pages.get.Goals as goal

pub returns-in_default-get-clause-same : goal.returns-in_default-get-clause-same
returns-in_default-get-clause-same c =
    let old : c.args.self.now ≡ c.in-Some.kept.entries = sym c.self.view_is ∙ ap entries_of c.in-Some.is in
    rw (c.get.follows.holds-at-none, old) (same_promoted c.args.k c.in-Some.kept.entries)

pub returns-clause-same : goal.returns-clause-same
returns-clause-same c =
    let old : c.args.self.now ≡ c.in-Some.kept.entries = sym c.self.view_is ∙ ap entries_of c.in-Some.is in
    rw (c.get.follows.holds-at-none, old) (same_promoted c.args.k c.in-Some.kept.entries)
