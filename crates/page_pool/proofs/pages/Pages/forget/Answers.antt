-- The entry of that block is gone, and the others are those that were there.
use Rattle.std.proofs.Common.{◌≡◌, ◌∙◌, sym, ap}
use Rattle.page_pool.specs.Pages.{entries_of}
use Rattle.page_pool.proofs.Lookups.{forgets_removed}
use Rattle.page_pool.proofs.pages.Pages.forget.Goals as goal

pub returns : goal.returns
returns c =
    let old : c.args.self.now ≡ c.in-Some.kept.entries = sym c.self.view_is ∙ ap entries_of c.in-Some.is in
    rw (old, c.pop_entry-page.ensures.entries) (forgets_removed c.args.k c.in-Some.kept.entries c.len-distinct.ensures.valid.0)
