-- The page put in is that of the block, of which there was none, and an entry that gives way only goes.
use Rattle.std.proofs.Common.{◌≡◌, ◌∙◌, sym, ap}
use Rattle.page_pool.specs.Pages.{entries_of}
use Rattle.page_pool.proofs.Lookups.{renews_offered}
use Rattle.page_pool.proofs.pages.Pages.offer.Goals as goal

pub returns : goal.returns
returns c =
    let old : c.args.self.now ≡ c.in-Some-kept.kept.entries = sym c.self.view_is ∙ ap entries_of c.in-Some-kept.is in
    rw (old, ← c.in-Ok.ensures) (renews_offered c.put-put.result c.in-Some-kept.kept c.put-put.new.self c.args.k c.in-Ok.page c.put-put.ensures.entries c.put-put.ensures.err (rw old at c.requires))
