-- The page that is written is the one of that block, and all others stay.
use Rattle.std.proofs.Common.{◌≡◌, ◌∙◌, sym, ap, refl}
use Rattle.page_pool.specs.Pages.{entries_of}
use Rattle.page_pool.proofs.Lookups.{renews_set}
use Rattle.page_pool.proofs.pages.Pages.renew.Goals as goal

pub returns : goal.returns
returns c =
    let old : c.args.self.now ≡ c.in-Some.kept.entries = sym c.self.view_is ∙ ap entries_of c.in-Some.is in
    rw (old, ← c.write.ensures) (renews_set c.args.k c.write.new.self c.in-Some.kept.entries (rw (← c.peek_mut.ensures.value, c.in-Some-peek_mut.is) refl))
