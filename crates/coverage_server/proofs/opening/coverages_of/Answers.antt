-- What comes of an honest disk is what it lists, and can be closed; what is refused as damaged is not laid out.
use Rattle.std.proofs.Common.{◌≡◌, ◌<◌, ◌∙◌, ap, sym, subst, List, ℕ, arith}
use Rattle.std.proofs.lemmas.Grind.{common_steps}
use Rattle.block_file.specs.Uses.{uses_of}
use Rattle.block_file.specs.View.{BlockFileView, state_of}
use Rattle.raster_store.specs.Views.{Index, listed_all, coverages_in}
use Rattle.raster_store.specs.Calls.{MayAttach}
use Rattle.metadata.specs.Metadata.{indexes_of}
use Rattle.coverage_server.proofs.LayoutLemmas.{may_attach}
use Rattle.coverage_server.proofs.OpeningLemmas.{claimed_whole, fresh_counts, layout_ready, lists_all, departs_map, beyond}
use Rattle.coverage_server.proofs.opening.coverages_of.Goals as goal

pub attach_all-requires-clause-blocks : goal.attach_all-requires-clause-blocks
attach_all-requires-clause-blocks g c before new after split =
    let claims = c.in-Ok.ensures.claims.claims in
    let counted = fresh_counts c.args.opened.file.marks c.claim_layout.new.file.marks (indexes_of c.in-Ok.layout.indexes.items) c.requires.fresh claims in
    subst (λ (b : BlockFileView). MayAttach (state_of b) before new) (sym (c.new-cells.ensures.blocks ∙ c.new-pool.ensures))
    (may_attach (state_of c.claim_layout.new.file) before new after
    (λ k. subst (λ (i : List (List Index)). uses_of c.claim_layout.new.file.marks k ≡ listed_all i k) split (counted k))
    (rw (c.in-Ok.ensures.content, c.in-Ok.ensures.honest)
    (λ honest k some. claimed_whole _ _ _ _ (indexes_of c.in-Ok.layout.indexes.items) (c.requires.opened honest) claims k (subst (λ (i : List (List Index)). 0 < listed_all i k) (sym split) some))))

pub new-requires : goal.new-requires
new-requires g c =
    layout_ready _ _ _ _ _ c.in-Ok.layout.catalogue (indexes_of c.in-Ok.layout.indexes.items) c.attach_all.new.cells c.requires.fresh c.in-Ok.ensures.claims
    c.in-Ok-attach_all.ensures.listed.coverages c.in-Ok-attach_all.ensures.listed.indexes c.attach_all.ensures.unheld
    (ap (λ (b : BlockFileView). b.marks) (c.attach_all.ensures.blocks ∙ c.new-cells.ensures.blocks ∙ c.new-pool.ensures))

pub returns-in-Ok-attach_all-clause-lists : goal.returns-in-Ok-attach_all-clause-lists
returns-in-Ok-attach_all-clause-lists g c honest =
    let opened = c.requires.opened honest in
    let content = ap (λ (b : BlockFileView). b.content) (c.new-cells.ensures.blocks ∙ c.new-pool.ensures) ∙ c.in-Ok.ensures.content in
    lists_all _ _ _ _ _ c.in-Ok.layout.catalogue (indexes_of c.in-Ok.layout.indexes.items) _ _ (c.requires.version honest) opened (rw c.deref.ensures.value at c.in-Ok.ensures.claims.listed) c.in-Ok.ensures.claims.claims
    c.in-Ok-attach_all.ensures.listed.tiles
    (c.new.ensures.store ∙ c.in-Ok-attach_all.ensures.listed.coverages ∙ ap (λ (l : List ℕ). coverages_in l c.in-Ok.layout.catalogue (indexes_of c.in-Ok.layout.indexes.items)) content)
    (c.new.ensures.indexes ∙ c.in-Ok-attach_all.ensures.listed.indexes)

pub returns-clause-refused : goal.returns-clause-refused
returns-clause-refused g c =
    departs_map _ _ c.in-Err-attach_all.fault
    (λ beyond_domains honest. beyond _ _ _ _ _ _ (c.requires.version honest) (c.requires.opened honest) (rw c.deref.ensures.value at c.in-Ok.ensures.claims.listed) beyond_domains)
    c.in-Err-attach_all.ensures.refused

pub attach_all-requires-clause-counted : goal.attach_all-requires-clause-counted
attach_all-requires-clause-counted g c = grind (arith, common_steps)
