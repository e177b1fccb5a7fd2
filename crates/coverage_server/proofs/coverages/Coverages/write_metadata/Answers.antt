-- The metadata has room and closes an honest disk's file; faults are told, and want of memory keeps the header.
use Rattle.std.proofs.Common.{◌≡◌, refl, sym, subst}
use Rattle.std.proofs.lemmas.Result.{err_from_is_err_and}
use Rattle.std.specs.Prelude.{Bool, IsTrue}
use Rattle.block_file.proofs.Headers.{keeps_header}
use Rattle.block_file.specs.Uses.{uses_of}
use Rattle.block_file.specs.View.{state_of}
use Rattle.metadata.specs.Metadata.{metadata_bytes}
use Rattle.coverage_server.specs.Closing.{metadata_held}
use Rattle.coverage_server.specs.Views.{ServerView, signatures_of}
use Rattle.coverage_server.proofs.ClosingLemmas.{written_fits, is_written}
use Rattle.coverage_server.proofs.FaultLemmas.{tells_after, tells_as}
use Rattle.coverage_server.proofs.GrowthLemmas.{chain_grows, close_grows}
use Rattle.coverage_server.proofs.HeldLemmas.{same_lists}
use Rattle.coverage_server.proofs.SpelledLemmas.{spelled_after, stays_spelled}
use Rattle.coverage_server.proofs.FreeLemmas.{stays_ready, stays_unchanged, unchanged_after}
use Rattle.coverage_server.proofs.coverages.Coverages.write_metadata.Goals as goal

pub write_metadata-requires-clause-some : goal.write_metadata-requires-clause-some
write_metadata-requires-clause-some g c =
    let is = subst (λ (v : ServerView). c.args.metadata.now ≡ metadata_held v) (sym c.self.view_is) c.requires in
    (written_fits c.args.metadata.now c.self.inside.catalogue c.self.inside.cells.coverages c.self.inside.cells.indexes c.self.inside.cells.snapshots (uses_of c.self.inside.cells.blocks.marks) is c.self.invariant).0

pub write_metadata-requires-clause-room : goal.write_metadata-requires-clause-room
write_metadata-requires-clause-room g c =
    let is = subst (λ (v : ServerView). c.args.metadata.now ≡ metadata_held v) (sym c.self.view_is) c.requires in
    let fits = written_fits c.args.metadata.now c.self.inside.catalogue c.self.inside.cells.coverages c.self.inside.cells.indexes c.self.inside.cells.snapshots (uses_of c.self.inside.cells.blocks.marks) is c.self.invariant in
    fits.1

pub returns-clause-written : goal.returns-clause-written
returns-clause-written g c =
    let is = subst (λ (v : ServerView). c.args.metadata.now ≡ metadata_held v) (sym c.self.view_is) c.requires in
    let fits = written_fits c.args.metadata.now c.self.inside.catalogue c.self.inside.cells.coverages c.self.inside.cells.indexes c.self.inside.cells.snapshots (uses_of c.self.inside.cells.blocks.marks) is c.self.invariant in
    let ready = stays_ready c.self.inside.catalogue c.self.inside.cells c.write_metadata.new.self c.self.invariant c.write_metadata.ensures.frame c.write_metadata.ensures.snapshots in
    rw (← c.self.view_is)
    (λ (sure : IsTrue _).
    let honest = subst (λ (b : Bool). IsTrue b) (sym c.write_metadata.ensures.frame.moves.honest) sure in
    let closes = c.in_ok-write_header.ensures.closes honest in
    is_written c.in_ok-first.first (state_of c.write_metadata.new.self.blocks) c.write_header.new.self.content c.args.metadata.now
    (metadata_bytes (signatures_of c.self.inside.cells.coverages) c.self.inside.cells.indexes) c.write_metadata.new.self.indexes c.write_header.new.self.indexes c.write_metadata.new.self.snapshots honest is
    closes.1 c.in_ok-first.ensures.chain closes.0 ready.counted c.write_header.ensures.unchanged.indexes)

pub returns-clause-unchanged : goal.returns-clause-unchanged
returns-clause-unchanged g c =
    rw (← c.self.view_is)
    (unchanged_after _ _ _ c.write_metadata.ensures.frame.moves.honest (stays_unchanged c.self.inside.cells c.write_metadata.new.self c.write_metadata.ensures.frame.same c.write_metadata.ensures.snapshots)
    c.write_header.ensures.unchanged)

pub returns-clause-spelled : goal.returns-clause-spelled
returns-clause-spelled g c =
    rw (← c.self.view_is)
    (λ (sure : IsTrue _).
    let honest = subst (λ (b : Bool). IsTrue b) (sym c.write_metadata.ensures.frame.moves.honest) sure in
    spelled_after _ _ _
    (stays_spelled c.self.inside.catalogue c.self.inside.cells c.write_metadata.new.self c.self.invariant
    c.write_metadata.ensures.frame c.write_metadata.ensures.snapshots sure)
    (c.write_header.ensures.spelled honest)
    (λ k. same_lists _ _ k c.write_header.ensures.unchanged.held.told))

pub returns-in_err-write_header-clause-told : goal.returns-in_err-write_header-clause-told
returns-in_err-write_header-clause-told g c =
    let p = err_from_is_err_and c.from_residual-in_err-write_header.result c.from_residual-in_err-write_header.ensures.1 in
    rw (← c.self.view_is, p.1, p.2)
    (tells_as _ _ _ _ (λ e. refl) (λ e. refl) (tells_after _ _ _ _ _ (λ e. absurd cc) c.in_ok-first.ensures.told c.in_err-write_header.ensures.told))

pub returns-in_err-write_header-clause-header : goal.returns-in_err-write_header-clause-header
returns-in_err-write_header-clause-header g c =
    let p = err_from_is_err_and c.from_residual-in_err-write_header.result c.from_residual-in_err-write_header.ensures.1 in
    rw (p.1, p.2) (λ e. absurd cc)

pub returns-in_err-write_header-clause-unchanged : goal.returns-in_err-write_header-clause-unchanged
returns-in_err-write_header-clause-unchanged g c =
    rw (← c.self.view_is)
    (unchanged_after _ _ _ c.write_metadata.ensures.frame.moves.honest (stays_unchanged c.self.inside.cells c.write_metadata.new.self c.write_metadata.ensures.frame.same c.write_metadata.ensures.snapshots)
    c.write_header.ensures.unchanged)

pub returns-in_err-write_header-clause-spelled : goal.returns-in_err-write_header-clause-spelled
returns-in_err-write_header-clause-spelled g c =
    rw (← c.self.view_is)
    (λ (sure : IsTrue _).
    let honest = subst (λ (b : Bool). IsTrue b) (sym c.write_metadata.ensures.frame.moves.honest) sure in
    spelled_after _ _ _
    (stays_spelled c.self.inside.catalogue c.self.inside.cells c.write_metadata.new.self c.self.invariant
    c.write_metadata.ensures.frame c.write_metadata.ensures.snapshots sure)
    (c.write_header.ensures.spelled honest)
    (λ k. same_lists _ _ k c.write_header.ensures.unchanged.held.told))

pub returns-in_err-first-clause-header : goal.returns-in_err-first-clause-header
returns-in_err-first-clause-header g c = rw (← c.self.view_is) (λ wants. keeps_header _ _ c.write_metadata.ensures.frame.moves.header)

pub returns-in_err-first-clause-spelled : goal.returns-in_err-first-clause-spelled
returns-in_err-first-clause-spelled g c =
    rw (← c.self.view_is)
    (stays_spelled c.self.inside.catalogue c.self.inside.cells c.write_metadata.new.self c.self.invariant
    c.write_metadata.ensures.frame c.write_metadata.ensures.snapshots)

pub invariant_of-self : goal.invariant_of-self
invariant_of-self g c = stays_ready c.self.inside.catalogue c.self.inside.cells c.write_metadata.new.self c.self.invariant c.write_metadata.ensures.frame c.write_metadata.ensures.snapshots

pub invariant_of-self-2 : goal.invariant_of-self-2
invariant_of-self-2 g c = stays_ready c.self.inside.catalogue c.self.inside.cells c.write_metadata.new.self c.self.invariant c.write_metadata.ensures.frame c.write_metadata.ensures.snapshots

pub returns-in_err-first-clause-grows : goal.returns-in_err-first-clause-grows
returns-in_err-first-clause-grows g c =
    let is = subst (λ (v : ServerView). c.args.metadata.now ≡ metadata_held v) (sym c.self.view_is) c.requires in
    rw (← c.self.view_is) (chain_grows c.self.inside.catalogue c.self.inside.cells c.write_metadata.new.self.blocks.content c.args.metadata.now c.self.invariant is c.write_metadata.ensures.grows)

pub returns-in_err-write_header-clause-grows : goal.returns-in_err-write_header-clause-grows
returns-in_err-write_header-clause-grows g c =
    let is = subst (λ (v : ServerView). c.args.metadata.now ≡ metadata_held v) (sym c.self.view_is) c.requires in
    rw (← c.self.view_is)
    (close_grows c.self.inside.catalogue c.self.inside.cells c.write_metadata.new.self.blocks.content c.write_header.new.self.content c.args.metadata.now c.self.invariant is c.write_metadata.ensures.grows
    (λ sure. c.write_header.ensures.torn (subst (λ (b : Bool). IsTrue b) (sym c.write_metadata.ensures.frame.moves.honest) sure)))

pub returns-clause-grows : goal.returns-clause-grows
returns-clause-grows g c =
    let is = subst (λ (v : ServerView). c.args.metadata.now ≡ metadata_held v) (sym c.self.view_is) c.requires in
    rw (← c.self.view_is)
    (close_grows c.self.inside.catalogue c.self.inside.cells c.write_metadata.new.self.blocks.content c.write_header.new.self.content c.args.metadata.now c.self.invariant is c.write_metadata.ensures.grows
    (λ sure. c.write_header.ensures.torn (subst (λ (b : Bool). IsTrue b) (sym c.write_metadata.ensures.frame.moves.honest) sure)))
