-- The header alone moves: filling the last block only makes the file longer, and a failed write tears block 0.
use Rattle.std.proofs.Common.{IsTrue, arith, refl, sym, ◌∙◌}
use Rattle.block_file.proofs.Headers.{closes, only_extends, only_torn, header_written}
use Rattle.block_file.proofs.Places.{same_overreads}
use Rattle.block_file.proofs.block_file.BlockFileBlocks.write_header.Goals as goal

pub returns-in_err-blocks-clause-frame : goal.returns-in_err-blocks-clause-frame
returns-in_err-blocks-clause-frame g c = rw (← c.self.view_is) (only_extends _ _ _ refl refl refl c.fill_last_block.ensures.honest (same_overreads _ _ _ _ c.fill_last_block.ensures.honest (λ h. c.fill_last_block.ensures.overreads)) refl c.fill_last_block.ensures.extends)

pub returns-in_err-sync-clause-frame : goal.returns-in_err-sync-clause-frame
returns-in_err-sync-clause-frame g c = rw (← c.self.view_is) (only_extends _ _ _ c.in_err-sync.ensures.same refl refl (c.in_err-sync.ensures.honest ∙ c.fill_last_block.ensures.honest) (same_overreads _ _ _ _ (c.in_err-sync.ensures.honest ∙ c.fill_last_block.ensures.honest) (λ h. c.in_err-sync.ensures.overreads ∙ c.fill_last_block.ensures.overreads)) refl c.fill_last_block.ensures.extends)

pub returns-in_err-write_at-clause-frame : goal.returns-in_err-write_at-clause-frame
returns-in_err-write_at-clause-frame g c =
    rw (← c.self.view_is) (only_torn _ _ _ _ _ _ _ _ (omega arith) refl refl refl refl (c.in_err-write_at.ensures.honest ∙ c.in_ok-sync.ensures.honest ∙ c.fill_last_block.ensures.honest)
    (same_overreads _ _ _ _ (c.in_err-write_at.ensures.honest ∙ c.in_ok-sync.ensures.honest ∙ c.fill_last_block.ensures.honest) (λ h. c.in_err-write_at.ensures.overreads ∙ c.in_ok-sync.ensures.overreads ∙ c.fill_last_block.ensures.overreads)) refl
    c.fill_last_block.ensures.extends c.in_ok-sync.ensures.same c.in_err-write_at.ensures.torn c.in_ok-sync.ensures.done c.in_err-write_at.ensures.torn_synced)

pub returns-in_err-sync-2-clause-frame : goal.returns-in_err-sync-2-clause-frame
returns-in_err-sync-2-clause-frame g c =
    rw (← c.self.view_is) (only_torn _ _ _ _ _ _ _ _ (omega arith) c.in_err-sync-2.ensures.same c.in_err-sync-2.ensures.refused refl refl (c.in_err-sync-2.ensures.honest ∙ c.in_ok-write_at.ensures.honest ∙ c.in_ok-sync.ensures.honest ∙ c.fill_last_block.ensures.honest)
    (same_overreads _ _ _ _ (c.in_err-sync-2.ensures.honest ∙ c.in_ok-write_at.ensures.honest ∙ c.in_ok-sync.ensures.honest ∙ c.fill_last_block.ensures.honest) (λ h. c.in_err-sync-2.ensures.overreads ∙ c.in_ok-write_at.ensures.overreads ∙ c.in_ok-sync.ensures.overreads ∙ c.fill_last_block.ensures.overreads)) refl
    c.fill_last_block.ensures.extends c.in_ok-sync.ensures.same c.in_ok-write_at.ensures.torn c.in_ok-sync.ensures.done c.in_ok-write_at.ensures.torn_synced)

pub returns-clause-frame : goal.returns-clause-frame
returns-clause-frame g c =
    rw (← c.self.view_is) (only_torn _ _ _ _ _ _ _ _ (omega arith) c.in_ok-sync-2.ensures.same c.in_ok-sync-2.ensures.done refl refl (c.in_ok-sync-2.ensures.honest ∙ c.in_ok-write_at.ensures.honest ∙ c.in_ok-sync.ensures.honest ∙ c.fill_last_block.ensures.honest)
    (same_overreads _ _ _ _ (c.in_ok-sync-2.ensures.honest ∙ c.in_ok-write_at.ensures.honest ∙ c.in_ok-sync.ensures.honest ∙ c.fill_last_block.ensures.honest) (λ h. c.in_ok-sync-2.ensures.overreads ∙ c.in_ok-write_at.ensures.overreads ∙ c.in_ok-sync.ensures.overreads ∙ c.fill_last_block.ensures.overreads)) refl
    c.fill_last_block.ensures.extends c.in_ok-sync.ensures.same c.in_ok-write_at.ensures.torn c.in_ok-sync.ensures.same c.in_ok-write_at.ensures.torn)

pub returns-clause-written : goal.returns-clause-written
returns-clause-written g c =
    let only = rw (← c.self.view_is) at (returns-clause-frame g c) in
    let written = λ (honest : IsTrue (g.D.Disk.honest c.self.inside.disk)).
    header_written c.args.session _ c.args.first c.args.length c.header_bytes-header.result _ _ _ _ _ (omega (arith, c.self.invariant.bytes honest, c.self.invariant.few))
    (c.fill_last_block.ensures.extends honest) (c.in_ok-blocks.ensures.filled honest) c.in_ok-sync.ensures.same (omega arith) c.header_bytes-header.ensures.header c.header_bytes-header.ensures.version
    (c.in_ok-write_at.ensures.written (rw (c.in_ok-sync.ensures.honest, c.fill_last_block.ensures.honest) honest)) c.in_ok-sync-2.ensures.same in
    rw (← c.self.view_is) (record {
      synced = c.in_ok-sync-2.ensures.done ∙ sym c.in_ok-sync-2.ensures.same;
      written = written;
      closes = λ honest closed. closes c.args.first c.args.length _ _ (rw closed at (written honest)) (only.others honest);
    })
