-- A name that the catalogue lacks the cells lack too, and the disk can be closed whether or not the coverage came.
use Rattle.std.proofs.Common.{List, Contains, refl, sym, subst, ap, ◌∙◌, ◌≡◌, ◌++◌, ◌∷◌, []}
use Rattle.arr_core.specs.declared.signature.Signature.{Signature}
use Rattle.catalogue.specs.Signatures.{names_of}
use Rattle.coverage_server.proofs.FreeLemmas.{IsReady, shown, created_ready, catalogue_refused, create_refused, unchanged, none_changed}
use Rattle.coverage_server.proofs.StoreLemmas.{fresh_found}
use Rattle.coverage_server.proofs.WriteLemmas.{taken_out}
use Rattle.coverage_server.proofs.coverages.Coverages.insert.Goals as goal

pub create-requires : goal.create-requires
create-requires g c = record {
  name = fresh_found c.args.signature.now.name c.self.inside.cells.coverages
      (λ k. c.in_default.ensures.ok.fresh (subst (λ (l : List Signature). Contains (names_of l) c.args.signature.now.name) (sym c.self.invariant.signatures) k));
}

pub invariant_of-self-in-Ok : goal.invariant_of-self-in-Ok
invariant_of-self-in-Ok g c =
    created_ready c.self.inside.catalogue c.insert.new.self c.args.signature.now c.bytes_len_with-bytes.result c.self.inside.cells c.create.new.self c.self.invariant
    (c.in_default-insert.ensures.inserted ∙ ap (λ (s : Signature). c.self.inside.catalogue ++ s ∷ []) c.in_ok-listed.ensures) c.bytes_len_with-bytes.ensures c.in-Ok.ensures.created
    c.create.ensures.blocks c.create.ensures.snapshots

pub invariant_of-self-in-Err-create : goal.invariant_of-self-in-Err-create
invariant_of-self-in-Err-create g c =
    let mid : c.insert.new.self ≡ c.self.inside.catalogue ++ c.args.signature.now ∷ [] =
    c.in_default-insert.ensures.inserted ∙ ap (λ (s : Signature). c.self.inside.catalogue ++ s ∷ []) c.in_ok-listed.ensures in
    let out = taken_out c.remove-removed.result c.args.signature.now c.self.inside.catalogue c.insert.new.self c.remove-removed.new.self mid c.remove-removed.ensures.removed c.remove-removed.ensures.absent
    c.in_default.ensures.ok.fresh in
    rw out (subst (IsReady c.self.inside.catalogue) (sym c.in-Err-create.ensures.same) c.self.invariant)

pub returns-in-Err-clause-refused : goal.returns-in-Err-clause-refused
returns-in-Err-clause-refused g c =
    rw (c.insert_refusal.ensures, ← c.self.view_is)
    (catalogue_refused c.self.inside.catalogue c.args.signature.now c.self.inside.cells c.in-Err.error c.self.invariant c.in-Err.ensures.refused)

pub returns-in-Err-create-clause-refused : goal.returns-in-Err-create-clause-refused
returns-in-Err-create-clause-refused g c =
    rw (c.device_refusal.ensures, ← c.self.view_is)
    (create_refused c.self.inside.catalogue c.args.signature.now _ c.self.inside.cells c.in-Err-create.fault c.self.invariant c.bytes_len_with-bytes.ensures c.in-Err-create.ensures.why c.in-Err-create.ensures.no_disk)

pub returns-in-Err-clause-unchanged : goal.returns-in-Err-clause-unchanged
returns-in-Err-clause-unchanged g c = rw (← c.self.view_is) (unchanged (shown c.self.inside.cells) (shown c.self.inside.cells) refl)

pub returns-in_err-listed-clause-unchanged : goal.returns-in_err-listed-clause-unchanged
returns-in_err-listed-clause-unchanged g c = rw (← c.self.view_is) (none_changed c.from_residual.result (shown c.self.inside.cells) (shown c.self.inside.cells) refl)

pub returns-in-Err-insert-clause-unchanged : goal.returns-in-Err-insert-clause-unchanged
returns-in-Err-insert-clause-unchanged g c = rw (← c.self.view_is) (unchanged (shown c.self.inside.cells) (shown c.self.inside.cells) refl)

pub returns-in-Err-create-clause-unchanged : goal.returns-in-Err-create-clause-unchanged
returns-in-Err-create-clause-unchanged g c = rw (← c.self.view_is) (unchanged (shown c.self.inside.cells) (shown c.create.new.self) (ap shown c.in-Err-create.ensures.same))
