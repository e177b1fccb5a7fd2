-- The status of a session, and how it ended.
use Rattle.std.proofs.Common.{◌≡◌, ℕ, inl, inr, refl, ap, subst, sym, arith}
use Rattle.std.specs.Prelude.{List, Option, Result, Ok, Err, codes}
use Rattle.disk_face.specs.Disk.{Memory}
use Rattle.disk_face.specs.declared.Disk.{Ghosts}
use Rattle.block_file.specs.declared.fault.CloseFault.{CloseFault}
use Rattle.block_file.specs.declared.fault.OpenFault.{OpenFault}
use Rattle.block_file.specs.Faults.{open_refusal, close_refusal}
use Rattle.stream_face.specs.Views.{SinkView}
use Rattle.coverage_server.specs.Serves.{Ends}
use Rattle.coverage_server.specs.Sessions.{IsSession, IsUnopened}
use Rattle.coverage_server.specs.declared.session.SessionFault.{SessionFault}
use Rattle.coverage_server.specs.declared.session.SessionFault.TheVariants.{NotOpened, NotClosed}
use Rattle.coverage_server.specs.Views.{SessionView}
use Rattle.rasterd.specs.Lines.{Says, fault_line}
use Rattle.rasterd.specs.Places.{EndsInMemory, empty_disk, memory}
use Rattle.rasterd.specs.Sessions.{EndsAs, EndsUpTo, SaysWhy, status_of}
use Rattle.rasterd.specs.Statuses.{ReportsStore}

module _ {D : Type 0} where
  -- a disk that was not opened has status 3
  pub status-unopened : (end : Result D (SessionFault D)) → IsUnopened end → status_of end ≡ 3
  status-unopened (Ok after) x = absurd x
  status-unopened (Err (NotOpened left fault)) x = refl
  status-unopened (Err (NotClosed server fault)) x = absurd x

  -- no other end has it
  pub unopened-status : (end : Result D (SessionFault D)) → status_of end ≡ 3 → IsUnopened end
  unopened-status (Ok after) e = absurd (omega (arith, e))
  unopened-status (Err (NotOpened left fault)) e = tt
  unopened-status (Err (NotClosed server fault)) e = absurd (omega (arith, e))

  -- the line of a disk that was not opened
  pub says-unopened : (end : SessionFault D) (left : D) (fault : OpenFault) (old new : SinkView) → end ≡ NotOpened left fault
      → Says old new (fault_line (codes "not opened") (open_refusal fault)) → SaysWhy old new (Err end)
  says-unopened end left fault old new is line =
      subst (λ (x : SessionFault D). SaysWhy old new (Err x)) (sym is) line

  -- the line of a server that was not closed
  pub says-unclosed : (end : SessionFault D) (server : SessionView) (fault : CloseFault) (old new : SinkView) → end ≡ NotClosed server fault
      → Says old new (fault_line (codes "not closed") (close_refusal fault)) → SaysWhy old new (Err end)
  says-unclosed end server fault old new is line =
      subst (λ (x : SessionFault D). SaysWhy old new (Err x)) (sym is) line

  -- the line of a session that did not end by a close
  pub says-fault : (end : Result D (SessionFault D)) (fault : SessionFault D) (old new : SinkView) → end ≡ Err fault
      → SaysWhy old new (Err fault) → SaysWhy old new end
  says-fault end fault old new is line = subst (λ (x : Result D (SessionFault D)). SaysWhy old new x) (sym is) line

  -- the status of an end goes with its line
  pub status-reports : (end : Result D (SessionFault D)) (status : ℕ) (old new : SinkView) → status ≡ status_of end
      → SaysWhy old new end → (status ≡ 0 → new ≡ old) → ReportsStore status old new
  status-reports (Ok after) status old new is line quiet = inl (is, quiet is)
  status-reports (Err (NotOpened left fault)) status old new is line quiet = inr (inl (open_refusal fault, (is, line)))
  status-reports (Err (NotClosed server fault)) status old new is line quiet = inr (inr (close_refusal fault, (is, line)))

-- a session that ended so reports what became of the store
pub ends-reports : {D E : Type 0} {g : Ghosts D} {disk : D} {ends : List Ends} {view : E → SinkView} {first errors errors' : E} {outcome : ℕ × Option D}
    → EndsAs g disk ends view errors errors' outcome → (outcome.0 ≡ 0 → errors' ≡ errors) → errors ≡ first
    → ReportsStore outcome.0 (view first) (view errors')
ends-reports {D} {E} {g} {disk} {ends} {view} {first} {errors} {errors'} {outcome} x quiet same =
    subst (λ (e : E). ReportsStore outcome.0 (view e) (view errors')) same
    (status-reports x.end outcome.0 (view errors) (view errors') x.status x.line (λ e. ap view (quiet e)))

-- a session on an empty disk in memory
pub ends-in-memory : {E : Type 0} {disk : Memory} {ends : List Ends} {view : E → SinkView} {errors errors' : E} {outcome : ℕ × Option Memory}
    → EndsAs memory disk ends view errors errors' outcome → disk ≡ empty_disk → EndsInMemory ends outcome.0
ends-in-memory {E} {disk} {ends} x same =
    (x.end, subst (λ (d : Memory). IsSession memory d ends x.end) same x.session, x.status)

-- so it is with one over at most so many connections
pub listens-in-memory : {E : Type 0} {most status : ℕ} {disk : Memory} {view : E → SinkView} {first errors errors' : E}
    → EndsUpTo most memory disk view errors errors' status → disk ≡ empty_disk → errors ≡ first
    → EndsUpTo most memory empty_disk view first errors' status
listens-in-memory {E} {most} {status} {disk} {view} {first} {errors} {errors'} x same quiet =
    subst (λ (e : E). EndsUpTo most memory empty_disk view e errors' status) quiet
    (subst (λ (d : Memory). EndsUpTo most memory d view errors errors' status) same x)
