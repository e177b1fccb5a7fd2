-- The status of the session, or that of a file that cannot be opened.
use Rattle.std.proofs.Common.{◌≡◌, inl, inr}
use Rattle.arr_core.specs.declared.refusal.Refusal.TheVariants as refusal
use Rattle.rasterd.specs.Places.{empty_disk}
use Rattle.rasterd.proofs.StatusLemmas.{ends-reports, listens-in-memory}
use Rattle.rasterd.proofs.listening.listen.Goals as goal

pub returns-in-Ok-Memory-clause-reports : goal.returns-in-Ok-Memory-clause-reports
returns-in-Ok-Memory-clause-reports g c =
    let end = c.serve_listener.ensures in
    inr (ends-reports end.end.3 end.quiet c.in-Ok-Memory.ensures.quiet)

pub returns-in-Ok-File-clause-reports : goal.returns-in-Ok-File-clause-reports
returns-in-Ok-File-clause-reports g c =
    let end = c.serve_listener-in-Ok-File.ensures in
    inr (ends-reports end.end.3 end.quiet c.in-Ok-File.ensures.quiet)

pub returns-clause-reports : goal.returns-clause-reports
returns-clause-reports g c = inr (inr (inl (refusal.DiskFault, c.in-Err.ensures.refused)))

pub returns-in-Ok-Memory-clause-memory : goal.returns-in-Ok-Memory-clause-memory
returns-in-Ok-Memory-clause-memory g c = λ name bound.
    let opened = c.in-Ok-Memory.ensures.memory name in
    let same : c.in-Ok-Memory.disk ≡ empty_disk = cc in
    listens-in-memory c.serve_listener.ensures.end same c.in-Ok-Memory.ensures.quiet
