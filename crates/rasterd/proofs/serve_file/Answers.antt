-- The status of the session, or that of a file that cannot be opened.
use Rattle.std.proofs.Common.{◌≡◌, inl, inr}
use Rattle.arr_core.specs.declared.refusal.Refusal.TheVariants as refusal
use Rattle.rasterd.specs.Places.{empty_disk}
use Rattle.rasterd.proofs.StatusLemmas.{ends-in-memory, ends-reports}
use Rattle.rasterd.proofs.serve_file.Goals as goal

pub returns-in-Ok-Memory-clause-reports : goal.returns-in-Ok-Memory-clause-reports
returns-in-Ok-Memory-clause-reports g c =
    ends-reports c.session_status.ensures.end c.session_status.ensures.quiet c.in-Ok-Memory.ensures.quiet

pub returns-in-Ok-File-clause-reports : goal.returns-in-Ok-File-clause-reports
returns-in-Ok-File-clause-reports g c =
    let end = c.session_status-in-Ok-File.ensures in
    ends-reports end.end end.quiet c.in-Ok-File.ensures.quiet

pub returns-in-Err-clause-reports : goal.returns-in-Err-clause-reports
returns-in-Err-clause-reports g c = inr (inl (refusal.DiskFault, c.in-Err.ensures.refused))

pub returns-in-Ok-Memory-clause-memory : goal.returns-in-Ok-Memory-clause-memory
returns-in-Ok-Memory-clause-memory g c = λ name.
    let opened = c.in-Ok-Memory.ensures.memory name in
    let same : c.in-Ok-Memory.disk ≡ empty_disk = cc in
    ends-in-memory c.session_status.ensures.end same
