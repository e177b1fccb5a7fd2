-- What answers tell of the disk's failures.
use Rattle.std.proofs.Common.{◌≡◌, ◌∙◌, ℕ, Result, Ok, Err, arith, ap, inl, inr, refl, subst, sym}
use Rattle.std.specs.Prelude.{IsErrOf}
use Rattle.arr_core.specs.declared.refusal.Refusal.{Refusal}
use Rattle.arr_core.specs.declared.refusal.Refusal.TheVariants.{NoSuchJob}
use Rattle.disk_face.specs.Disk.{Rose, Tells}
use Rattle.http_front.specs.declared.reply.Reply.{Reply}
use Rattle.job_desk.specs.declared.error.StepError.{StepError}
use Rattle.job_desk.specs.declared.error.StepError.TheVariants as stepping
use Rattle.wcps_mean.specs.declared.cells.CellError.{CellError}
use Rattle.wcps_mean.specs.declared.cells.CellError.TheVariants as cell
use Rattle.wcps_mean.specs.Reports.{Tells as Reported}
use Rattle.coverage_server.specs.declared.error.AnswerError.{AnswerError}
use Rattle.coverage_server.specs.declared.error.AnswerError.TheVariants.{Named, NoMemory, DiskFault, Damaged}
use Rattle.coverage_server.specs.Answered.{TellsFailures}
use Rattle.coverage_server.specs.Leaving.{LeavesFailures, reply_of}
use Rattle.coverage_server.specs.Stages.{cell_refusal, step_refusal}
use Rattle.coverage_server.specs.Views.{ServerView}
use Rattle.coverage_server.specs.Writing.{IsRefusedFor}
use Rattle.coverage_server.proofs.FaultLemmas.{tells_as}
use Rattle.coverage_server.proofs.StepLemmas.{StepTold}

-- where no fault is told the count is as it was
pub tells_same : (F : Type 0) (old new : ℕ) → (F → ⊥) → new ≡ old → Tells F old new
tells_same F old new none same = record { told = λ f. absurd (none f); quiet = λ other. same }

-- an answer that was made, and one that is refused for something else
pub told_done : {T : Type 0} (x : T) (old new : ℕ) → new ≡ old → Tells (IsErrOf {E = AnswerError} (Ok x) DiskFault) old new
told_done x old new same = tells_same _ old new (λ f. absurd cc) same

pub told_none : {T : Type 0} (e : AnswerError) (old new : ℕ) → (e ≡ DiskFault → ⊥) → new ≡ old → Tells (IsErrOf {T = T} (Err e) DiskFault) old new
told_none e old new other same = tells_same _ old new (λ f. let is : e ≡ DiskFault = cc in other is) same

-- what a request asks for is refused, or for memory
pub told_refused : {T : Type 0} (r : Refusal) (Cause : Type 0) (e : AnswerError) (n : ℕ) → IsRefusedFor r Cause e → Tells (IsErrOf {T = T} (Err e) DiskFault) n n
told_refused r Cause e n (inl x) = told_none e n n (λ is. let no : Named r ≡ DiskFault = sym x.0 ∙ is in cc) refl
told_refused r Cause e n (inr x) = told_none e n n (λ is. let no : NoMemory ≡ DiskFault = sym x ∙ is in cc) refl

-- the same error of another call
pub told_as : {S T : Type 0} (e : AnswerError) (old new : ℕ) → Tells (IsErrOf {T = S} (Err e) DiskFault) old new
    → Tells (IsErrOf {T = T} (Err e) DiskFault) old new
told_as e old new t =
    tells_as _ _ old new (λ f. let is : e ≡ DiskFault = cc in ap Err is) (λ f. let is : e ≡ DiskFault = cc in ap Err is) t

-- a report of cells is told as it is
pub report_told : {T : Type 0} (e : CellError) (Intact : Type 0) (old new : ℕ) → Reported e Intact old new
    → Tells (IsErrOf {T = T} (Err (cell_refusal e)) DiskFault) old new
report_told cell.NoMemory Intact old new x = told_none NoMemory old new (λ f. absurd cc) x
report_told cell.DiskFault Intact old new x = record { told = λ f. omega (arith, x); quiet = λ other. absurd (other refl) }
report_told cell.Damaged Intact old new x = told_none Damaged old new (λ f. absurd cc) x.1

-- and so is that of a step
step_as : {T : Type 0} (e : StepError) (Intact : Type 0) (old new : ℕ) → StepTold e Intact old new
    → Tells (IsErrOf {T = T} (Err (step_refusal e)) DiskFault) old new
step_as stepping.NoSuchJob Intact old new x = told_none (Named NoSuchJob) old new (λ f. absurd cc) x
step_as (stepping.Cells e) Intact old new x = report_told e Intact old new x

pub refused_told : {T : Type 0} (e : StepError) (Intact : Type 0) (v u m w : ServerView) → u ≡ v → w ≡ m → StepTold e Intact u.failures m.failures
    → TellsFailures {T = T} (Err (step_refusal e)) v w
refused_told {T = T} e Intact v u m w same ends x =
    subst (λ (y : ServerView). TellsFailures {T = T} (Err (step_refusal e)) y w) same
    (subst (λ (y : ServerView). TellsFailures {T = T} (Err (step_refusal e)) u y) (sym ends) (step_as e Intact u.failures m.failures x))

-- an answer after which the count is as it was
pub told_quiet : (F : Type 0) (old new : ℕ) → (F → Rose old new) → new ≡ old → Tells F old new
told_quiet F old new told same = record { told = told; quiet = λ other. same }

-- a reply that tells no fault is of an answer that told none
pub reply_told : (r : Result Reply AnswerError) (v w : ServerView) → TellsFailures r v w → LeavesFailures (reply_of r) v w
reply_told r v w t = λ other. t.quiet (λ f. other (ap reply_of f))
