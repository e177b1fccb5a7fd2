-- What a report says of a later part of a call, it says of the whole.
use Rattle.std.proofs.Common.{◌≡◌, ℕ, subst, ◌∙◌}
use Rattle.wcps_mean.specs.declared.cells.CellError.{CellError}
use Rattle.wcps_mean.specs.declared.cells.CellError.TheVariants.{NoMemory, DiskFault, Damaged}
use Rattle.wcps_mean.specs.declared.answer.EvalError.{EvalError}
use Rattle.wcps_mean.specs.declared.answer.EvalError.TheVariants.{Fault, Cells}
use Rattle.wcps_mean.specs.Reports.{Rose, Tells}
use Rattle.wcps_mean.specs.Errors.{TellsStore}

pub tells-from : (e : CellError) {A B : Type 0} (old mid new : ℕ) → (A → B) → mid ≡ old → Tells e B mid new → Tells e A old new
tells-from NoMemory old mid new f same t = t ∙ same
tells-from DiskFault old mid new f same t = subst (λ n. Rose n new) same t
tells-from Damaged old mid new f same t = ((λ a. t.0 (f a)), t.1 ∙ same)

pub passes-from : (e : EvalError) {A B : Type 0} (old mid new : ℕ) → (A → B) → mid ≡ old → TellsStore e B mid new → TellsStore e A old new
passes-from (Fault f) old mid new g same t = t ∙ same
passes-from (Cells e) old mid new g same t = tells-from e old mid new g same t
