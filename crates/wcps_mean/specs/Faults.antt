-- The refusals of points that have no value.
use Rattle.arr_core.specs.declared.refusal.Refusal.{Refusal}
use Rattle.arr_core.specs.declared.refusal.Refusal.TheVariants as refusals
use Rattle.wcps_mean.specs.declared.cell.PointFault.{PointFault}
use Rattle.wcps_mean.specs.declared.cell.PointFault.TheVariants as faults

-- the refusal that a reply gives
abbrev pub refusal_of : PointFault → Refusal
refusal_of faults.Overflow = refusals.Overflow
refusal_of faults.DivideByZero = refusals.DivideByZero
refusal_of faults.OutOfDomain = refusals.OutOfDomain
refusal_of faults.EmptyCondense = refusals.EmptyCondense
refusal_of faults.BadBit = refusals.BadBit
