-- The refusals of an opening and of a closing.
use Rattle.arr_core.specs.declared.refusal.Refusal.{Refusal}
use Rattle.arr_core.specs.declared.refusal.Refusal.TheVariants as refusal
use Rattle.block_file.specs.declared.fault.OpenFault.{OpenFault}
use Rattle.block_file.specs.declared.fault.OpenFault.TheVariants as opening
use Rattle.block_file.specs.declared.fault.CloseFault.{CloseFault}
use Rattle.block_file.specs.declared.fault.CloseFault.TheVariants as closing

abbrev pub open_refusal : OpenFault → Refusal
open_refusal opening.NoMemory = refusal.NoMemory
open_refusal opening.DiskFault = refusal.DiskFault
open_refusal opening.Damaged = refusal.Damaged
open_refusal opening.NotAStore = refusal.NotAStore
open_refusal opening.NotClosed = refusal.NotClosed

abbrev pub close_refusal : CloseFault → Refusal
close_refusal closing.NoMemory = refusal.NoMemory
close_refusal closing.DiskFault = refusal.DiskFault
