-- When each refusal comes.
use Rattle.std.specs.Prelude.{Result, IsErrOf}
use Rattle.block_file.specs.declared.fault.TakeFault.{TakeFault}
use Rattle.block_file.specs.declared.fault.TakeFault.TheVariants as take
use Rattle.file_bytes.specs.declared.error.ReadError.{ReadError}
use Rattle.file_bytes.specs.declared.error.ReadError.TheVariants as reading
use Rattle.tile_store.specs.declared.fault.Fault.{Fault}
use Rattle.tile_store.specs.declared.fault.Fault.TheVariants.{NoMemory, NoRoom, Damaged}

-- the refusal of a taking of blocks
abbrev pub of_take : TakeFault → Fault
of_take take.NoMemory = NoMemory
of_take take.NoRoom = NoRoom

-- the refusal of a reading
abbrev pub of_read : ReadError → Fault
of_read reading.NoMemory = NoMemory
of_read reading.Damaged = Damaged

-- a refusal as damaged comes only where something was, and one for room only where it was wanting
pub record Refuses {T : Type 0} (result : Result T Fault) (damaged room : Type 0) : Type 0 where
  pub for_damage : IsErrOf result Damaged → damaged
  pub for_room : IsErrOf result NoRoom → room
