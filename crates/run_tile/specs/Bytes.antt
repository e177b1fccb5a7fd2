-- The bytes that a run is written as.
use Rattle.std.specs.Prelude.{ℕ, List, ◌++◌}
use Rattle.std.specs.Int.{w64}
use Rattle.byteorder.specs.Endian.{little_bytes, low_bytes}
use Rattle.arr_core.specs.declared.cell.FieldType.{FieldType}
use Rattle.run_tile.specs.Types.{width_of}
use Rattle.run_tile.specs.declared.run.Run.{Run}

-- two bytes for the count, and the value in the width of its type
unfoldable pub run_bytes : FieldType → Run → List ℕ
run_bytes kind r = little_bytes 2 r.count ++ little_bytes (width_of kind) (low_bytes w64 (width_of kind) r.value)
