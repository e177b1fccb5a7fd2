-- The types of fields, and the bytes that a value of each takes.
use Rattle.std.specs.Prelude.{ℕ, ℤ, pos}
use Rattle.byteorder.specs.Endian.{twos_complement}
use Rattle.arr_core.specs.declared.cell.FieldType.{FieldType}
use Rattle.arr_core.specs.declared.cell.FieldType.TheVariants.{Bool, U8, I16, I32, I64}

-- how many bytes a value takes
abbrev pub width_of : FieldType → ℕ
width_of Bool = 1
width_of U8 = 1
width_of I16 = 2
width_of I32 = 4
width_of I64 = 8

-- the value that the number in a value's bytes stands for: the number itself for the two types
-- without a sign, and its two's complement for the others
abbrev pub value_of : FieldType → ℕ → ℤ
value_of Bool n = pos n
value_of U8 n = pos n
value_of I16 n = twos_complement 2 n
value_of I32 n = twos_complement 4 n
value_of I64 n = twos_complement 8 n
