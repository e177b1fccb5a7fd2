-- The bytes of a catalogue. Numbers of more than one byte have the lowest byte first.
use Rattle.std.specs.Prelude.{ℕ, List, [], ◌∷◌, ◌++◌, length, flat_map}
use Rattle.byteorder.specs.Endian.{little_bytes}
use Rattle.file_bytes.specs.Codes.{signed_bytes}
use Rattle.arr_core.specs.declared.cell.FieldType.{FieldType}
use Rattle.arr_core.specs.declared.cell.FieldType.TheVariants.{Bool, U8, I16, I32, I64}
use Rattle.arr_core.specs.declared.domain.Axis.{Axis}
use Rattle.arr_core.specs.declared.field.Field.{Field}
use Rattle.arr_core.specs.declared.signature.Signature.{Signature}

-- a name: its length in one byte, and its bytes
abbrev pub name_bytes : List ℕ → List ℕ
name_bytes name = length name ∷ name

-- the number of a field's type
abbrev pub type_number : FieldType → ℕ
type_number Bool = 0
type_number U8 = 1
type_number I16 = 2
type_number I32 = 3
type_number I64 = 4

-- an axis: its name, its lower bound and its upper bound, both in 32 bits of two's complement
unfoldable pub axis_bytes : Axis → List ℕ
axis_bytes a = name_bytes a.name ++ (signed_bytes a.lo ++ signed_bytes a.hi)

-- the axes of a domain: how many there are in one byte, and each in turn
unfoldable pub domain_bytes : List Axis → List ℕ
domain_bytes axes = length axes ∷ flat_map axis_bytes axes

-- a field: its name, and the number of its type in one byte
unfoldable pub field_bytes : Field → List ℕ
field_bytes f = name_bytes f.name ++ (type_number f.kind ∷ [])

-- the fields of a coverage: how many there are in one byte, and each in turn
unfoldable pub fields_bytes : List Field → List ℕ
fields_bytes fields = length fields ∷ flat_map field_bytes fields

-- a signature: the name of the coverage, its domain and its fields
unfoldable pub signature_bytes : Signature → List ℕ
signature_bytes s = name_bytes s.name ++ (domain_bytes s.domain ++ fields_bytes s.fields)

-- a catalogue: how many coverages there are in 32 bits, and each signature in turn
unfoldable pub catalogue_bytes : List Signature → List ℕ
catalogue_bytes signatures = little_bytes 4 (length signatures) ++ flat_map signature_bytes signatures
