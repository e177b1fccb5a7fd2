-- Variables: iterators and coverages.
use Rattle.std.specs.Prelude.{ℕ, ◌+◌, List, [], ◌∷◌, false, map, Option, Some, None, slice_get, Ok, Err}
use Rattle.std.specs.Borrow.{Bor}
use Rattle.arr_core.specs.declared.field.Field.{Field}
use Rattle.arr_core.specs.declared.signature.Signature.{Signature}
use Rattle.wcps_types.specs.declared.refusal.TypeRefusal.TheVariants.{UnknownName}
use Rattle.wcps_types.specs.declared.bound.Bound.{Bound}
use Rattle.wcps_types.specs.Typed.{iterator, cell}
use Rattle.wcps_types.specs.Names.{bound_place, name_place}
use Rattle.arr_core.specs.Cells.{is_bool}
pub use Rattle.wcps_types.specs.Labels.{label_of}
use Rattle.wcps_types.specs.Shapes.{SlotTree, ShapeTree, Answer, unnamed}

-- the signatures that references point to
abbrev pub signatures_in : List (Bor Signature) → List Signature
signatures_in coverages = map (λ (s : Bor Signature). s.now) coverages

-- the fields of the coverage at place c, from that of place k on
abbrev pub cells_from : ℕ → ℕ → List Field → List SlotTree
cells_from c k [] = []
cells_from c k (f ∷ fields) = record { name = Some f.name; boolean = is_bool f.kind; tree = cell c k } ∷ cells_from c
    (k + 1) fields

abbrev pub coverage_at : ℕ → Option Signature → Answer ShapeTree
coverage_at c None = Err UnknownName
coverage_at c (Some s) = Ok (record { domain = s.domain; fields = cells_from c 0 s.fields })

abbrev pub bound_at : List Signature → Option Bound → Answer ShapeTree
bound_at cs None = Err UnknownName
bound_at cs (Some b) = coverage_at b.coverage (slice_get cs b.coverage)

abbrev pub bound_of : List Signature → List Bound → Option ℕ → Answer ShapeTree
bound_of cs bound None = Err UnknownName
bound_of cs bound (Some k) = bound_at cs (slice_get bound k)

abbrev pub iterator_or : Option ℕ → Answer ShapeTree → Answer ShapeTree
iterator_or (Some level) a = Ok (unnamed [] false (iterator level))
iterator_or None a = a

-- an iterator in scope is an integer scalar; else a variable of the `for` list is its coverage
abbrev pub variable : List Signature → List Bound → List (List ℕ) → List ℕ → Answer ShapeTree
variable cs bound scope name = iterator_or (name_place name scope) (bound_of cs bound (bound_place name bound))
