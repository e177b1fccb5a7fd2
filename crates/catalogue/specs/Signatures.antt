-- Catalogues: the signatures of the coverages that are held, in the order of their insertion.
use Rattle.std.specs.Prelude.{◌≡◌, ℕ, ◌<◌, ◌≤◌, List, [], length, map, filter, find, not, All, Contains, Option, FitsSigned}
use Rattle.std.specs.Int.{w32}
use Rattle.std.specs.Str.{bytes_eq}
use Rattle.arr_core.specs.declared.domain.Axis.{Axis}
use Rattle.arr_core.specs.declared.field.Field.{Field}
use Rattle.arr_core.specs.declared.signature.Signature.{Signature}
use Rattle.arr_core.specs.Names.{IsName, AreDistinct}
use Rattle.arr_core.specs.Domains.{IsDomain}
use Rattle.arr_core.specs.Fields.{AreFields, IsField}
use Rattle.arr_core.specs.Limits.{max_coverages}
use Rattle.file_bytes.specs.declared.form.Version.{Version}
use Rattle.file_bytes.specs.declared.form.Version.TheVariants.{One, Two}
use Rattle.catalogue.specs.declared.error.InsertError.{InsertError}
use Rattle.catalogue.specs.declared.error.InsertError.TheVariants.{CoverageExists, BadDomain, BadField, TooManyCoverages, NoMemory}

-- an axis: its name, and bounds of 32 bits
pub record IsAxis (a : Axis) : Type 0 where
  pub named : IsName a.name
  pub low : FitsSigned w32 a.lo
  pub high : FitsSigned w32 a.hi

-- the domain of a coverage: at least one axis
pub record IsCoverageDomain (axes : List Axis) : Type 0 where
  pub some : 1 ≤ length axes
  pub each : All IsAxis axes
  pub domain : IsDomain axes

-- the fields of a coverage
pub record AreCoverageFields (fields : List Field) : Type 0 where
  pub each : All IsField fields
  pub sound : AreFields fields

-- what is told of a coverage: its name, a domain with at least one axis, and 1 to 16 fields with names of their own
pub record IsSignature (s : Signature) : Type 0 where
  pub named : IsName s.name
  pub domain : IsCoverageDomain s.domain
  pub fields : AreCoverageFields s.fields

-- the names of the coverages
abbrev pub names_of : List Signature → List (List ℕ)
names_of signatures = map (λ (s : Signature). s.name) signatures

-- a catalogue: at most 1,024 signatures, each with a name of its own
pub record IsCatalogue (signatures : List Signature) : Type 0 where
  pub few : length signatures ≤ max_coverages
  pub each : All IsSignature signatures
  pub distinct : AreDistinct (names_of signatures)

-- the most axes of a domain in a file of version 1
abbrev pub max_axes_of_one : ℕ
max_axes_of_one = 4

-- the domains of a file of version 1 have few axes
abbrev pub HaveAxesOf : Version → List Signature → Type 0
HaveAxesOf One signatures = All (λ (s : Signature). length s.domain ≤ max_axes_of_one) signatures
HaveAxesOf Two signatures = Unit {0}

-- the signature with a name
abbrev pub listed : List ℕ → List Signature → Option Signature
listed name signatures = find (λ (s : Signature). bytes_eq s.name name) signatures

-- the signatures without the one with a name; the others keep their order
abbrev pub without : List ℕ → List Signature → List Signature
without name signatures = filter (λ (s : Signature). not (bytes_eq s.name name)) signatures

-- What an insertion asks, in this order: that the name is new, that the domain has an axis, that the
-- fields are 1 to 16 with names of their own, and that fewer than 1,024 coverages are held.
pub record MayInsert (held : List Signature) (s : Signature) : Type 0 where
  pub fresh : ¬ Contains (names_of held) s.name
  pub axes : 1 ≤ length s.domain
  pub fields : AreFields s.fields
  pub room : length held < max_coverages

-- why a signature is refused: the first that is not met of what an insertion asks. Want of memory is
-- told only where all of it is met.
abbrev pub IsRefused : List Signature → Signature → InsertError → Type 0
IsRefused held s CoverageExists = Contains (names_of held) s.name
IsRefused held s BadDomain = (¬ Contains (names_of held) s.name) × (s.domain ≡ [])
IsRefused held s BadField = (¬ Contains (names_of held) s.name) × (1 ≤ length s.domain) × (¬ AreFields s.fields)
IsRefused held s TooManyCoverages =
    (¬ Contains (names_of held) s.name) × (1 ≤ length s.domain) × AreFields s.fields × (max_coverages ≤ length held)
IsRefused held s NoMemory = MayInsert held s
