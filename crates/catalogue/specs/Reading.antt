-- What is read as a part of a catalogue: lists of so many values.
use Rattle.std.specs.Prelude.{◌≡◌, ℕ, List, length, flat_map, All}
use Rattle.file_bytes.specs.declared.form.Version.{Version}
use Rattle.file_bytes.specs.Codes.{IsRead}
use Rattle.arr_core.specs.declared.signature.Signature.{Signature}
use Rattle.catalogue.specs.Signatures.{IsCatalogue, HaveAxesOf}
use Rattle.catalogue.specs.Bytes.{catalogue_bytes}

-- anything
abbrev pub Any : {X : Type 0} → X → Type 0
Any x = Unit {0}

-- so many values, each of which may be written
abbrev pub AreMany : {X : Type 0} → (X → Type 0) → ℕ → List X → Type 0
AreMany is_value count xs = All is_value xs × (length xs ≡ count)

-- so many values were read, one behind the other
abbrev pub AreManyRead : {X : Type 0} → (X → Type 0) → (X → List ℕ) → ℕ → List ℕ → List X → List ℕ → Type 0
AreManyRead is_value code count bytes xs left = IsRead (AreMany is_value count) (flat_map code) bytes xs left

-- the bytes are those of no catalogue in a file of this version
abbrev pub AreOfNoCatalogue : Version → List ℕ → Type 0
AreOfNoCatalogue version bytes =
    (other : List Signature) → IsCatalogue other → HaveAxesOf version other → bytes ≡ catalogue_bytes other → ⊥

-- the bytes are those of no other catalogue
abbrev pub AreOfNoOther : List ℕ → List Signature → Type 0
AreOfNoOther bytes signatures =
    (other : List Signature) → IsCatalogue other → bytes ≡ catalogue_bytes other → other ≡ signatures
