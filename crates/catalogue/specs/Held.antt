-- How a catalogue is held: a signature for each name, and how many bytes all of it is written in.
use Rattle.std.specs.Prelude.{◌≡◌, ℕ, List, length, map, All, String, string_bytes}
use Rattle.std.specs.declared.alloc.Global.{Global}
use Rattle.arr_core.specs.declared.signature.Signature.{Signature}
use Rattle.catalogue.specs.Signatures.{IsCatalogue}
use Rattle.catalogue.specs.Bytes.{catalogue_bytes}

-- a name and its signature
abbrev pub Entry : Type 0
Entry = String Global × Signature

abbrev pub signatures_of : List Entry → List Signature
signatures_of entries = map (λ (e : Entry). e.1) entries

-- each signature stands under its own name, they are a catalogue, and the number of its bytes is known
pub record IsHeld (entries : List Entry) (bytes : ℕ) : Type 0 where
  pub named : All (λ (e : Entry). string_bytes e.0 ≡ e.1.name) entries
  pub catalogue : IsCatalogue (signatures_of entries)
  pub counted : bytes ≡ length (catalogue_bytes (signatures_of entries))
