-- Signatures that are put into a catalogue one by one: the next of them.
use Rattle.std.proofs.Common.{◌≡◌, ◌<◌, List, [], ◌∷◌, ◌++◌, length, All, Contains, arith, inl, inr, ap, length-append}
use Rattle.std.proofs.lemmas.List.{map-append}
use Rattle.std.proofs.lemmas.List.Elements.{All-contains, Contains-append_right}
use Rattle.arr_core.specs.declared.signature.Signature.{Signature}
use Rattle.arr_core.specs.Names.{AreDistinct}
use Rattle.catalogue.specs.Signatures.{names_of, IsSignature, IsCatalogue}
use Rattle.catalogue.proofs.Held.{contains_here, contains_cases, nothing_in_nil}

-- no name stands twice in a catalogue
twice : (held rest : List Signature) (s : Signature) → Contains (names_of held) s.name → ¬ AreDistinct (names_of (held ++ s ∷ rest))
twice [] rest s c d = nothing_in_nil s.name c
twice (x ∷ held) rest s c d =
    elim (contains_cases x.name (names_of held) s.name c) [
      | inl same ↦
          d.0 (rw (same, map-append (λ (t : Signature). t.name) held (s ∷ rest))
          (Contains-append_right (names_of held) _ s.name (contains_here s.name (names_of rest))))
      | inr later ↦ twice held rest s later d.1
    ]

module _ (held rest : List Signature) (s : Signature) {all : List Signature} (front : held ++ s ∷ rest ≡ all) where
  pub next-valid : All IsSignature all → IsSignature s
  next-valid each = All-contains IsSignature all s each (rw (← front) (Contains-append_right held (s ∷ rest) s (contains_here s rest)))

  pub next-room : length held < length all
  next-room = omega (arith, ap length front, length-append held (s ∷ rest))

  pub next-fresh : Contains (names_of held) s.name → ¬ IsCatalogue all
  next-fresh there c = twice held rest s there (rw (← front) at c.distinct)
