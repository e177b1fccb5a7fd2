-- What is known of a store that has one coverage.
use Rattle.std.proofs.Common.{◌≡◌, [], ◌∷◌, map, true, sym, ap, subst}
use Rattle.std.specs.Prelude.{IsSomeAnd}
use Rattle.std.specs.Str.{bytes_eq}
use Rattle.std.proofs.lemmas.Slice.Eq.{bytes_eq-Decides}
use Rattle.arr_core.specs.declared.signature.Signature.{Signature}
use Rattle.arr_core.specs.Stores.{Store, found}
use Rattle.raster_store.specs.Calls.{signature_of}

-- a property of its signature is one of the coverage that is found by its name
pub alone : (s : Signature) (coverages : Store) (P : Signature → Type 0) → map signature_of coverages ≡ s ∷ [] → P s → IsSomeAnd (found s.name coverages) (λ c. P (signature_of c))
alone s [] P is has = absurd (let e : [] ≡ s ∷ [] = is in cc)
alone s (c ∷ []) P is has =
    let same : signature_of c ≡ s = cc in
    let test : bytes_eq c.name s.name ≡ true = (bytes_eq-Decides c.name s.name).1 (ap (λ (x : Signature). x.name) same) in
    rw test (subst P (sym same) has)
alone s (c ∷ d ∷ coverages) P is has = absurd (let e : signature_of c ∷ signature_of d ∷ map signature_of coverages ≡ s ∷ [] = is in cc)
