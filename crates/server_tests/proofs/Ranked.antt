-- What is true of the domain of a signature that a number reads is true of that of the coverage at its place.
use Rattle.std.proofs.Common.{◌≡◌, ℕ, List, Option, Some, None, sym, ap, ◌∙◌, subst}
use Rattle.std.specs.Prelude.{IsSomeAnd, slice_get, option_map}
use Rattle.std.proofs.lemmas.Option.{none-some, same_Some}
use Rattle.arr_core.specs.declared.domain.Axis.{Axis}
use Rattle.arr_core.specs.declared.signature.Signature.{Signature}
use Rattle.arr_core.specs.Stores.{Coverage, found}
use Rattle.raster_store.specs.Calls.{signature_in, signature_of}
use Rattle.raster_store.specs.Fetches.{IsPlaceOf}
use Rattle.raster_store.specs.Views.{RasterView}

-- of a coverage that the signature is of
of_coverage : (c f : Option Coverage) (s : Signature) (P : List Axis → Type 0) → f ≡ c
    → Some s ≡ option_map signature_of f → P s.domain → IsSomeAnd c (λ (x : Coverage). P x.domain)
of_coverage None f s P is told fact = absurd (none-some s (sym (told ∙ ap (λ (o : Option Coverage). option_map signature_of o) is)))
of_coverage (Some x) f s P is told fact =
    let same : s ≡ signature_of x = same_Some s (signature_of x) (told ∙ ap (λ (o : Option Coverage). option_map signature_of o) is) in
    subst (λ (t : Signature). P t.domain) same fact

-- and of the coverage at a place that a number reads
pub at_place : {B : Type 0} (o : Option (RasterView B)) (name : List ℕ) (place : ℕ) (s : Signature) (P : List Axis → Type 0)
    → IsSomeAnd o (λ (v : RasterView B). IsPlaceOf name v.coverages place)
    → IsSomeAnd o (λ (v : RasterView B). Some s ≡ signature_in name v.coverages)
    → P s.domain
    → IsSomeAnd o (λ (v : RasterView B). IsSomeAnd (slice_get v.coverages place) (λ (c : Coverage). P c.domain))
at_place None name place s P is told fact = absurd is
at_place (Some v) name place s P is told fact =
    of_coverage (slice_get v.coverages place) (found name v.coverages) s P is.1 told fact
