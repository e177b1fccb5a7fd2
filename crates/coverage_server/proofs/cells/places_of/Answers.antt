-- Each coverage is found under its name, at a place where it has the signature that is asked for.
use Rattle.std.proofs.Common.{◌≡◌, ◌<◌, ◌≤◌, ◌∷◌, [], ◌++◌, ◌+◌, List, length, take, Some, refl, sym, ap, ◌∙◌, subst, arith}
use Rattle.std.specs.Prelude.{slice_get}
use Rattle.std.proofs.lemmas.List.{take_all, take_more}
use Rattle.std.proofs.lemmas.Option.{slice_get_read, get_or_from_slice_get}
use Rattle.arr_core.specs.declared.signature.Signature.{Signature}
use Rattle.arr_core.specs.Domains.{IsDomain}
use Rattle.coverage_server.specs.Tiles.{ArePlaces, HaveDomains, store_for}
use Rattle.coverage_server.proofs.ListLemmas.{all_more}
use Rattle.coverage_server.proofs.TileLemmas.{are_read, place_more}
use Rattle.coverage_server.proofs.cells.places_of.Goals as goal

pub loop-signature-preserved : goal.loop-signature-preserved
loop-signature-preserved g c =
    let signatures = c.args.signatures.now in
    let store = store_for c.args.job c.args.coverages.now in
    let i = c.loop-signature.signature-index in
    let s = c.signature-item.result in
    let within : i < length signatures = omega arith in
    let at : slice_get signatures i ≡ Some s = slice_get_read signatures (length signatures) i s refl within c.signature-item.is in
    let whole : take i signatures ++ s ∷ [] ≡ take (i + 1) signatures =
    sym (take_more signatures i s within ∙ ap (λ (t : Signature). take i signatures ++ t ∷ []) (get_or_from_slice_get signatures i s s at)) in
    record {
      places = rw c.in_ok-push.ensures.items
          (subst (λ (l : List Signature). ArePlaces store l (c.loop-signature.places.items ++ c.in-Some.place ∷ [])) whole
          (place_more store (take i signatures) c.loop-signature.places.items s c.in-Some.place c.loop-signature.invariant.places c.in-Some.ensures.some));
      domains = all_more (λ (t : Signature). IsDomain t.domain) signatures i s within at c.loop-signature.invariant.domains c.axes-axes.ensures.domain;
    }

pub returns : goal.returns
returns g c =
    let signatures = c.args.signatures.now in
    let store = store_for c.args.job c.args.coverages.now in
    let all : length signatures ≤ c.loop-signature.signature-index = omega arith in
    let whole = take_all c.loop-signature.signature-index signatures all in
    are_read store signatures c.loop-signature.places.items (subst (λ (l : List Signature). ArePlaces store l c.loop-signature.places.items) whole c.loop-signature.invariant.places) c.requires.held
    (subst HaveDomains whole c.loop-signature.invariant.domains)
