-- The signatures so far, followed by those of the places that are left, are those of all places; where no coverage is
-- at a place nothing comes.
use Rattle.std.proofs.Common.{◌≡◌, ◌+◌, ◌++◌, ◌∷◌, [], drop, get_or, ap, sym, ◌∙◌, rules, append-nil}
use Rattle.std.specs.Prelude.{slice_get, Some, None}
use Rattle.std.specs.Borrow.{Bor}
use Rattle.std.proofs.lemmas.List.{map-append}
use Rattle.std.proofs.lemmas.Option.{slice_get_read, slice_get_past}
use Rattle.arr_core.specs.declared.signature.Signature.{Signature}
use Rattle.wcps_types.specs.Variables.{signatures_in}
use Rattle.wcps_types.specs.Sharing.{with_signature, signatures_at}
use Rattle.wcps_types.proofs.LikeTrees.{signature-next}
use Rattle.wcps_types.proofs.sharing.signatures_at.Goals as goal

pub loop-place-preserved-in_default : goal.loop-place-preserved-in_default
loop-place-preserved-in_default c =
    let cs = c.args.coverages.now in
    let ps = c.args.places.now in
    let i = c.loop-place.place-index in
    let done = signatures_in c.loop-place.signatures.items in
    let more = signatures_at cs (drop (i + 1) ps) in
    let none : slice_get cs (get_or ps i 0) ≡ None = search (rules, slice_get_past) in
    let put : done ≡ done ++ with_signature (slice_get cs (get_or ps i 0)) [] = rw none (sym (append-nil done)) in
    ap (λ items. items ++ more) put ∙ signature-next cs ps i done c.loop-place-test.true ∙ c.loop-place.invariant

pub loop-place-preserved : goal.loop-place-preserved
loop-place-preserved c =
    let cs = c.args.coverages.now in
    let ps = c.args.places.now in
    let i = c.loop-place.place-index in
    let before = c.loop-place.signatures.items in
    let done = signatures_in before in
    let more = signatures_at cs (drop (i + 1) ps) in
    let got : slice_get cs (get_or ps i 0) ≡ Some c.in-Some.signature.now = search (rules, slice_get_read) in
    let pushed : c.push.new.self.items ≡ before ++ c.in-Some.signature ∷ [] = search rules in
    let put : signatures_in c.push.new.self.items ≡ done ++ with_signature (slice_get cs (get_or ps i 0)) [] =
    ap signatures_in pushed ∙ map-append (λ (s : Bor Signature). s.now) before (c.in-Some.signature ∷ []) ∙ ap (λ o. done ++ with_signature o []) (sym got) in
    ap (λ items. items ++ more) put ∙ signature-next cs ps i done c.loop-place-test.true ∙ c.loop-place.invariant
