-- Behind its head the message is refused, cut short by the end or a fault, or whole with a body of its length.
use Rattle.std.proofs.Common.{◌≡◌, ◌||◌, [], true, Ok, Err, refl, sym, ap, ◌∙◌, subst, inl, inr}
use Rattle.std.specs.Prelude.{◌==◌}
use Rattle.std.proofs.KnownBytes.{Consumes-nil}
use Rattle.arr_core.specs.declared.refusal.Refusal.TheVariants.{BadHead}
use Rattle.http_front.specs.Head.{framing, asked_by, asked_at, is_bare}
use Rattle.http_front.specs.Stream.{bad_head, item_of, refusal_item, Shows}
use Rattle.http_front.proofs.BodyLemmas.{some_bytes, noted_bare, whole_body, whole_refused, cut_short, found_as, told_as, framing_within, within_limits, part_of_body, held_within}
use Rattle.http_front.proofs.message.take_message.Goals as goal

pub returns-in-Err-clause-found : goal.returns-in-Err-clause-found
returns-in-Err-clause-found g c =
    let x = c.requires in
    let framed : framing x.h ≡ Err c.in-Err.refusal = sym x.framed ∙ c.in-Err.is in
    let whole = whole_refused x [] _ _ _ c.held.ensures.fits framed c.discard.ensures refl in
    let item = refusal_item c.in-Err.refusal (is_bare x.h) in
    ([], Consumes-nil _, (item, inl whole, (c.in-Err.refusal, c.number.ensures.number, inl refl), refl, x.bare), held_within _ c.held.ensures.fits)

pub returns-in-Short-clause-found : goal.returns-in-Short-clause-found
returns-in-Short-clause-found g c =
    let x = c.requires in
    let framed : framing x.h ≡ Ok c.in-Ok.len = sym x.framed ∙ c.in-Ok.is in
    let t = c.in-Short.ensures.bytes in
    let none = cut_short x t.0 _ _ framed c.discard-2.ensures t.3 in
    let cut = inr (inr (refl, some_bytes x t.0, t.2, none, noted_bare x t.0 c.held.ensures.fits)) in
    let few = within_limits _ t.0 _ c.held.ensures.fits (framing_within x.h _ framed) (part_of_body _ t.0 _ t.3) in
    (t.0, t.1, (bad_head c.args.head.bare, cut, (BadHead, c.number-in-Short.ensures.number, inl refl), refl, refl), few)

pub returns-in-Cut-clause-found : goal.returns-in-Cut-clause-found
returns-in-Cut-clause-found g c =
    let x = c.requires in
    let framed : framing x.h ≡ Ok c.in-Ok.len = sym x.framed ∙ c.in-Ok.is in
    let t = c.in-Cut.ensures.bytes in
    let few = within_limits _ t.0 _ c.held.ensures.fits (framing_within x.h _ framed) (part_of_body _ t.0 _ t.2) in
    (t.0, t.1, (cut_short x t.0 _ _ framed c.discard-2.ensures t.2, refl), few)

pub returns-in-Dropped-clause-found : goal.returns-in-Dropped-clause-found
returns-in-Dropped-clause-found g c =
    let x = c.requires in
    let framed : framing x.h ≡ Ok c.in-Ok.len = sym x.framed ∙ c.in-Ok.is in
    let t = c.in-Dropped.ensures.bytes in
    let n = c.args.number in
    let shows : Shows (asked_by x.h t.2) c.prepare-prepared.result =
    subst (λ a. Shows a c.prepare-prepared.result) (ap (λ b. asked_at b c.args.head.asked t.2) c.held.ensures.value ∙ x.asked t.2)
    (c.prepare-prepared.ensures t.2) in
    let whole = whole_body x t.0 n _ _ t.2 _ c.held.ensures.fits framed c.discard-2.ensures t.3 t.4 in
    let over = c.either-over.ensures ∙ ap (λ b. b || (n == 999)) x.last in (
      t.0,
      t.1,
      found_as n _ _ _ (item_of n x.h t.2) _ _ _ (inl whole) shows over x.bare,
      within_limits _ t.0 _ c.held.ensures.fits (framing_within x.h _ framed) t.5,
    )

pub returns-in-Kept-clause-found : goal.returns-in-Kept-clause-found
returns-in-Kept-clause-found g c =
    let x = c.requires in
    let framed : framing x.h ≡ Ok c.in-Ok.len = sym x.framed ∙ c.in-Ok.is in
    let t = c.in-Kept.ensures.bytes in
    let body = c.in-Kept.body.items in
    let n = c.args.number in
    let shows : Shows (asked_by x.h body) c.prepare-prepared.result =
    subst (λ a. Shows a c.prepare-prepared.result) (ap (λ b. asked_at b c.args.head.asked body) c.held.ensures.value ∙ x.asked body)
    (c.prepare-prepared.ensures body) in
    let asks : c.is_body-keep.result ≡ true → asked_by x.h body ≡ Ok body =
    λ k. sym (x.asked body) ∙ ap (λ a. asked_at c.args.buffer.now a body) (c.is_body-keep.ensures k) in
    let whole = whole_body x t.0 n _ _ body _ c.held.ensures.fits framed c.discard-2.ensures t.2 t.3 in
    let over = c.either-over.ensures ∙ ap (λ b. b || (n == 999)) x.last in
    let chosen = c.chosen.ensures (asked_by x.h body) asks shows in (
      t.0,
      t.1,
      found_as n _ _ _ (item_of n x.h body) _ _ _ (inl whole) chosen over x.bare,
      within_limits _ t.0 _ c.held.ensures.fits (framing_within x.h _ framed) t.4,
    )

pub returns-in-Dropped-clause-told : goal.returns-in-Dropped-clause-told
returns-in-Dropped-clause-told g c = told_as (g.S.Source.view c.args.source.now) (g.S.Source.view c.take_body.new.source) _ c.prepare-prepared.result (c.prepare-prepared.ensures []) c.in-Dropped.ensures.told

pub returns-in-Kept-clause-told : goal.returns-in-Kept-clause-told
returns-in-Kept-clause-told g c =
    let x = c.requires in
    let body = c.in-Kept.body.items in
    let shows : Shows (asked_by x.h body) c.prepare-prepared.result =
    subst (λ a. Shows a c.prepare-prepared.result) (ap (λ b. asked_at b c.args.head.asked body) c.held.ensures.value ∙ x.asked body)
    (c.prepare-prepared.ensures body) in
    let asks : c.is_body-keep.result ≡ true → asked_by x.h body ≡ Ok body =
    λ k. sym (x.asked body) ∙ ap (λ a. asked_at c.args.buffer.now a body) (c.is_body-keep.ensures k) in
    told_as (g.S.Source.view c.args.source.now) (g.S.Source.view c.take_body.new.source) _ c.chosen.result (c.chosen.ensures (asked_by x.h body) asks shows) c.in-Kept.ensures.told
