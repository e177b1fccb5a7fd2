-- A box of a field that is there is written or refused as the machine has it.
use Rattle.std.proofs.Common.{◌≡◌, List, refl, ap, ◌∙◌, subst, inl}
use Rattle.std.proofs.lemmas.Result.{err_from_is_err_and}
use Rattle.arr_core.specs.declared.domain.Axis.{Axis}
use Rattle.arr_core.specs.Stores.{updated}
use Rattle.kvp_front.specs.Contents.{content_view}
use Rattle.coverage_server.specs.Growing.{GrowsToWrite}
use Rattle.coverage_server.specs.Layouts.{LaysBox, layout_of}
use Rattle.coverage_server.specs.Machine.{SpellDomain, axes_of}
use Rattle.coverage_server.specs.Room.{numbers_of}
use Rattle.coverage_server.specs.Writing.{MayWrite, WriteRefused}
use Rattle.coverage_server.proofs.FreeLemmas.{unchanged, none_changed, same_kept}
use Rattle.coverage_server.proofs.GrowthLemmas.{grows_update}
use Rattle.coverage_server.proofs.ListLemmas.{position_within}
use Rattle.coverage_server.proofs.MachineLemmas.{at_field}
use Rattle.coverage_server.proofs.UpdateLemmas.{has_field, area_refused, lays_update, write_answered, write_done}
use Rattle.coverage_server.proofs.ToldLemmas.{told_as, told_done, told_none, told_refused}
use Rattle.coverage_server.proofs.requests.update.Goals as goal

pub write-requires : goal.write-requires
write-requires g c =
    let u = c.args.update.now in
    let x = c.in-Some.ensures in
    let place = at_field u.field c.as_str.result.now x.0 c.in-Some.signature.now c.in-Some-place_of.field c.as_str.ensures.value x.2 c.in-Some-place_of.ensures in
    record { field = has_field u.coverage c.args.coverages.now.store x.0 x.1 c.in-Some-place_of.field (position_within _ x.0.fields c.in-Some-place_of.field place) }

pub returns-in_err-area-clause-answered : goal.returns-in_err-area-clause-answered
returns-in_err-area-clause-answered g c =
    let u = c.args.update.now in
    let v = c.args.coverages.now in
    let x = c.in-Some.ensures in
    let place = at_field u.field c.as_str.result.now x.0 c.in-Some.signature.now c.in-Some-place_of.field c.as_str.ensures.value x.2 c.in-Some-place_of.ensures in
    let p = err_from_is_err_and c.from_residual.result c.from_residual.ensures.1 in
    rw (p.1, p.2)
    (area_refused v u.coverage u.field u.intervals.items (content_view u.content) x.0 x.1 c.in-Some-place_of.field place c.in_err-area.field-0.0 c.deref.result.now c.deref.ensures.value c.in_err-area.ensures.err)

pub returns-in_err-write-clause-answered : goal.returns-in_err-write-clause-answered
returns-in_err-write-clause-answered g c =
    let u = c.args.update.now in
    let v = c.args.coverages.now in
    let x = c.in-Some.ensures in
    let k = c.in-Some-place_of.field in
    let place = at_field u.field c.as_str.result.now x.0 c.in-Some.signature.now k c.as_str.ensures.value x.2 c.in-Some-place_of.ensures in
    let spelled : SpellDomain u.intervals.items = subst SpellDomain c.deref.ensures.value c.in_ok-area.ensures.ok.0 in
    let area : c.in_ok-area.area ≡ axes_of u.intervals.items = c.in_ok-area.ensures.ok.1 ∙ ap axes_of c.deref.ensures.value in
    let p = err_from_is_err_and c.from_residual-in_err-write.result c.from_residual-in_err-write.ensures.1 in
    rw (p.1, p.2)
    (write_answered v c.write.new.self u.coverage u.field u.intervals.items (content_view u.content) x.0 x.1 k place spelled c.in_err-write.field-0.0
    (subst (λ (a : List Axis). WriteRefused u.coverage k a (content_view u.content) v c.in_err-write.field-0.0) area c.in_err-write.ensures.refused)
    c.in_err-write.ensures.told.told c.in_err-write.ensures.unchanged)

pub returns-clause-answered : goal.returns-clause-answered
returns-clause-answered g c =
    let u = c.args.update.now in
    let v = c.args.coverages.now in
    let x = c.in-Some.ensures in
    let k = c.in-Some-place_of.field in
    let place = at_field u.field c.as_str.result.now x.0 c.in-Some.signature.now k c.as_str.ensures.value x.2 c.in-Some-place_of.ensures in
    let spelled : SpellDomain u.intervals.items = subst SpellDomain c.deref.ensures.value c.in_ok-area.ensures.ok.0 in
    let area : c.in_ok-area.area ≡ axes_of u.intervals.items = c.in_ok-area.ensures.ok.1 ∙ ap axes_of c.deref.ensures.value in
    write_done v c.write.new.self u.coverage u.field u.intervals.items (content_view u.content) x.0 x.1 k place spelled c.in_ok-reply.reply c.in_ok-reply.ensures.ok
    (subst (λ (a : List Axis). MayWrite u.coverage k a (content_view u.content) v.store) area c.in_ok-write.ensures.done.may)
    (λ honest. subst (λ (a : List Axis). c.write.new.self.store ≡ updated u.coverage k a (numbers_of a (content_view u.content)) v.store) area (c.in_ok-write.ensures.done.written honest))

pub returns-in_default-clause-unchanged : goal.returns-in_default-clause-unchanged
returns-in_default-clause-unchanged g c = unchanged c.args.coverages.now c.args.coverages.now refl

pub returns-in_default-clause-held : goal.returns-in_default-clause-held
returns-in_default-clause-held g c = same_kept c.args.coverages.now c.args.coverages.now refl

pub returns-in_default-place_of-clause-unchanged : goal.returns-in_default-place_of-clause-unchanged
returns-in_default-place_of-clause-unchanged g c = unchanged c.args.coverages.now c.args.coverages.now refl

pub returns-in_default-place_of-clause-held : goal.returns-in_default-place_of-clause-held
returns-in_default-place_of-clause-held g c = same_kept c.args.coverages.now c.args.coverages.now refl

pub returns-in_err-area-clause-unchanged : goal.returns-in_err-area-clause-unchanged
returns-in_err-area-clause-unchanged g c = none_changed _ c.args.coverages.now c.args.coverages.now refl

pub returns-in_err-area-clause-held : goal.returns-in_err-area-clause-held
returns-in_err-area-clause-held g c = same_kept c.args.coverages.now c.args.coverages.now refl

pub returns-in_err-reply-clause-unchanged : goal.returns-in_err-reply-clause-unchanged
returns-in_err-reply-clause-unchanged g c = none_changed _ c.args.coverages.now c.args.coverages.now refl

pub returns-in_err-reply-clause-held : goal.returns-in_err-reply-clause-held
returns-in_err-reply-clause-held g c = same_kept c.args.coverages.now c.args.coverages.now refl

pub returns-clause-lays : goal.returns-clause-lays
returns-clause-lays g c =
    let u = c.args.update.now in
    let v = c.args.coverages.now in
    let w = c.write.new.self in
    let x = c.in-Some.ensures in
    let k = c.in-Some-place_of.field in
    let place = at_field u.field c.as_str.result.now x.0 c.in-Some.signature.now k c.as_str.ensures.value x.2
    c.in-Some-place_of.ensures in
    let area : c.in_ok-area.area ≡ axes_of u.intervals.items = c.in_ok-area.ensures.ok.1 ∙ ap axes_of
    c.deref.ensures.value in
    λ sure. lays_update v w u.coverage u.field u.intervals.items x.0 x.1 k place
    (subst (λ (a : List Axis). LaysBox u.coverage k a v.store w.store (layout_of v) (layout_of w)) area
    (c.in_ok-write.ensures.done.lays sure))

pub returns-in_default-clause-told : goal.returns-in_default-clause-told
returns-in_default-clause-told g c = told_none _ _ _ (λ f. absurd cc) refl

pub returns-in_default-place_of-clause-told : goal.returns-in_default-place_of-clause-told
returns-in_default-place_of-clause-told g c = told_none _ _ _ (λ f. absurd cc) refl

pub returns-in_err-area-clause-told : goal.returns-in_err-area-clause-told
returns-in_err-area-clause-told g c =
    let p = err_from_is_err_and c.from_residual.result c.from_residual.ensures.1 in
    rw (p.1, p.2) (told_refused _ _ c.in_err-area.field-0.0 _ c.in_err-area.ensures.err)

pub returns-in_err-reply-clause-told : goal.returns-in_err-reply-clause-told
returns-in_err-reply-clause-told g c =
    let p = err_from_is_err_and c.from_residual-in_err-reply.result c.from_residual-in_err-reply.ensures.1 in
    rw (p.1, p.2) (told_none _ _ _ (λ f. absurd cc) refl)

pub returns-in_err-write-clause-told : goal.returns-in_err-write-clause-told
returns-in_err-write-clause-told g c =
    let p = err_from_is_err_and c.from_residual-in_err-write.result c.from_residual-in_err-write.ensures.1 in
    rw (p.1, p.2) (told_as c.in_err-write.field-0.0 _ _ c.in_err-write.ensures.told)

pub returns-clause-told : goal.returns-clause-told
returns-clause-told g c = told_done _ _ _ (c.in_ok-write.ensures.told.quiet (λ f. absurd cc))

pub returns-in_default-clause-grows : goal.returns-in_default-clause-grows
returns-in_default-clause-grows g c = inl refl

pub returns-in_default-place_of-clause-grows : goal.returns-in_default-place_of-clause-grows
returns-in_default-place_of-clause-grows g c = inl refl

pub returns-in_err-area-clause-grows : goal.returns-in_err-area-clause-grows
returns-in_err-area-clause-grows g c = inl refl

pub returns-in_err-reply-clause-grows : goal.returns-in_err-reply-clause-grows
returns-in_err-reply-clause-grows g c = inl refl

pub returns-in_err-write-clause-grows : goal.returns-in_err-write-clause-grows
returns-in_err-write-clause-grows g c =
    let u = c.args.update.now in
    let v = c.args.coverages.now in
    let w = c.write.new.self in
    let x = c.in-Some.ensures in
    let k = c.in-Some-place_of.field in
    let place = at_field u.field c.as_str.result.now x.0 c.in-Some.signature.now k c.as_str.ensures.value x.2 c.in-Some-place_of.ensures in
    let area : c.in_ok-area.area ≡ axes_of u.intervals.items = c.in_ok-area.ensures.ok.1 ∙ ap axes_of c.deref.ensures.value in
    grows_update v w u.coverage u.field u.intervals.items (content_view u.content) x.0 x.1 k place
    (subst (λ (a : List Axis). GrowsToWrite u.coverage k a (content_view u.content) v w) area c.in_err-write.ensures.grows)

pub returns-clause-grows : goal.returns-clause-grows
returns-clause-grows g c =
    let u = c.args.update.now in
    let v = c.args.coverages.now in
    let w = c.write.new.self in
    let x = c.in-Some.ensures in
    let k = c.in-Some-place_of.field in
    let place = at_field u.field c.as_str.result.now x.0 c.in-Some.signature.now k c.as_str.ensures.value x.2 c.in-Some-place_of.ensures in
    let area : c.in_ok-area.area ≡ axes_of u.intervals.items = c.in_ok-area.ensures.ok.1 ∙ ap axes_of c.deref.ensures.value in
    grows_update v w u.coverage u.field u.intervals.items (content_view u.content) x.0 x.1 k place
    (subst (λ (a : List Axis). GrowsToWrite u.coverage k a (content_view u.content) v w) area c.in_ok-write.ensures.grows)
