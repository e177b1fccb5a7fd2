-- A coverage of a new name and a spelled domain comes into the store, or is refused as the machine has it.
use Rattle.std.proofs.Common.{rules, ◌≡◌, None, refl, ap, ◌∙◌, subst}
use Rattle.std.proofs.lemmas.Result.{err_from_is_err_and}
use Rattle.arr_core.specs.declared.signature.Signature.{Signature}
use Rattle.arr_core.specs.Stores.{found, inserted}
use Rattle.catalogue.specs.Signatures.{MayInsert}
use Rattle.coverage_server.specs.Layouts.{LaysNone, layout_of}
use Rattle.coverage_server.specs.Machine.{SpellDomain, axes_of}
use Rattle.coverage_server.specs.Views.{signatures_of}
use Rattle.coverage_server.specs.Writing.{InsertRefused}
use Rattle.coverage_server.proofs.FreeLemmas.{unchanged, none_changed}
use Rattle.coverage_server.proofs.InsertLemmas.{signature_alike, insert_refused, insert_done}
use Rattle.coverage_server.proofs.WriteLemmas.{not_there}
use Rattle.coverage_server.proofs.requests.insert.Goals as goal

pub returns-in_err-insert-clause-answered : goal.returns-in_err-insert-clause-answered
returns-in_err-insert-clause-answered g c =
    let u = c.args.insertion.now in
    let v = c.args.coverages.now in
    let none : found u.coverage v.store ≡ None = not_there u.coverage v.store c.signature.result (search rules) c.signature.ensures in
    let spelled : SpellDomain u.intervals.items = subst SpellDomain c.deref.ensures.value c.in_ok-domain.ensures.ok.0 in
    let domain : c.in_ok-domain.domain ≡ axes_of u.intervals.items = c.in_ok-domain.ensures.ok.1 ∙ ap axes_of c.deref.ensures.value in
    let fields : c.in_ok-fields.fields ≡ u.fields.items = c.in_ok-fields.ensures ∙ c.deref-2.ensures.value in
    let same = signature_alike (record { name = c.in_ok-name.name; domain = c.in_ok-domain.domain; fields = c.in_ok-fields.fields }) u.coverage (axes_of u.intervals.items) u.fields.items c.in_ok-name.ensures domain fields in
    let p = err_from_is_err_and c.from_residual-in_err-insert.result c.from_residual-in_err-insert.ensures.1 in
    rw (p.1, p.2)
    (insert_refused v c.insert.new.self u.coverage u.intervals.items u.fields.items none spelled c.in_err-insert.field-0.0
    (subst (λ (s : Signature). InsertRefused v s c.in_err-insert.field-0.0) same c.in_err-insert.ensures.refused) c.in_err-insert.ensures.unchanged)

pub returns-clause-answered : goal.returns-clause-answered
returns-clause-answered g c =
    let u = c.args.insertion.now in
    let v = c.args.coverages.now in
    let none : found u.coverage v.store ≡ None = not_there u.coverage v.store c.signature.result (search rules) c.signature.ensures in
    let spelled : SpellDomain u.intervals.items = subst SpellDomain c.deref.ensures.value c.in_ok-domain.ensures.ok.0 in
    let domain : c.in_ok-domain.domain ≡ axes_of u.intervals.items = c.in_ok-domain.ensures.ok.1 ∙ ap axes_of c.deref.ensures.value in
    let fields : c.in_ok-fields.fields ≡ u.fields.items = c.in_ok-fields.ensures ∙ c.deref-2.ensures.value in
    let same = signature_alike (record { name = c.in_ok-name.name; domain = c.in_ok-domain.domain; fields = c.in_ok-fields.fields }) u.coverage (axes_of u.intervals.items) u.fields.items c.in_ok-name.ensures domain fields in
    insert_done v c.insert.new.self u.coverage u.intervals.items u.fields.items none spelled
    (subst (λ (s : Signature). MayInsert (signatures_of v.store) s) same c.in_ok-insert.ensures.inserted.may) c.in_ok-reply.reply c.in_ok-reply.ensures.ok
    (subst (λ (s : Signature). c.insert.new.self.store ≡ inserted s.name s.domain s.fields v.store) same c.in_ok-insert.ensures.inserted.inserted)

pub returns-then-is_some-clause-unchanged : goal.returns-then-is_some-clause-unchanged
returns-then-is_some-clause-unchanged g c = unchanged c.args.coverages.now c.args.coverages.now refl

pub returns-in_err-domain-clause-unchanged : goal.returns-in_err-domain-clause-unchanged
returns-in_err-domain-clause-unchanged g c = none_changed _ c.args.coverages.now c.args.coverages.now refl

pub returns-in_err-fields-clause-unchanged : goal.returns-in_err-fields-clause-unchanged
returns-in_err-fields-clause-unchanged g c = none_changed _ c.args.coverages.now c.args.coverages.now refl

pub returns-in_err-name-clause-unchanged : goal.returns-in_err-name-clause-unchanged
returns-in_err-name-clause-unchanged g c = none_changed _ c.args.coverages.now c.args.coverages.now refl

pub returns-in_err-reply-clause-unchanged : goal.returns-in_err-reply-clause-unchanged
returns-in_err-reply-clause-unchanged g c = none_changed _ c.args.coverages.now c.args.coverages.now refl

pub returns-clause-lays : goal.returns-clause-lays
returns-clause-lays g c =
    let u = c.args.insertion.now in
    let v = c.args.coverages.now in
    let domain : c.in_ok-domain.domain ≡ axes_of u.intervals.items = c.in_ok-domain.ensures.ok.1 ∙ ap axes_of
    c.deref.ensures.value in
    let fields : c.in_ok-fields.fields ≡ u.fields.items = c.in_ok-fields.ensures ∙ c.deref-2.ensures.value in
    let same = signature_alike (record
    { name = c.in_ok-name.name; domain = c.in_ok-domain.domain; fields = c.in_ok-fields.fields }) u.coverage
    (axes_of u.intervals.items) u.fields.items c.in_ok-name.ensures domain fields in
    subst (λ (s : Signature). LaysNone s (layout_of v) (layout_of c.insert.new.self)) same
    c.in_ok-insert.ensures.inserted.lays
