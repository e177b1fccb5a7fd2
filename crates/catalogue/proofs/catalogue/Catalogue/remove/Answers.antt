-- The signature with the name is gone with its bytes, and the others keep their order.
use Rattle.std.proofs.Common.{sym, ap, ◌∙◌, arith, is_some, true≢false}
use Rattle.catalogue.proofs.Held.{holds, sound, view-removed, length-removed, held-removed}
use Rattle.catalogue.proofs.catalogue.Catalogue.remove.Goals as goal

pub signature_len-requires : goal.signature_len-requires
signature_len-requires c =
    let s = sound c.self.invariant c.self.view_is c.as_str.ensures.value c.in-Some.ensures.value in
    record { axes = s.domain.some; fields = s.fields.sound }

pub overflow_sub-self : goal.overflow_sub-self
overflow_sub-self c =
    omega (arith, length-removed c.self.invariant c.self.view_is c.as_str.ensures.value c.in-Some.ensures.value)

pub invariant_of-self : goal.invariant_of-self
invariant_of-self c =
    rw c.signature_len.ensures.value
    (held-removed c.self.invariant c.self.view_is c.as_str.ensures.value c.in-Some.ensures.value c.in-Some.ensures.entries)

pub returns-in-Some-clause-removed : goal.returns-in-Some-clause-removed
returns-in-Some-clause-removed c =
    view-removed c.self.invariant c.self.view_is c.as_str.ensures.value c.in-Some.ensures.value c.in-Some.ensures.entries

pub returns-in-Some-clause-held : goal.returns-in-Some-clause-held
returns-in-Some-clause-held c =
    (holds c.self.invariant c.self.view_is c.as_str.ensures.value).0 (ap is_some (sym c.in-Some.ensures.value))

pub returns-in-None-clause-absent : goal.returns-in-None-clause-absent
returns-in-None-clause-absent c = λ there.
    true≢false
    (sym ((holds c.self.invariant c.self.view_is c.as_str.ensures.value).1 there) ∙ ap is_some (sym c.in-None.ensures.value))
