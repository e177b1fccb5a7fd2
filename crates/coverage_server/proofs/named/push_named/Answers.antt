-- A name is found as among all: already, or by the signature that was put behind.
use Rattle.std.proofs.Common.{◌≡◌, true, List, [], ◌∷◌, ◌++◌, Some, sym, ap, ◌∙◌, subst}
use Rattle.std.specs.Prelude.{option_copied}
use Rattle.std.specs.List.{list_any}
use Rattle.std.specs.Str.{bytes_eq}
use Rattle.arr_core.specs.declared.signature.Signature.{Signature}
use Rattle.catalogue.specs.Signatures.{listed}
use Rattle.coverage_server.specs.Named.{AreAmong, IsFoundIn, StayFound}
use Rattle.coverage_server.specs.Views.{signatures_of}
use Rattle.coverage_server.proofs.QueriedLemmas.{found_already, push_among, push_finds, push_stays}
use Rattle.coverage_server.proofs.named.push_named.Goals as goal

pub returns-then-is_named-clause-found : goal.returns-then-is_named-clause-found
returns-then-is_named-clause-found g c =
    let among : list_any (λ (s : Signature). bytes_eq s.name c.args.text.now) c.args.signatures.now.items ≡ true =
    subst (λ (l : List Signature). list_any (λ (s : Signature). bytes_eq s.name c.args.text.now) l ≡ true) c.deref.ensures.value (sym c.if-is_named.ensures) in
    found_already (signatures_of c.args.coverages.now.store) c.args.signatures.now.items c.args.text.now c.requires.among among

pub returns-clause-among : goal.returns-clause-among
returns-clause-among g c =
    let all = signatures_of c.args.coverages.now.store in
    let is : listed c.args.text.now all ≡ Some c.in-Some.signature.now = sym c.find.ensures ∙ ap option_copied c.in-Some.is in
    let grown = c.in_ok-push.ensures.items ∙ ap (λ (s : Signature). c.args.signatures.now.items ++ s ∷ []) c.in_ok-copy.ensures in
    subst (AreAmong all) (sym grown) (push_among all c.args.signatures.now.items c.args.text.now c.in-Some.signature.now is c.requires.among)

pub returns-clause-found : goal.returns-clause-found
returns-clause-found g c =
    let all = signatures_of c.args.coverages.now.store in
    let is : listed c.args.text.now all ≡ Some c.in-Some.signature.now = sym c.find.ensures ∙ ap option_copied c.in-Some.is in
    let grown = c.in_ok-push.ensures.items ∙ ap (λ (s : Signature). c.args.signatures.now.items ++ s ∷ []) c.in_ok-copy.ensures in
    subst (λ (l : List Signature). IsFoundIn all l c.args.text.now) (sym grown)
    (push_finds all c.args.signatures.now.items c.args.text.now c.in-Some.signature.now is c.requires.among)

pub returns-clause-stay : goal.returns-clause-stay
returns-clause-stay g c =
    let all = signatures_of c.args.coverages.now.store in
    let is : listed c.args.text.now all ≡ Some c.in-Some.signature.now = sym c.find.ensures ∙ ap option_copied c.in-Some.is in
    let grown = c.in_ok-push.ensures.items ∙ ap (λ (s : Signature). c.args.signatures.now.items ++ s ∷ []) c.in_ok-copy.ensures in
    subst (StayFound all c.args.signatures.now.items) (sym grown)
    (push_stays all c.args.signatures.now.items c.args.text.now c.in-Some.signature.now is)
