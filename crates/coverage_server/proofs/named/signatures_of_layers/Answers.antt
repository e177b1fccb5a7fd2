-- Both layers' coverages are found among the signatures as among all.
use Rattle.std.proofs.Common.{ℕ, List, Option, sym, subst}
use Rattle.std.specs.Prelude.{IfSome}
use Rattle.map_templates.specs.declared.params.Layer.{Layer}
use Rattle.coverage_server.specs.Named.{IsFoundIn}
use Rattle.coverage_server.specs.Views.{signatures_of}
use Rattle.coverage_server.proofs.LayerLemmas.{asked_alike}
use Rattle.coverage_server.proofs.named.signatures_of_layers.Goals as goal

pub returns-in_default : goal.returns-in_default
returns-in_default g c =
    let all = signatures_of c.args.coverages.now.store in
    let some = c.push_named.new.signatures.items in
    let params = c.args.params.now in
    asked_alike all some params (subst (λ (name : List ℕ). IsFoundIn all some name) c.as_str.ensures.value c.in_ok-push_named.ensures.found)
    (subst (λ (o : Option Layer). IfSome o (λ (l : Layer). IsFoundIn all some l.coverage)) (sym c.in_default.is) tt)

pub returns : goal.returns
returns g c =
    let all = signatures_of c.args.coverages.now.store in
    let some = c.push_named-2.new.signatures.items in
    let params = c.args.params.now in
    let first = c.in_ok-push_named-2.ensures.stay params.layer.coverage (subst (λ (name : List ℕ). IsFoundIn all c.push_named.new.signatures.items name) c.as_str.ensures.value c.in_ok-push_named.ensures.found) in
    let second : IsFoundIn all some c.in-Some.second.coverage = subst (λ (name : List ℕ). IsFoundIn all some name) c.as_str-2.ensures.value c.in_ok-push_named-2.ensures.found in
    asked_alike all some params first (subst (λ (o : Option Layer). IfSome o (λ (l : Layer). IsFoundIn all some l.coverage)) (sym c.in-Some.is) second)
