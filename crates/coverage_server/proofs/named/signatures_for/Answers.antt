-- Once the names of each variable are found, the query is typed alike.
use Rattle.std.proofs.Common.{take, subst, ◌∙◌, refl}
use Rattle.std.specs.Prelude.{All}
use Rattle.std.proofs.lemmas.List.{take_all}
use Rattle.std.proofs.lemmas.List.Elements.{All-more}
use Rattle.wcps_text.specs.Tree.{query_view}
use Rattle.coverage_server.specs.Named.{IsFoundIn}
use Rattle.coverage_server.specs.Views.{signatures_of}
use Rattle.coverage_server.proofs.QueriedLemmas.{FindsNames, bindings_stay, typed_alike}
use Rattle.coverage_server.proofs.named.signatures_for.Goals as goal

pub loop-binding-preserved : goal.loop-binding-preserved
loop-binding-preserved g c =
    let all = signatures_of c.args.coverages.now.store in
    let before = bindings_stay all c.loop-binding.signatures.items c.push_names.new.signatures.items (take c.loop-binding.binding-index c.deref-binding-items.result.now) c.in_ok-push_names.ensures.stay c.loop-binding.invariant.1 in
    let names : FindsNames all c.push_names.new.signatures.items c.binding-item.result =
    subst (All (IsFoundIn all c.push_names.new.signatures.items)) c.deref.ensures.value c.in_ok-push_names.ensures.found in
    let here = subst (FindsNames all c.push_names.new.signatures.items) c.binding-item.is names in (
      c.in_ok-push_names.ensures.among,
      All-more (FindsNames all c.push_names.new.signatures.items) c.deref-binding-items.result.now c.loop-binding.binding-index c.binding-item.result c.loop-binding-test.true before here,
    )

pub returns : goal.returns
returns g c =
    let all = signatures_of c.args.coverages.now.store in
    let whole = take_all c.loop-binding.binding-index c.deref-binding-items.result.now c.loop-binding-test.false ∙ c.deref-binding-items.ensures.value in
    typed_alike all c.loop-binding.signatures.items (query_view c.args.query.now) c.args.query.now.bindings.items refl
    (subst (All (FindsNames all c.loop-binding.signatures.items)) whole c.loop-binding.invariant.1)
