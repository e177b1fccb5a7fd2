-- Each name is found once it was looked for, and stays so.
use Rattle.std.proofs.Common.{take, subst, ◌∙◌}
use Rattle.std.specs.Prelude.{All}
use Rattle.std.proofs.lemmas.List.{take_all}
use Rattle.std.proofs.lemmas.List.Elements.{All-more}
use Rattle.coverage_server.specs.Named.{IsFoundIn}
use Rattle.coverage_server.specs.Views.{signatures_of}
use Rattle.coverage_server.proofs.QueriedLemmas.{names_stay}
use Rattle.coverage_server.proofs.named.push_names.Goals as goal

pub loop-name-preserved : goal.loop-name-preserved
loop-name-preserved g c =
    let all = signatures_of c.args.coverages.now.store in
    let before = names_stay all c.loop-name.signatures.items c.push_named.new.signatures.items (take c.loop-name.name-index c.args.names.now) c.in_ok-push_named.ensures.stay c.loop-name.invariant.1 in
    let here = subst (IsFoundIn all c.push_named.new.signatures.items) (c.as_str.ensures ∙ c.name-item.is) c.in_ok-push_named.ensures.found in (
      c.in_ok-push_named.ensures.among,
      All-more (IsFoundIn all c.push_named.new.signatures.items) c.args.names.now c.loop-name.name-index c.name-item.result c.loop-name-test.true before here,
      λ name h. c.in_ok-push_named.ensures.stay name (c.loop-name.invariant.2 name h),
    )

pub returns-clause-found : goal.returns-clause-found
returns-clause-found g c =
    subst (All (IsFoundIn (signatures_of c.args.coverages.now.store) c.loop-name.signatures.items)) (take_all c.loop-name.name-index c.args.names.now c.loop-name-test.false) c.loop-name.invariant.1
