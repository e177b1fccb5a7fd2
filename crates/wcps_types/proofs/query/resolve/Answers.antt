-- The choices are of coverages that are there, and the combinations are some, well-typed, with each field of its kind.
use Rattle.std.proofs.Common.{◌≡◌, ◌∙◌, [], length, map, subst, sym, arith}
use Rattle.std.specs.Prelude.{Ok}
use Rattle.std.proofs.lemmas.List.{length-map}
use Rattle.wcps_text.specs.Tree.{query_view, bindings_of}
use Rattle.wcps_types.specs.Renamed.{combination_view}
use Rattle.wcps_types.specs.Bindings.{bindings_view, choice_view, no_bindings, bound_from, combinations, few_combinations}
use Rattle.wcps_types.specs.Cells.{result_cells, capped_cells}
use Rattle.wcps_types.specs.Work.{query_work, capped}
use Rattle.wcps_types.specs.Queries.{typ_each}
use Rattle.wcps_types.specs.Sharing.{ChoicesAreBelow, AreMade, AreCounted, trees_of}
use Rattle.wcps_types.proofs.SoundQueries.{each-typed}
use Rattle.wcps_types.proofs.SoundKinds.{each-kinds}
use Rattle.wcps_types.proofs.Counted.{some-combinations}
use Rattle.wcps_types.proofs.Checked.{of_source, checked, too_large, too_much, within}
use Rattle.wcps_types.proofs.LikeTrees.{counted, all-made}
use Rattle.wcps_types.proofs.There.{choices-there}
use Rattle.wcps_types.proofs.query.resolve.Goals as goal

pub each_combination-requires-clause-there : goal.each_combination-requires-clause-there
each_combination-requires-clause-there c =
    let b = c.in_ok-bindings.bindings in
    let said : bound_from c.args.signatures.now no_bindings (bindings_of c.deref.result.now) ≡ Ok (bindings_view b) = c.in_ok-bindings.ensures in
    let below : ChoicesAreBelow (length b.coverages.items) (map choice_view b.choices.items) = choices-there c.args.signatures.now (bindings_of c.deref.result.now) (bindings_view b) said in
    subst (λ cs. ChoicesAreBelow (length cs) (map choice_view c.deref-5.result.now)) (sym c.deref-4.ensures.value)
    (subst (λ choices. ChoicesAreBelow (length b.coverages.items) (map choice_view choices)) (sym c.deref-5.ensures.value) below)

pub returns-then-combinations_cells-gt-MAX_CELLS-clause-said : goal.returns-then-combinations_cells-gt-MAX_CELLS-clause-said
returns-then-combinations_cells-gt-MAX_CELLS-clause-said c =
    let b = c.in_ok-bindings.bindings in
    let cs = b.coverages.items in
    let vs = c.in_ok-variables.variables.list.items in
    let q = query_view c.args.query.now in
    let choices = map choice_view b.choices.items in
    let makers = c.in_ok-all.all.makers.items in
    let trees = trees_of cs q vs makers in
    let list = c.in_ok-all.all.combinations.items in
    let all = map (combination_view trees) list in
    let bound : bound_from c.args.signatures.now no_bindings q.bindings ≡ Ok (bindings_view b) = subst (λ l. bound_from c.args.signatures.now no_bindings (bindings_of l) ≡ Ok (bindings_view b)) c.deref.ensures.value c.in_ok-bindings.ensures in
    let few : few_combinations choices ≡ Ok c.in_ok-count.count = subst (λ l. few_combinations (map choice_view l) ≡ Ok c.in_ok-count.count) c.deref-2.ensures.value c.in_ok-count.ensures.said in
    let each : typ_each cs q [] (combinations choices) ≡ Ok all = of_source cs q vs b.choices.items makers list _ _ c.deref-4.ensures.value c.deref-5.ensures.value c.in_ok-all.ensures.said in
    let made : AreMade cs q vs makers = subst (λ k. AreMade k q vs makers) c.deref-4.ensures.value c.in_ok-all.ensures.making.made in
    let counted = counted cs q vs makers made in
    let cells : c.combinations_cells.result ≡ capped_cells (result_cells all) =
    subst (λ l. c.combinations_cells.result ≡ capped_cells (result_cells (map (combination_view trees) l))) c.deref-7.ensures.value (c.combinations_cells.ensures trees (subst (AreCounted trees) (sym c.deref-6.ensures.value) counted)) in
    checked c.args.signatures.now cs q choices c.in_ok-count.count all bound few each ∙ too_large cs all c.combinations_cells.result cells (omega (arith, c.if-combinations_cells-gt-MAX_CELLS.true))

pub returns-then-work-gt-MAX_WORK-clause-said : goal.returns-then-work-gt-MAX_WORK-clause-said
returns-then-work-gt-MAX_WORK-clause-said c =
    let b = c.in_ok-bindings.bindings in
    let cs = b.coverages.items in
    let vs = c.in_ok-variables.variables.list.items in
    let q = query_view c.args.query.now in
    let choices = map choice_view b.choices.items in
    let makers = c.in_ok-all.all.makers.items in
    let trees = trees_of cs q vs makers in
    let list = c.in_ok-all.all.combinations.items in
    let all = map (combination_view trees) list in
    let bound : bound_from c.args.signatures.now no_bindings q.bindings ≡ Ok (bindings_view b) = subst (λ l. bound_from c.args.signatures.now no_bindings (bindings_of l) ≡ Ok (bindings_view b)) c.deref.ensures.value c.in_ok-bindings.ensures in
    let few : few_combinations choices ≡ Ok c.in_ok-count.count = subst (λ l. few_combinations (map choice_view l) ≡ Ok c.in_ok-count.count) c.deref-2.ensures.value c.in_ok-count.ensures.said in
    let each : typ_each cs q [] (combinations choices) ≡ Ok all = of_source cs q vs b.choices.items makers list _ _ c.deref-4.ensures.value c.deref-5.ensures.value c.in_ok-all.ensures.said in
    let made : AreMade cs q vs makers = subst (λ k. AreMade k q vs makers) c.deref-4.ensures.value c.in_ok-all.ensures.making.made in
    let counted = counted cs q vs makers made in
    let cells : c.combinations_cells.result ≡ capped_cells (result_cells all) =
    subst (λ l. c.combinations_cells.result ≡ capped_cells (result_cells (map (combination_view trees) l))) c.deref-7.ensures.value (c.combinations_cells.ensures trees (subst (AreCounted trees) (sym c.deref-6.ensures.value) counted)) in
    let work : c.combinations_work-work.result ≡ capped (query_work all) =
    subst (λ l. c.combinations_work-work.result ≡ capped (query_work (map (combination_view trees) l))) c.deref-9.ensures.value (c.combinations_work-work.ensures trees (subst (AreCounted trees) (sym c.deref-8.ensures.value) counted)) in
    checked c.args.signatures.now cs q choices c.in_ok-count.count all bound few each
    ∙ too_much cs all c.combinations_cells.result c.combinations_work-work.result cells (omega (arith, c.if-combinations_cells-gt-MAX_CELLS.false)) work (omega (arith, c.if-work-gt-MAX_WORK.true))

pub returns-clause-sound : goal.returns-clause-sound
returns-clause-sound c =
    let b = c.in_ok-bindings.bindings in
    let cs = b.coverages.items in
    let vs = c.in_ok-variables.variables.list.items in
    let q = query_view c.args.query.now in
    let choices = map choice_view b.choices.items in
    let makers = c.in_ok-all.all.makers.items in
    let trees = trees_of cs q vs makers in
    let list = c.in_ok-all.all.combinations.items in
    let all = map (combination_view trees) list in
    let bound : bound_from c.args.signatures.now no_bindings q.bindings ≡ Ok (bindings_view b) = subst (λ l. bound_from c.args.signatures.now no_bindings (bindings_of l) ≡ Ok (bindings_view b)) c.deref.ensures.value c.in_ok-bindings.ensures in
    let few : few_combinations choices ≡ Ok c.in_ok-count.count = subst (λ l. few_combinations (map choice_view l) ≡ Ok c.in_ok-count.count) c.deref-2.ensures.value c.in_ok-count.ensures.said in
    let each : typ_each cs q [] (combinations choices) ≡ Ok all = of_source cs q vs b.choices.items makers list _ _ c.deref-4.ensures.value c.deref-5.ensures.value c.in_ok-all.ensures.said in
    let made : AreMade cs q vs makers = subst (λ k. AreMade k q vs makers) c.deref-4.ensures.value c.in_ok-all.ensures.making.made in
    let counted = counted cs q vs makers made in
    let cells : c.combinations_cells.result ≡ capped_cells (result_cells all) =
    subst (λ l. c.combinations_cells.result ≡ capped_cells (result_cells (map (combination_view trees) l))) c.deref-7.ensures.value (c.combinations_cells.ensures trees (subst (AreCounted trees) (sym c.deref-6.ensures.value) counted)) in
    let work : c.combinations_work-work.result ≡ capped (query_work all) =
    subst (λ l. c.combinations_work-work.result ≡ capped (query_work (map (combination_view trees) l))) c.deref-9.ensures.value (c.combinations_work-work.ensures trees (subst (AreCounted trees) (sym c.deref-8.ensures.value) counted)) in
    record {
      made = all-made cs q vs makers made;
      typed = each-typed cs q (combinations choices) all each;
      kinds = each-kinds cs q (combinations choices) all each;
      some = omega (arith, some-combinations cs q choices c.in_ok-count.count all few each, length-map list (combination_view trees));
      few_cells = omega (arith, cells, c.if-combinations_cells-gt-MAX_CELLS.false);
      told = omega (arith, work, c.if-work-gt-MAX_WORK.false);
      little_work = omega (arith, c.if-work-gt-MAX_WORK.false);
    }

pub returns-clause-said : goal.returns-clause-said
returns-clause-said c =
    let b = c.in_ok-bindings.bindings in
    let cs = b.coverages.items in
    let vs = c.in_ok-variables.variables.list.items in
    let q = query_view c.args.query.now in
    let choices = map choice_view b.choices.items in
    let makers = c.in_ok-all.all.makers.items in
    let trees = trees_of cs q vs makers in
    let list = c.in_ok-all.all.combinations.items in
    let all = map (combination_view trees) list in
    let bound : bound_from c.args.signatures.now no_bindings q.bindings ≡ Ok (bindings_view b) = subst (λ l. bound_from c.args.signatures.now no_bindings (bindings_of l) ≡ Ok (bindings_view b)) c.deref.ensures.value c.in_ok-bindings.ensures in
    let few : few_combinations choices ≡ Ok c.in_ok-count.count = subst (λ l. few_combinations (map choice_view l) ≡ Ok c.in_ok-count.count) c.deref-2.ensures.value c.in_ok-count.ensures.said in
    let each : typ_each cs q [] (combinations choices) ≡ Ok all = of_source cs q vs b.choices.items makers list _ _ c.deref-4.ensures.value c.deref-5.ensures.value c.in_ok-all.ensures.said in
    let made : AreMade cs q vs makers = subst (λ k. AreMade k q vs makers) c.deref-4.ensures.value c.in_ok-all.ensures.making.made in
    let counted = counted cs q vs makers made in
    let cells : c.combinations_cells.result ≡ capped_cells (result_cells all) =
    subst (λ l. c.combinations_cells.result ≡ capped_cells (result_cells (map (combination_view trees) l))) c.deref-7.ensures.value (c.combinations_cells.ensures trees (subst (AreCounted trees) (sym c.deref-6.ensures.value) counted)) in
    let work : c.combinations_work-work.result ≡ capped (query_work all) =
    subst (λ l. c.combinations_work-work.result ≡ capped (query_work (map (combination_view trees) l))) c.deref-9.ensures.value (c.combinations_work-work.ensures trees (subst (AreCounted trees) (sym c.deref-8.ensures.value) counted)) in
    checked c.args.signatures.now cs q choices c.in_ok-count.count all bound few each
    ∙ within cs all c.combinations_cells.result c.combinations_work-work.result cells (omega (arith, c.if-combinations_cells-gt-MAX_CELLS.false)) work (omega (arith, c.if-work-gt-MAX_WORK.false))
