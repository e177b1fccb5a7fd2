-- The combinations so far, followed by those still to come, give the trees or the first refusal of them all.
use Rattle.std.proofs.Common.{◌≡◌, ◌+◌, ◌<◌, [], ◌∷◌, ◌++◌, drop, map, length, arith, ap, sym, subst, ◌∙◌, rules}
use Rattle.std.specs.Prelude.{Ok, slice_get}
use Rattle.std.proofs.lemmas.List.{map-append, length-map}
use Rattle.wcps_text.specs.Tree.{query_view}
use Rattle.wcps_types.specs.declared.typed_query.Combination.{Combination}
use Rattle.wcps_types.specs.Typed.{CombinationTree}
use Rattle.wcps_types.specs.Renamed.{over, combination_view}
use Rattle.wcps_types.specs.Shapes.{Answer, then_of}
use Rattle.wcps_types.specs.Bindings.{choice_view, combination_at, combination_count, combinations}
use Rattle.wcps_types.specs.Sharing.{own, coverages_in, AreBelow, HaveTrees, tree_of, trees_of}
use Rattle.wcps_types.specs.Queries.{typ_each, typ_combination}
use Rattle.wcps_types.proofs.Choices.{chosen_next, chosen_all}
use Rattle.wcps_types.proofs.LikeTrees.{own-at, views-grown, trees-last}
use Rattle.wcps_types.proofs.There.{combination-there}
use Rattle.wcps_types.proofs.query.each_combination.Goals as goal

pub place_of_tree-requires-clause-own : goal.place_of_tree-requires-clause-own
place_of_tree-requires-clause-own c =
    let choices = map choice_view c.args.choices.now in
    let is : c.deref.result.now ≡ combination_at choices c.loop-number.number = search rules in
    c.requires.own ∙ sym (own-at 0 choices c.loop-number.number) ∙ ap (own 0) (sym is)

pub place_of_tree-requires-clause-there : goal.place_of_tree-requires-clause-there
place_of_tree-requires-clause-there c =
    let choices = map choice_view c.args.choices.now in
    let cs = c.args.source.now.coverages.now in
    let below : c.loop-number.number < combination_count choices = omega arith in
    let is : c.deref.result.now ≡ combination_at choices c.loop-number.number = search rules in
    subst (λ b. AreBelow (length cs) (coverages_in b)) (sym is) (combination-there (length cs) choices c.loop-number.number c.requires.there below)

pub returns-in_err-tree-clause-said : goal.returns-in_err-tree-clause-said
returns-in_err-tree-clause-said c =
    let choices = map choice_view c.args.choices.now in
    let cs = c.args.source.now.coverages.now in
    let q = query_view c.args.source.now.query.now in
    let trees = trees_of cs q c.args.source.now.variables.now.list.items c.loop-number.making.makers.items in
    let below : c.loop-number.number < combination_count choices = omega arith in
    let next = chosen_next choices c.loop-number.number below in
    let inv : typ_each cs q (map (combination_view trees) c.loop-number.combinations.items) (drop c.loop-number.number (combinations choices)) ≡ typ_each cs q [] (combinations choices) = c.loop-number.invariant.each in
    rw (← inv, next) (search rules)

pub loop-number-preserved : goal.loop-number-preserved
loop-number-preserved c =
    let s = c.args.source.now in
    let cs = s.coverages.now in
    let q = query_view s.query.now in
    let choices = map choice_view c.args.choices.now in
    let below : c.loop-number.number < combination_count choices = omega arith in
    let next = chosen_next choices c.loop-number.number below in
    let is : c.deref.result.now ≡ combination_at choices c.loop-number.number = search rules in
    let makers = c.place_of_tree.new.making.makers.items in
    let old = trees_of cs q s.variables.now.list.items c.loop-number.making.makers.items in
    let new = trees_of cs q s.variables.now.list.items makers in
    let before = c.loop-number.combinations.items in
    let x : Combination = record { tree = c.in_ok-tree.tree; coverages = c.in_ok-coverages.coverages } in
    let put : c.push.new.self.items ≡ before ++ x ∷ [] = search rules in
    let inside : c.in_ok-tree.tree < length new = omega (arith, c.in_ok-tree.ensures.inside, length-map makers (tree_of cs q s.variables.now.list.items)) in
    let there : HaveTrees (length new) (before ++ x ∷ []) = trees-last (length old) (length new) before x c.loop-number.invariant.there c.in_ok-tree.ensures.kept.0 inside in
    let said : typ_combination cs q c.deref.result.now ≡ Ok (over (coverages_in c.deref.result.now) (slice_get new c.in_ok-tree.tree)) = c.in_ok-tree.ensures.said in
    let places : c.in_ok-coverages.coverages.items ≡ coverages_in c.deref.result.now = search rules in
    let typed : typ_combination cs q (combination_at choices c.loop-number.number) ≡ Ok (combination_view new x) =
    ap (typ_combination cs q) (sym is) ∙ said ∙ ap (λ ps. Ok (over ps (slice_get new c.in_ok-tree.tree))) (sym places) in
    let done = map (combination_view old) before in
    let more = drop (c.loop-number.number + 1) (combinations choices) in
    let step : typ_each cs q done (combination_at choices c.loop-number.number ∷ more) ≡ typ_each cs q (done ++ combination_view new x ∷ []) more =
    ap (λ (a : Answer CombinationTree). then_of a (λ (t : CombinationTree). typ_each cs q (done ++ t ∷ []) more)) typed in
    let pushed : map (combination_view new) c.push.new.self.items ≡ done ++ combination_view new x ∷ [] =
    ap (map (combination_view new)) put ∙ map-append (combination_view new) before (x ∷ []) ∙ ap (λ trees. trees ++ combination_view new x ∷ []) (views-grown old new before c.loop-number.invariant.there c.in_ok-tree.ensures.kept) in
    record {
      making = c.in_ok-tree.ensures.making;
      there = subst (HaveTrees (length new)) (sym put) there;
      each = ap (λ trees. typ_each cs q trees more) pushed ∙ sym step ∙ ap (typ_each cs q done) (sym next) ∙ c.loop-number.invariant.each;
    }

pub returns-clause-said : goal.returns-clause-said
returns-clause-said c =
    let cs = c.args.source.now.coverages.now in
    let q = query_view c.args.source.now.query.now in
    let trees = trees_of cs q c.args.source.now.variables.now.list.items c.loop-number.making.makers.items in
    let choices = map choice_view c.args.choices.now in
    let all : c.loop-number.number ≡ combination_count choices = omega arith in
    let inv : typ_each cs q (map (combination_view trees) c.loop-number.combinations.items) (drop c.loop-number.number (combinations choices)) ≡ typ_each cs q [] (combinations choices) = c.loop-number.invariant.each in
    let ended : drop c.loop-number.number (combinations choices) ≡ [] = ap (λ n. drop n (combinations choices)) all ∙ chosen_all choices in
    sym inv ∙ ap (typ_each cs q (map (combination_view trees) c.loop-number.combinations.items)) ended

pub returns-clause-making : goal.returns-clause-making
returns-clause-making c = record { made = c.loop-number.invariant.making.made; latest = tt }
