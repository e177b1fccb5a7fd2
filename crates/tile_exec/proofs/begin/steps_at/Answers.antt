-- The steps that the combination names are in the plan, and are those that are given.
use Rattle.std.proofs.Common.{◌≡◌, arith, sym, ap, ◌∙◌, ◌<◌, subst, length, refl, Some, option_map}
use Rattle.std.specs.Prelude.{slice_get}
use Rattle.std.proofs.lemmas.List.{length-map}
use Rattle.std.proofs.lemmas.Option.{slice_get_read, slice_get-map, get_or_from_slice_get, slice_get_within}
use Rattle.plan_ir.specs.Plans.{plan_view, choice_view, steps_view, signature_of}
use Rattle.plan_ir.specs.Placed.{IsChoice, AreSteps}
use Rattle.tile_exec.proofs.Finding.{some_within}
use Rattle.tile_exec.proofs.begin.steps_at.Goals as goal

pub index-requires : goal.index-requires
index-requires c =
    let plan = c.args.plan.now in
    let tree = plan_view plan in
    let k = c.index-combination.result.now in
    let there = slice_get_read plan.combinations.items (length plan.combinations.items) c.args.k k refl c.requires.k c.index-combination.ensures in
    let at : slice_get tree.combinations c.args.k ≡ Some (choice_view k) = slice_get-map choice_view plan.combinations.items c.args.k ∙ ap (option_map choice_view) there in
    let is = subst (IsChoice tree) (get_or_from_slice_get tree.combinations c.args.k (choice_view k) (choice_view k) at) (c.requires.plan.choices c.args.k (choice_view k) (slice_get_within tree.combinations c.args.k (choice_view k) at)) in
    let lt = some_within (AreSteps (signature_of tree.coverages k.coverages.items)) tree.steps k.steps is in
    omega (arith, lt, length-map plan.steps.items steps_view, plan.steps.ok.0)

pub returns : goal.returns
returns c = λ d.
    let plan = c.args.plan.now in
    let tree = plan_view plan in
    let k = c.index-combination.result.now in
    let there = slice_get_read plan.combinations.items (length plan.combinations.items) c.args.k k refl c.requires.k c.index-combination.ensures in
    let at : slice_get tree.combinations c.args.k ≡ Some (choice_view k) = slice_get-map choice_view plan.combinations.items c.args.k ∙ ap (option_map choice_view) there in
    let is = subst (IsChoice tree) (get_or_from_slice_get tree.combinations c.args.k (choice_view k) (choice_view k) at) (c.requires.plan.choices c.args.k (choice_view k) (slice_get_within tree.combinations c.args.k (choice_view k) at)) in
    let lt = some_within (AreSteps (signature_of tree.coverages k.coverages.items)) tree.steps k.steps is in
    let below : k.steps < length plan.steps.items = omega (arith, lt, length-map plan.steps.items steps_view) in
    record {
      combination = k;
      there = there;
      view = sym (get_or_from_slice_get tree.combinations c.args.k (choice_view k) d at);
      steps = slice_get_read plan.steps.items (length plan.steps.items) k.steps c.index.result.now refl below c.index.ensures;
    }
