-- Slices, condensers, reductions and records give what they mean at a point, and report what their parts report.
use Rattle.std.proofs.Common.{rules, ◌≡◌, ◌<◌, ◌≤◌, ◌+◌, ◌∙◌, ap, sym, refl, subst, arith, List, [], ◌++◌, length, take, get_or, ℤ, w32, SFits}
use Rattle.std.specs.List.{flat_map}
use Rattle.std.proofs.lemmas.Int.{to_z-of_z}
use Rattle.std.proofs.lemmas.Result.{err_from_is_err_and}
use Rattle.std.proofs.lemmas.Grind.{common_steps}
use Rattle.arr_core.specs.Domains.{points}
use Rattle.std.specs.Prelude.{pos}
use Rattle.wcps_types.specs.declared.typed.Node.{Node}
use Rattle.wcps_types.specs.Typed.{number, field_tree, only_tree, scalar, condense, reduce}
use Rattle.wcps_types.specs.Renamed.{renamed}
use Rattle.wcps_types.proofs.Fields.{record_part, record_none}
use Rattle.wcps_mean.specs.declared.running.Running.{Running}
use Rattle.wcps_mean.specs.declared.scope.Scope.{Scope}
use Rattle.wcps_mean.specs.declared.cell.Outcome.{Outcome}
use Rattle.wcps_mean.specs.Condensers.{condensed, demanded}
use Rattle.wcps_mean.specs.Feeding.{Fed}
use Rattle.wcps_mean.specs.Meaning.{val}
use Rattle.wcps_mean.specs.Reading.{Leaves}
use Rattle.wcps_mean.specs.Scopes.{IsSame, outcome_in, outcome_with}
use Rattle.wcps_mean.proofs.Feeds.{fed_more, fed_part, fed-demanded, fed-otherwise}
use Rattle.wcps_mean.proofs.Stacks.{cut-back, on-top, take-whole}
use Rattle.wcps_mean.proofs.Scoped.{leaves-on, same-on, reached, with-same}
use Rattle.wcps_mean.proofs.Told.{tells-from}
use Rattle.wcps_mean.proofs.Positions.{position-fault, position-value}
use Rattle.wcps_mean.proofs.eval.+eval.Goals as goal
use Rattle.wcps_mean.proofs.eval.+eval.Goals.{eval-then-demands+in_ok-o-in-CondenseWhere, eval-else-demands}

pub condense-loop-place-preserved : goal.condense-loop-place-preserved
condense-loop-place-preserved g t c =
    let inv = c.loop-place.invariant in
    let s = g.C.Cells.cells c.args.cells.now in
    let scope = c.args.scope.now in
    let env = scope.iterators.items in
    let x = get_or (points c.args.domain.now) c.loop-place.place [] in
    let lt : c.loop-place.place < length (points c.args.domain.now) = omega (arith, c.points-place-end.ensures.value) in
    let depth : c.len-depth.result ≡ length env = search rules in
    let inner = c.in_ok-push_point.ensures ∙ ap (λ l. l ++ x) inv.scope.iterators in
    let o = λ (h : g.C.Cells.intact c.args.cells.now). c.in_ok-o.ensures.value (inv.leaves.intact h)
    ∙ reached scope s _ _ _ (env ++ x) [] [] (only_tree c.args.e.now) inv.leaves.cells inv.scope.coverages inner refl in
    let after = c.in_ok-o.ensures.scope in
    record {
      leaves = leaves-on _ _ _ _ inv.leaves c.in_ok-o.ensures.leaves;
      failures = c.in_ok-o.ensures.reports ∙ inv.failures;
      scope = record {
        coverages = after.coverages ∙ inv.scope.coverages;
        iterators = c.truncate.ensures.items ∙ cut-back _ env x _ depth (after.iterators ∙ inner);
        points = after.points ∙ inv.scope.points;
        base = after.base ∙ inv.scope.base;
      };
      op = c.add.ensures.op ∙ inv.op;
      counted = omega (arith, c.add.ensures.count, inv.counted);
      fed = λ h. fed_more (λ x. val s (renamed scope.coverages.now (only_tree c.args.e.now)) (env ++ x) []) (points c.args.domain.now) c.loop-place.place _ _ _ lt (o h) c.add.ensures.fed (inv.fed h);
    }

pub reduce-loop-place-preserved : goal.reduce-loop-place-preserved
reduce-loop-place-preserved g t c =
    let inv = c.loop-place.invariant in
    let s = g.C.Cells.cells c.args.cells.now in
    let scope = c.args.scope.now in
    let env = scope.iterators.items in
    let x = get_or (points c.args.domain.now) c.loop-place.place [] in
    let lt : c.loop-place.place < length (points c.args.domain.now) = omega (arith, c.points-place-end.ensures.value) in
    let top : c.len-top.result ≡ length scope.points.items = search rules in
    let inner = c.in_ok-push_point.ensures ∙ ap (λ l. l ++ x) inv.stacked in
    let o = λ (h : g.C.Cells.intact c.args.cells.now). c.in_ok-o.ensures.value (inv.leaves.intact h)
    ∙ reached scope s _ _ _ env _ x (only_tree c.args.e.now) inv.leaves.cells inv.coverages inv.iterators (on-top _ scope.points.items x _ inv.base inner) in
    let after = c.in_ok-o.ensures.scope in
    record {
      leaves = leaves-on _ _ _ _ inv.leaves c.in_ok-o.ensures.leaves;
      failures = c.in_ok-o.ensures.reports ∙ inv.failures;
      coverages = after.coverages ∙ inv.coverages;
      iterators = after.iterators ∙ inv.iterators;
      stacked = c.truncate.ensures.items ∙ cut-back _ scope.points.items x _ top (after.points ∙ inner);
      base = after.base ∙ inv.base;
      op = c.add.ensures.op ∙ inv.op;
      counted = omega (arith, c.add.ensures.count, inv.counted);
      fed = λ h. fed_more (λ x. val s (renamed scope.coverages.now (only_tree c.args.e.now)) env x) (points c.args.domain.now) c.loop-place.place _ _ _ lt (o h) c.add.ensures.fed (inv.fed h);
    }

pub eval-returns-in-Err-clause-value : goal.eval-returns-in-Err-clause-value
eval-returns-in-Err-clause-value g t c h =
    let s = g.C.Cells.cells c.args.cells.now in
    let scope = c.args.scope.now in
    let lo : SFits w32 c.in-Slice.lo = search rules in
    let hi : SFits w32 c.in-Slice.hi = search rules in
    let x = c.in_ok-x-in-Slice.ensures.value h ∙ ap (λ b. outcome_in scope (scalar (only_tree b)) s) c.deref-in-Slice.ensures in
    position-fault _ _ _ _ _ _ (λ z. outcome_with scope (field_tree c.in-Slice.value.value c.args.field) c.in-Slice.axis z s) c.in-Err.f x (to_z-of_z w32 c.in-Slice.lo lo) (to_z-of_z w32 c.in-Slice.hi hi) c.in-Err.ensures.tests
    ∙ ap (λ (b : Node). outcome_in scope (field_tree b c.args.field) s) (sym c.in-Slice.is)

pub eval-returns-in_ok-o-in-Ok-clause-value : goal.eval-returns-in_ok-o-in-Ok-clause-value
eval-returns-in_ok-o-in-Ok-clause-value g t c h =
    let s = g.C.Cells.cells c.args.cells.now in
    let scope = c.args.scope.now in
    let lo : SFits w32 c.in-Slice.lo = search rules in
    let hi : SFits w32 c.in-Slice.hi = search rules in
    let fits : SFits w32 c.in-Ok.z = search rules in
    let before = c.in_ok-x-in-Slice.ensures in
    let x = before.value h ∙ ap (λ b. outcome_in scope (scalar (only_tree b)) s) c.deref-in-Slice.ensures in
    c.in_ok-o-in-Ok.ensures.value (before.leaves.intact h)
    ∙ with-same scope _ s _ (field_tree c.deref-in-Ok.result.now c.args.field) c.in-Slice.axis _ _ before.scope before.leaves.cells (to_z-of_z w32 c.in-Ok.z fits)
    ∙ ap (λ b. outcome_with scope (field_tree b c.args.field) c.in-Slice.axis c.in-Ok.z s) c.deref-in-Ok.ensures
    ∙ position-value _ _ _ _ _ _ (λ z. outcome_with scope (field_tree c.in-Slice.value.value c.args.field) c.in-Slice.axis z s) c.in-Ok.z x (to_z-of_z w32 c.in-Slice.lo lo) (to_z-of_z w32 c.in-Slice.hi hi) (λ go. c.in-Ok.ensures.tests go)
    ∙ ap (λ (b : Node). outcome_in scope (field_tree b c.args.field) s) (sym c.in-Slice.is)

pub eval-returns-in_ok-o-in-Condense-clause-value : goal.eval-returns-in_ok-o-in-Condense-clause-value
eval-returns-in_ok-o-in-Condense-clause-value g t c h =
    let s = g.C.Cells.cells c.args.cells.now in
    let scope = c.args.scope.now in
    c.in_ok-o-in-Condense.ensures.value h
    ∙ ap (λ b. outcome_in scope (condense c.in-Condense.op c.deref-in-Condense-2.result.now (only_tree b)) s) c.deref-in-Condense.ensures
    ∙ ap (λ d. outcome_in scope (condense c.in-Condense.op d (only_tree c.in-Condense.body.value)) s) c.deref-in-Condense-2.ensures
    ∙ ap (λ (b : Node). outcome_in scope (field_tree b c.args.field) s) (sym c.in-Condense.is)

pub eval-returns-in_ok-o-in-Reduce-clause-value : goal.eval-returns-in_ok-o-in-Reduce-clause-value
eval-returns-in_ok-o-in-Reduce-clause-value g t c h =
    let s = g.C.Cells.cells c.args.cells.now in
    let scope = c.args.scope.now in
    c.in_ok-o-in-Reduce.ensures.value h
    ∙ ap (λ b. outcome_in scope (reduce c.in-Reduce.op c.deref-in-Reduce-2.result.now (only_tree b)) s) c.deref-in-Reduce.ensures
    ∙ ap (λ d. outcome_in scope (reduce c.in-Reduce.op d (only_tree c.in-Reduce.body.value)) s) c.deref-in-Reduce-2.ensures
    ∙ ap (λ (b : Node). outcome_in scope (field_tree b c.args.field) s) (sym c.in-Reduce.is)

pub eval-returns-after-loop-place-clause-value : goal.eval-returns-after-loop-place-clause-value
eval-returns-after-loop-place-clause-value g t c h =
    let inv = c.loop-place.invariant in
    let s = g.C.Cells.cells c.args.cells.now in
    let scope = c.args.scope.now in
    let cs = scope.coverages.now in
    let env = scope.iterators.items in
    let box = points c.in-CondenseWhere.domain.value in
    let f : List ℤ → List Outcome = λ x. demanded (val s (renamed cs (only_tree c.in-CondenseWhere.condition.value)) (env ++ x) []) (val s (renamed cs (only_tree c.in-CondenseWhere.body.value)) (env ++ x) []) in
    let counted : c.points-place-end.result ≡ length box = c.points-place-end.ensures.value ∙ ap (λ d. length (points d)) c.deref-in-CondenseWhere.ensures in
    let all : take c.loop-place.place box ≡ box = take-whole _ box (omega (arith, counted)) in
    c.finish.ensures (flat_map f box) (subst (λ ps. Fed c.loop-place.running (flat_map f ps)) all (inv.fed h))
    ∙ ap (λ op. condensed op (flat_map f box)) (inv.op ∙ c.new-running.ensures.op)
    ∙ ap (λ (b : Node). outcome_in scope (field_tree b c.args.field) s) (sym c.in-CondenseWhere.is)

pub eval-loop-place-preserved : goal.eval-loop-place-preserved
eval-loop-place-preserved g t c =
    let inv = c.loop-place.invariant in
    let s = g.C.Cells.cells c.args.cells.now in
    let scope = c.args.scope.now in
    let cs = scope.coverages.now in
    let env = scope.iterators.items in
    let ec = renamed cs (only_tree c.in-CondenseWhere.condition.value) in
    let eb = renamed cs (only_tree c.in-CondenseWhere.body.value) in
    let box = points c.in-CondenseWhere.domain.value in
    let x = get_or box c.loop-place.place [] in
    let counted : c.points-place-end.result ≡ length box = c.points-place-end.ensures.value ∙ ap (λ d. length (points d)) c.deref-in-CondenseWhere.ensures in
    let lt : c.loop-place.place < length box = omega (arith, counted) in
    let depth : c.len-depth.result ≡ length env = search rules in
    let pushed : Scope = record c.loop-place.scope { iterators = c.push_point.new.list } in
    let inner = c.in_ok-push_point-in-CondenseWhere.ensures
    ∙ ap (λ d. c.loop-place.scope.iterators.items ++ get_or (points d) c.loop-place.place []) c.deref-in-loop-place.ensures ∙ ap (λ l. l ++ x) inv.scope.iterators in
    let first = c.in_ok-c-in-CondenseWhere.ensures in
    let condition = λ (h : g.C.Cells.intact c.args.cells.now). first.value (inv.leaves.intact h)
    ∙ reached scope s _ _ _ (env ++ x) [] [] (only_tree c.deref-in-loop-place-2.result.now) inv.leaves.cells inv.scope.coverages inner refl
    ∙ ap (λ b. val s (renamed cs (only_tree b)) (env ++ x) []) c.deref-in-loop-place-2.ensures in
    let leaves : Leaves g.C.Cells c.args.cells.now c.if-demands.cells = elim c.if-demands.branch [
      | eval-then-demands+in_ok-o-in-CondenseWhere w ↦ subst (Leaves g.C.Cells c.args.cells.now) (sym w.cells-is) (leaves-on _ _ _ _ (leaves-on _ _ _ _ inv.leaves first.leaves) w.in_ok-o-in-CondenseWhere.ensures.leaves)
      | eval-else-demands w ↦ subst (Leaves g.C.Cells c.args.cells.now) (sym w.cells-is) (leaves-on _ _ _ _ inv.leaves first.leaves)
    ] in
    let failures : g.C.Cells.failures c.if-demands.cells ≡ g.C.Cells.failures c.args.cells.now = elim c.if-demands.branch [
      | eval-then-demands+in_ok-o-in-CondenseWhere w ↦ ap g.C.Cells.failures w.cells-is ∙ w.in_ok-o-in-CondenseWhere.ensures.reports ∙ first.reports ∙ inv.failures
      | eval-else-demands w ↦ ap g.C.Cells.failures w.cells-is ∙ first.reports ∙ inv.failures
    ] in
    let same : IsSame pushed c.if-demands.scope = elim c.if-demands.branch [
      | eval-then-demands+in_ok-o-in-CondenseWhere w ↦ subst (IsSame pushed) (sym w.scope-is) (same-on _ _ _ first.scope w.in_ok-o-in-CondenseWhere.ensures.scope)
      | eval-else-demands w ↦ subst (IsSame pushed) (sym w.scope-is) first.scope
    ] in
    let op : c.if-demands.running.op ≡ c.new-running.result.op = elim c.if-demands.branch [
      | eval-then-demands+in_ok-o-in-CondenseWhere w ↦ ap (λ (r : Running). r.op) w.running-is ∙ w.add.ensures.op ∙ c.demands.ensures.op ∙ inv.op
      | eval-else-demands w ↦ ap (λ (r : Running). r.op) w.running-is ∙ c.demands.ensures.op ∙ inv.op
    ] in
    let counted : c.if-demands.running.count ≤ c.loop-place.place + 1 = elim c.if-demands.branch [
      | eval-then-demands+in_ok-o-in-CondenseWhere w ↦
          (let u = ap (λ (r : Running). r.count) (c.demands.ensures.unchanged w.if-demands.true) in let v = ap (λ (r : Running). r.count) w.running-is in omega (arith, u, v, w.add.ensures.count, inv.counted))
      | eval-else-demands w ↦ (let v = ap (λ (r : Running). r.count) w.running-is in omega (arith, v, c.demands.ensures.count, inv.counted))
    ] in
    let vb = val s eb (env ++ x) [] in
    let vc = val s ec (env ++ x) [] in
    let fed : g.C.Cells.intact c.args.cells.now → (outs : List Outcome) → Fed c.loop-place.running outs → Fed c.if-demands.running (outs ++ demanded vc vb) = elim c.if-demands.branch [
      | eval-then-demands+in_ok-o-in-CondenseWhere w ↦
          (λ h. let o = w.in_ok-o-in-CondenseWhere.ensures.value (first.leaves.intact (inv.leaves.intact h))
          ∙ reached scope s _ _ _ (env ++ x) [] [] (only_tree w.deref-then-demands.result.now) (first.leaves.cells ∙ inv.leaves.cells) (first.scope.coverages ∙ inv.scope.coverages) (first.scope.iterators ∙ inner) refl
          ∙ ap (λ b. val s (renamed cs (only_tree b)) (env ++ x) []) w.deref-then-demands.ensures in
          fed-demanded _ _ _ _ _ _ vc vb w.running-is (c.demands.ensures.unchanged w.if-demands.true) (condition h) o (c.demands.ensures.demanded w.if-demands.true) w.add.ensures.fed)
      | eval-else-demands w ↦ (λ h. fed-otherwise _ _ _ _ vc vb w.running-is (condition h) (c.demands.ensures.otherwise w.if-demands.false))
    ] in
    record {
      leaves = leaves;
      failures = failures;
      scope = record {
        coverages = same.coverages ∙ inv.scope.coverages;
        iterators = c.truncate.ensures.items ∙ cut-back _ env x _ depth (same.iterators ∙ inner);
        points = same.points ∙ inv.scope.points;
        base = same.base ∙ inv.scope.base;
      };
      op = op;
      counted = counted;
      fed = λ h. fed_part (λ y. demanded (val s ec (env ++ y) []) (val s eb (env ++ y) [])) box c.loop-place.place (demanded vc vb) _ _ lt refl (fed h) (inv.fed h);
    }

-- a report of a later turn is one of the whole
pub condense-returns-in_err-o-clause-reports : goal.condense-returns-in_err-o-clause-reports
condense-returns-in_err-o-clause-reports g t c =
    let inv = c.loop-place.invariant in
    let p = err_from_is_err_and c.from_residual-in_err-o.result c.from_residual-in_err-o.ensures.1 in
    rw (p.1, p.2) (tells-from _ _ _ _ inv.leaves.intact inv.failures c.in_err-o.ensures.reports)

pub reduce-returns-in_err-o-clause-reports : goal.reduce-returns-in_err-o-clause-reports
reduce-returns-in_err-o-clause-reports g t c =
    let inv = c.loop-place.invariant in
    let p = err_from_is_err_and c.from_residual-in_err-o.result c.from_residual-in_err-o.ensures.1 in
    rw (p.1, p.2) (tells-from _ _ _ _ inv.leaves.intact inv.failures c.in_err-o.ensures.reports)

pub eval-returns-in_err-c-in-CondenseWhere-clause-reports : goal.eval-returns-in_err-c-in-CondenseWhere-clause-reports
eval-returns-in_err-c-in-CondenseWhere-clause-reports g t c =
    let inv = c.loop-place.invariant in
    let p = err_from_is_err_and c.from_residual-in_err-c-in-CondenseWhere.result c.from_residual-in_err-c-in-CondenseWhere.ensures.1 in
    rw (p.1, p.2) (tells-from _ _ _ _ inv.leaves.intact inv.failures c.in_err-c-in-CondenseWhere.ensures.reports)

pub eval-returns-in_err-o-in-CondenseWhere-clause-reports : goal.eval-returns-in_err-o-in-CondenseWhere-clause-reports
eval-returns-in_err-o-in-CondenseWhere-clause-reports g t c =
    let inv = c.loop-place.invariant in
    let before = c.in_ok-c-in-CondenseWhere.ensures in
    let p = err_from_is_err_and c.from_residual-in_err-o-in-CondenseWhere.result c.from_residual-in_err-o-in-CondenseWhere.ensures.1 in
    rw (p.1, p.2) (tells-from _ _ _ _ (λ h. before.leaves.intact (inv.leaves.intact h)) (before.reports ∙ inv.failures) c.in_err-o-in-CondenseWhere.ensures.reports)

-- a field of a record is the only one of the part at its place
pub eval-returns-in-None-clause-value : goal.eval-returns-in-None-clause-value
eval-returns-in-None-clause-value g t c =
    let past : length c.in-Record.parts.items ≤ c.args.field = search rules in
    let shown : field_tree c.args.e.now c.args.field ≡ number (pos 0) = ap (λ (n : Node). field_tree n c.args.field) c.in-Record.is ∙ record_none c.in-Record.parts c.args.field past in
    rw shown (search rules)

pub eval-returns-in-Some-clause-value : goal.eval-returns-in-Some-clause-value
eval-returns-in-Some-clause-value g t c =
    let inside : c.args.field < length c.in-Record.parts.items = search rules in
    let at : c.in-Some.part.now ≡ get_or c.in-Record.parts.items c.args.field c.in-Some.part.now = search rules in
    let shown : field_tree c.args.e.now c.args.field ≡ only_tree c.in-Some.part.now = ap (λ (n : Node). field_tree n c.args.field) c.in-Record.is ∙ record_part c.in-Record.parts c.args.field c.in-Some.part.now c.in-Some.part.now inside at in
    rw shown c.eval-in-Some.ensures.value

pub at_coordinate-eval-requires : goal.at_coordinate-eval-requires
at_coordinate-eval-requires g t c κs within = grind (arith, common_steps)

pub at_coordinate-remove-requires : goal.at_coordinate-remove-requires
at_coordinate-remove-requires g t c = grind (arith, common_steps)

pub at_coordinate-returns-clause-value : goal.at_coordinate-returns-clause-value
at_coordinate-returns-clause-value g t c = grind (arith, common_steps)

pub at_coordinate-returns-clause-scope : goal.at_coordinate-returns-clause-scope
at_coordinate-returns-clause-scope g t c = grind (arith, common_steps)

pub at_empty_point-returns-clause-value : goal.at_empty_point-returns-clause-value
at_empty_point-returns-clause-value g t c = grind (arith, common_steps)

pub at_iterators-returns-clause-value : goal.at_iterators-returns-clause-value
at_iterators-returns-clause-value g t c = grind (arith, common_steps)

pub at_iterators-returns-clause-scope : goal.at_iterators-returns-clause-scope
at_iterators-returns-clause-scope g t c = grind (arith, common_steps)

pub condense-returns-clause-value : goal.condense-returns-clause-value
condense-returns-clause-value g t c = grind (arith, common_steps)

pub eval-returns-in-List-clause-value : goal.eval-returns-in-List-clause-value
eval-returns-in-List-clause-value g t c = grind (arith, common_steps)

pub reduce-eval-requires : goal.reduce-eval-requires
reduce-eval-requires g t c κs within = grind (arith, common_steps)

pub reduce-returns-clause-value : goal.reduce-returns-clause-value
reduce-returns-clause-value g t c = grind (arith, common_steps)
