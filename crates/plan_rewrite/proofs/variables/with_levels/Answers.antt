-- One more axis has its variable, at the next level.
use Rattle.std.proofs.Common.{◌≡◌, ◌+◌, ◌∙◌, ap, sym, arith, [], ◌∷◌, ◌++◌, append_assoc, length, take, suc}
use Rattle.std.proofs.lemmas.Grind.{common_steps}
use Rattle.plan_ir.specs.declared.body.Index.TheVariants.{Var}
use Rattle.plan_ir.specs.Placed.{spans}
use Rattle.plan_rewrite.specs.Inlining.{levels}
use Rattle.plan_rewrite.proofs.Scopes.{levels-more}
use Rattle.plan_rewrite.proofs.variables.with_levels.Goals as goal

pub loop-axis-preserved : goal.loop-axis-preserved
loop-axis-preserved c =
    let inv = c.loop-axis.invariant in
    let n = length c.args.scope.now in
    let env = c.args.env.now in
    let axes = c.args.axes.now in
    let k = c.loop-axis._axis-index in
    let next : k + 1 ≡ suc k = omega arith in
    record {
      items = c.in_ok-push.ensures.items ∙ ap (λ l. l ++ Var c.loop-axis.level ∷ []) inv.items
          ∙ append_assoc env (levels n (spans (take k axes))) (Var c.loop-axis.level ∷ [])
          ∙ ap (λ l. env ++ l) (ap (λ m. levels n (spans (take k axes)) ++ Var m ∷ []) inv.level ∙ sym (levels-more n axes k (omega arith)))
          ∙ ap (λ m. env ++ levels n (spans (take m axes))) (sym next);
      level = omega (arith, inv.level);
    }

pub returns : goal.returns
returns c = grind (arith, common_steps)
