-- What is kept of the values stands for their outcomes.
use Rattle.std.proofs.Common.{◌∙◌, sym, ap, subst, arith, pos, length, map, get_or, Some}
use Rattle.std.proofs.lemmas.List.{length-map, get_or-map}
use Rattle.wcps_mean.specs.declared.cell.Outcome.TheVariants.{Value}
use Rattle.wcps_mean.specs.Feeding.{Keeps}
use Rattle.tile_kernel.specs.Selected.{selected}
use Rattle.tile_kernel.proofs.Reductions.{selected_all}
use Rattle.tile_kernel.proofs.Tellings.{stands_taken, each_anywhere}
use Rattle.tile_kernel.proofs.folds.condense_values_narrow.Goals as goal

pub returns-clause-stands : goal.returns-clause-stands
returns-clause-stands c =
    let zs = c.args.values.now in
    let r = c.condense_narrow-running.result in
    let kept = c.condense_narrow-running.ensures in
    let long = length-map zs Value in
    each_anywhere (Some (record { running = r; place = 0 })) (map Value zs)
    (stands_taken r (λ k. 1) (λ k. get_or zs k (pos 0)) (length zs) (map Value zs) (sym long)
    (λ k lt. get_or-map Value zs k (pos 0) (Value (pos 0)) (omega (arith, lt, long)))
    (kept.count ∙ sym (ap length (selected_all zs))) kept.fault
    (subst (λ op. Keeps op r (selected (λ k. 1) (λ k. get_or zs k (pos 0)) (length zs))) (sym kept.op) (subst (Keeps c.args.op r) (sym (selected_all zs)) kept.kept)))
