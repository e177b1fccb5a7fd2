-- Each place adds its value, or nothing.
use Rattle.std.proofs.Common.{◌≡◌, ◌∙◌, ◌++◌, ◌∷◌, [], ℤ, List, Vec, Global, length, take, take_all, sym, ap, arith, rules, SFits, w64, to_z-of_z}
use Rattle.std.proofs.lemmas.List.{append-nil}
use Rattle.std.proofs.lemmas.Grind.{common_steps}
use Rattle.wcps_mean.specs.declared.cell.Outcome.{Outcome}
use Rattle.wcps_mean.specs.Condensers.{values}
use Rattle.tile_kernel.proofs.Rising.{few_values, next_values}
use Rattle.tile_kernel.proofs.slots.values_of.Goals as goal
use Rattle.tile_kernel.proofs.slots.values_of.Goals.{in-Value+in_ok-push-in-Value, in-Fault}

pub loop-place-preserved : goal.loop-place-preserved
loop-place-preserved c =
    let before = values (take c.loop-place.place c.args.column.now) in
    let more = next_values c.args.column.now c.loop-place.place c.at.result c.at.ensures in
    elim c.match-at.branch [
      | in-Value+in_ok-push-in-Value w ↦
          let fits : SFits w64 w.in-Value.z = search rules in
          ap (λ (v : Vec ℤ Global). v.items) w.numbers-is ∙ w.in_ok-push-in-Value.ensures.items ∙ ap (λ (z : ℤ). c.loop-place.numbers.items ++ z ∷ []) (to_z-of_z fits)
          ∙ ap (λ (zs : List ℤ). zs ++ w.in-Value.z ∷ []) c.loop-place.invariant ∙ sym (more ∙ ap (λ (o : Outcome). before ++ values (o ∷ [])) w.in-Value.is)
      | in-Fault w ↦
          ap (λ (v : Vec ℤ Global). v.items) w.numbers-is ∙ c.loop-place.invariant ∙ sym (append-nil before)
          ∙ sym (more ∙ ap (λ (o : Outcome). before ++ values (o ∷ [])) w.in-Fault.is)
    ]

pub returns-clause-few : goal.returns-clause-few
returns-clause-few c =
    let column = c.args.column.now in
    let all : length c.loop-place.numbers.items ≡ length (values column) = ap length (c.loop-place.invariant ∙ ap values (take_all c.loop-place.place column (omega arith))) in
    let few = few_values column in
    omega (arith, all, few)

pub returns-clause-values : goal.returns-clause-values
returns-clause-values c = grind (arith, common_steps)
