-- The search finds a pair of the number.
use Rattle.std.proofs.Common.{ap, rules, w64}
use Rattle.std.proofs.lemmas.Int.{to_z-of_z}
use Rattle.std.proofs.lemmas.List.Sorted.{answers_always}
use Rattle.wcps_mean.specs.declared.cell.Outcome.TheVariants.{Value}
use Rattle.tile_exec.proofs.Knowing.{found_pair}
use Rattle.tile_exec.proofs.known.Known.outcome_of.Goals as goal

pub returns-in-Ok : goal.returns-in-Ok
returns-in-Ok c =
    found_pair c.args.self.now.outcomes.items c.deref.result.now c.in-Ok.place _ (Value c.args.number) c.index.result.now c.deref.ensures.value c.in-Ok.ensures.bound c.index.ensures (ap Value (to_z-of_z w64 c.args.number c.ranges.number))
    (c.in-Ok.ensures.position (λ k. k.number) (answers_always _ _ _ (λ f a r g called. search rules)))
