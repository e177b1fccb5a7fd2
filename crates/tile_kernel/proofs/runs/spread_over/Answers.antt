-- One more value has been written as often as its count says.
use Rattle.std.proofs.Common.{◌∙◌, ◌++◌, sym, ap, arith, get_or, pos, take, SFits, w64, rules}
use Rattle.std.proofs.lemmas.Int.{to_z-of_z}
use Rattle.std.specs.Prelude.{replicate}
use Rattle.std.proofs.lemmas.Grind.{common_steps}
use Rattle.tile_kernel.proofs.Repeats.{sum-more, spread-more}
use Rattle.tile_kernel.proofs.runs.spread_over.Goals as goal

pub loop-run-preserved : goal.loop-run-preserved
loop-run-preserved c =
    let run = c.loop-run.run in
    let ns = c.args.counts.now in
    let zs = c.args.values.now in
    let s = sum-more ns run (omega arith) in
    let fits : SFits w64 (get_or zs run (pos 0)) = search rules in
    record {
      place = omega (arith, s, c.loop-run.invariant.place);
      front = c.write_run.ensures.front ∙ ap (λ z. take c.loop-run.place c.loop-run.out ++ replicate (get_or ns run 0) z) (to_z-of_z w64 (get_or zs run (pos 0)) fits)
          ∙ ap (λ l. l ++ replicate (get_or ns run 0) (get_or zs run (pos 0))) c.loop-run.invariant.front
          ∙ sym (spread-more zs ns run (omega arith) (omega arith));
    }

pub write_run-requires : goal.write_run-requires
write_run-requires c = grind (arith, common_steps)

pub overflow_add-place : goal.overflow_add-place
overflow_add-place c = grind (arith, common_steps)

pub returns-clause-front : goal.returns-clause-front
returns-clause-front c = grind (arith, common_steps)
