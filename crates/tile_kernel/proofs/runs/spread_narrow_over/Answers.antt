-- One more value has been written as often as its count says.
use Rattle.std.proofs.Common.{◌≡◌, ◌∙◌, ◌++◌, sym, ap, arith, get_or, pos, take, IsTrue, SFits, w32, w64, to_z, of_z, rules}
use Rattle.std.proofs.lemmas.Int.{to_z-of_z}
use Rattle.std.specs.Prelude.{replicate}
use Rattle.std.proofs.lemmas.Grind.{common_steps}
use Rattle.tile_kernel.proofs.Repeats.{sum-more, spread-more}
use Rattle.tile_kernel.proofs.runs.spread_narrow_over.Goals as goal

pub loop-run-preserved : goal.loop-run-preserved
loop-run-preserved c =
    let run = c.loop-run.run in
    let ns = c.args.counts.now in
    let zs = c.args.values.now in
    let z = get_or zs run (pos 0) in
    let s = sum-more ns run (omega arith) in
    let wide : SFits w64 z = search rules in
    let told : IsTrue c.is_narrow.result = search rules in
    let narrow : SFits w32 z = rw (to_z-of_z w64 z wide) at (c.is_narrow.ensures told) in
    let same : to_z w32 (of_z w32 (to_z w64 (of_z w64 z))) ≡ z = ap (λ y. to_z w32 (of_z w32 y)) (to_z-of_z w64 z wide) ∙ to_z-of_z w32 z narrow in
    record {
      from = omega (arith, s, c.loop-run.invariant.from);
      front = c.write_blocks.ensures.front ∙ ap (λ y. take c.loop-run.from c.loop-run.out ++ replicate (get_or ns run 0) y) same
          ∙ ap (λ l. l ++ replicate (get_or ns run 0) z) c.loop-run.invariant.front
          ∙ sym (spread-more zs ns run (omega arith) (omega arith));
    }

pub write_blocks-requires : goal.write_blocks-requires
write_blocks-requires c = grind (arith, common_steps)

pub overflow_add-from : goal.overflow_add-from
overflow_add-from c = grind (arith, common_steps)

pub returns-clause-front : goal.returns-clause-front
returns-clause-front c = grind (arith, common_steps)
