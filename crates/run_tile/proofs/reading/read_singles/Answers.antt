-- The run of one cell that was read is the one that stands there.
use Rattle.std.proofs.Common.{◌≡◌, ℤ, ◌+◌, Some, ap, refl, arith, rules, SFits, w64, to_z-of_z}
use Rattle.run_tile.specs.Runs.{IsRun}
use Rattle.run_tile.specs.declared.reading.Progress.{Progress}
use Rattle.run_tile.proofs.Progress.{read-more}
use Rattle.run_tile.proofs.reading.read_singles.Goals as goal

pub loop-k-preserved : goal.loop-k-preserved
loop-k-preserved c =
    let run = c.read_at-run.result in
    let at : Progress = record { runs = c.args.at.runs + c.loop-k.k; cells = c.args.at.cells + c.loop-k.k; last = c.loop-k.last } in
    let one : run.count ≡ 1 = c.if-run-ne1.false in
    let fits : SFits w64 run.value = search rules in
    let sound : IsRun c.args.kind run = c.is_run.ensures.0 (search rules) in
    read-more c.args.kind _ _ c.loop-k.cells c.write_cell.new.cells at _ run c.loop-k.invariant (λ k l. refl) c.read_at-run.ensures sound (search rules) (omega arith) (omega arith) (ap (λ (z : ℤ). Some z) (to_z-of_z fits)) (search rules) c.write_cell.ensures
