-- The run that was read is the one that stands there.
use Rattle.std.proofs.Common.{ℤ, length, take, replicate, ◌++◌, Some, refl, sym, ap, ◌∙◌, arith, rules, SFits, w64, to_z-of_z, subst}
use Rattle.std.proofs.lemmas.List.{length-take-le}
use Rattle.run_tile.specs.Runs.{IsRun}
use Rattle.run_tile.specs.declared.run.Run.{Run}
use Rattle.run_tile.proofs.Spelling.{not-repeated, not-longer}
use Rattle.run_tile.proofs.Progress.{read-more}
use Rattle.run_tile.proofs.reading.read_run.Goals as goal
use Rattle.run_tile.proofs.reading.read_run.Goals.{then-not-is_run-via-then-not-is_run, then-not-is_run-via-else-not-is_run+then-repeats, then-not-is_run-via-else-not-is_run+else-repeats+then-cells-after}

pub returns-then-not-is_run-clause-damaged : goal.returns-then-not-is_run-clause-damaged
returns-then-not-is_run-clause-damaged c list len spelled =
    let kind = c.args.kind in
    let at = c.args.at in
    let was = c.requires.read in
    let read = c.read_at-run.ensures in
    let sound : IsRun kind c.read_at-run.result = subst (λ (r : Run). IsRun kind r) (sym read) (spelled.runs at.runs c.requires.inside) in
    elim c.then-not-is_run.branch [
      | then-not-is_run-via-then-not-is_run w ↦ let yes = c.is_run.ensures.1 sound in cc
      | then-not-is_run-via-else-not-is_run+then-repeats w ↦
          not-repeated kind c.args.bytes.now list at.runs spelled c.requires.inside (sym was.last_is ∙ w.repeats.ensures.0 w.if-repeats.true ∙ ap (λ (r : Run). Some r.value) read)
      | then-not-is_run-via-else-not-is_run+else-repeats+then-cells-after w ↦
          omega (arith, not-longer kind c.args.bytes.now list at.runs spelled c.requires.inside, ap (λ (r : Run). r.count) read, ap length was.cells_are, length-take-le at.cells c.args.cells.now was.within)
    ]

pub returns-clause-read : goal.returns-clause-read
returns-clause-read c =
    let sound : IsRun c.args.kind c.read_at-run.result = c.is_run.ensures.0 (search rules) in
    let fits : SFits w64 c.read_at-run.result.value = search rules in
    read-more c.args.kind _ _ c.args.cells.now c.write_run.new.cells c.args.at _ c.read_at-run.result c.requires.read (λ k l. refl) c.read_at-run.ensures sound (search rules) refl refl (ap (λ (z : ℤ). Some z) (to_z-of_z fits)) (search rules)
    (c.write_run.ensures.front ∙ ap (λ (z : ℤ). take c.args.at.cells c.args.cells.now ++ replicate c.read_at-run.result.count z) (to_z-of_z fits))
