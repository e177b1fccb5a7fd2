-- Each value counts as often as its run goes on.
use Rattle.std.proofs.Common.{◌≡◌, ◌∙◌, ◌≤◌, arith, length, ap, subst, List}
use Rattle.std.specs.Prelude.{IfSome}
use Rattle.wcps_mean.specs.declared.cell.Outcome.{Outcome}
use Rattle.tile_kernel.specs.Repeated.{repeated}
use Rattle.tile_kernel.specs.Standing.{StandsAnywhere}
use Rattle.tile_kernel.proofs.Repeats.{length-heads}
use Rattle.tile_kernel.proofs.Tellings.{runs_anywhere, counted_all}
use Rattle.tile_kernel.proofs.folds.condense_runs.Goals as goal

pub condense_view-requires : goal.condense_view-requires
condense_view-requires c =
    let runs = c.args.runs.now in
    let few : length runs.counts.now ≤ length runs.values.now = omega arith in
    let long : length c.heads.result ≡ length runs.counts.now = ap length c.heads.ensures ∙ length-heads runs.values.now (length runs.counts.now) few in
    let all = counted_all runs.counts.now (length c.heads.result) long in
    record { places = omega arith; few = omega (arith, all, runs.total, runs.few) }

pub returns-clause-stands : goal.returns-clause-stands
returns-clause-stands c =
    let runs = c.args.runs.now in
    let few : length runs.counts.now ≤ length runs.values.now = omega arith in
    let long : length c.heads.result ≡ length runs.counts.now = ap length c.heads.ensures ∙ length-heads runs.values.now (length runs.counts.now) few in
    subst (λ (l : List Outcome). IfSome c.condense_view.result (λ a. StandsAnywhere a (repeated l runs.counts.now))) c.heads.ensures
    (runs_anywhere c.condense_view.result c.heads.result runs.counts.now long c.condense_view.ensures.stands)
