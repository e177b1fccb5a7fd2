-- One more interval has bounds of 32 bits, and its axis comes behind the others.
use Rattle.std.proofs.Common.{◌≡◌, ◌<◌, ◌∷◌, [], ◌++◌, length, Some, refl, ap, ◌∙◌, arith}
use Rattle.std.specs.Prelude.{slice_get}
use Rattle.std.proofs.lemmas.Option.{slice_get_read}
use Rattle.arr_core.specs.declared.domain.Axis.{Axis}
use Rattle.coverage_server.specs.Machine.{FitBounds, axis_of}
use Rattle.coverage_server.proofs.ListLemmas.{map_more, all_more}
use Rattle.coverage_server.proofs.arguments.axes_of.Goals as goal

pub loop-interval-preserved : goal.loop-interval-preserved
loop-interval-preserved c =
    let intervals = c.args.intervals.now in
    let i = c.loop-interval.interval-index in
    let within : i < length intervals = omega arith in
    let fits = rw c.in-Some.is at c.in_ok-axis_of.ensures in
    let there : slice_get intervals i ≡ Some c.interval-item.result = slice_get_read intervals (length intervals) i c.interval-item.result refl within c.interval-item.is in (
      all_more FitBounds intervals i c.interval-item.result within there c.loop-interval.invariant.0 fits.0,
      c.in_ok-push-in-Some.ensures.items ∙ ap (λ (a : Axis). c.loop-interval.axes.items ++ a ∷ []) fits.1
          ∙ map_more axis_of intervals i c.interval-item.result c.loop-interval.axes.items c.loop-interval.invariant.1 there within,
    )
