-- One more place has its coordinate.
use Rattle.std.proofs.Common.{◌∙◌, ap, arith, rules, length, pos, SFits, w32, to_z, of_z}
use Rattle.std.proofs.lemmas.Int.{to_z-of_z}
use Rattle.tile_kernel.proofs.Results.{widened}
use Rattle.std.proofs.lemmas.List.FromFn.{fill_by_all}
use Rattle.tile_kernel.proofs.Places.{written_back}
use Rattle.tile_columns.specs.Frames.{turn}
use Rattle.tile_columns.proofs.Ranges.{written_more}
use Rattle.tile_columns.proofs.Turning.{turn_here, turn_start}
use Rattle.tile_columns.proofs.numbers.write_turns.Goals as goal

pub loop-place-init : goal.loop-place-init
loop-place-init c = record {
  written = λ k lt. absurd (omega arith);
  turn = turn_start c.args.every c.distance-last.result c.requires.some;
  low = omega arith;
  few = c.requires.some;
}

pub loop-place-preserved : goal.loop-place-preserved
loop-place-preserved c =
    let inv = c.loop-place.invariant in
    let n = c.turned-now.ensures.next c.loop-place.place inv.turn in
    let fits : SFits w32 c.coordinate.result = search rules in
    record {
      written = written_more (turn (to_z w32 (of_z w32 c.args.lo)) (to_z w32 (of_z w32 c.args.hi)) c.args.every) c.loop-place.all c.loop-place.place _ (pos 0) (omega arith)
          (widened c.coordinate.result fits ∙ c.coordinate.ensures
          ∙ turn_here (to_z w32 (of_z w32 c.args.lo)) (to_z w32 (of_z w32 c.args.hi)) c.args.every c.loop-place.place c.distance-last.result c.loop-place.now.step inv.turn.0 c.distance-last.ensures.gap) inv.written;
      turn = n;
      low = c.turned-now.ensures.step;
      few = c.turned-now.ensures.times;
    }

pub returns : goal.returns
returns c =
    let lo : SFits w32 c.args.lo = search rules in
    let hi : SFits w32 c.args.hi = search rules in
    written_back c.args.numbers.now.len c.loop-place.all _ (omega (arith, c.args.numbers.now.ok.0))
    ∙ fill_by_all (turn c.args.lo c.args.hi c.args.every) c.loop-place.all (length c.args.numbers.now.items) (pos 0) (omega (arith, c.args.numbers.now.ok.0)) (λ k lt.
    c.loop-place.invariant.written k (omega (arith, c.args.numbers.now.ok.0))
    ∙ ap (λ z. turn z (to_z w32 (of_z w32 c.args.hi)) c.args.every k) (to_z-of_z w32 c.args.lo lo)
    ∙ ap (λ z. turn c.args.lo z c.args.every k) (to_z-of_z w32 c.args.hi hi))
