-- The variables that are there stay, and those that are new come behind them.
use Rattle.tile_columns.proofs.Turns.{numbers_more, numbers_whole, more_whole}
use Rattle.std.proofs.Common.{rules, sym, subst}
use Rattle.std.specs.List.{All}
use Rattle.tile_columns.specs.Frames.{HasPlaces}
use Rattle.tile_columns.proofs.frame.push_numbers.Goals as goal

pub loop-z-preserved : goal.loop-z-preserved
loop-z-preserved c = record {
  numbers = λ place. numbers_more c.args.variables.now.items c.loop-z.variables.items _ c.args.numbers.now c.loop-z.z-index _ place c.in_ok-push.ensures.items (search rules) c.loop-z-test.true (c.loop-z.invariant.numbers place);
  whole = λ n h. more_whole n _ _ _ c.in_ok-push.ensures.items tt (c.loop-z.invariant.whole n h);
}

pub returns-clause-numbers : goal.returns-clause-numbers
returns-clause-numbers c = λ place. numbers_whole c.args.variables.now.items c.loop-z.variables.items c.args.numbers.now c.loop-z.z-index place c.loop-z-test.false (c.loop-z.invariant.numbers place)

pub returns-in_err-push-clause-whole : goal.returns-in_err-push-clause-whole
returns-in_err-push-clause-whole c = λ n h. subst (All (HasPlaces n)) (sym c.in_err-push.ensures.items) (c.loop-z.invariant.whole n h)
