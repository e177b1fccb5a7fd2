-- The next place is the same coordinate once more, the one above, or the first one again.
use Rattle.std.proofs.Common.{◌+◌}
use Rattle.tile_columns.proofs.Turning.{turned_same, turned_up, turned_over}
use Rattle.tile_columns.proofs.numbers.turned.Goals as goal

pub returns-then-times-every-clause-next : goal.returns-then-times-every-clause-next
returns-then-times-every-clause-next c = λ place at. turned_same place c.args.every (c.args.last + 1) c.args.now.step c.args.now.times at.0 at.1 c.if-times-every.true

pub returns-then-now-last-clause-next : goal.returns-then-now-last-clause-next
returns-then-now-last-clause-next c = λ place at. turned_up place c.args.every c.args.last c.args.now.step c.args.now.times at.0 at.1 c.requires.times c.if-times-every.false c.if-now-last.true

pub returns-clause-next : goal.returns-clause-next
returns-clause-next c = λ place at. turned_over place c.args.every c.args.last c.args.now.step c.args.now.times at.0 at.1 c.requires.times c.if-times-every.false c.if-now-last.false
