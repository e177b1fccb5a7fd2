-- Bytes that are no whole runs, or more of them than cells are wanted, spell no cells.
use Rattle.std.proofs.Common.{ℕ, ◌+◌, ◌/◌, length, ap, arith, rules}
use Rattle.std.proofs.lemmas.Grind.{common_steps}
use Rattle.run_tile.proofs.Lists.{few-runs}
use Rattle.run_tile.proofs.listing.list_runs.Goals as goal
use Rattle.run_tile.proofs.listing.list_runs.Goals.{then-bytes-size-ne0-via-then-bytes-size-ne0, then-bytes-size-ne0-via-else-bytes-size-ne0+then-len-count}

pub returns-then-bytes-size-ne0-clause-damaged : goal.returns-then-bytes-size-ne0-clause-damaged
returns-then-bytes-size-ne0-clause-damaged c _ list len spelled =
    elim c.then-bytes-size-ne0.branch [
      | then-bytes-size-ne0-via-then-bytes-size-ne0 w ↦ (let whole = spelled.whole in search rules)
      | then-bytes-size-ne0-via-else-bytes-size-ne0+then-len-count w ↦ omega (arith, w.if-len-count.true, len, few-runs c.args.kind c.args.bytes.now list spelled, ap (λ (n : ℕ). length c.args.bytes.now / (2 + n)) c.width-size.ensures)
    ]

pub returns-then-read_values-clause-spelled : goal.returns-then-read_values-clause-spelled
returns-then-read_values-clause-spelled c = grind (arith, common_steps)

pub returns-then-read_values-clause-counted : goal.returns-then-read_values-clause-counted
returns-then-read_values-clause-counted c = grind (arith, common_steps)

pub returns-then-read_values-clause-counts : goal.returns-then-read_values-clause-counts
returns-then-read_values-clause-counts c = grind (arith, common_steps)

pub returns-then-read_values-clause-room : goal.returns-then-read_values-clause-room
returns-then-read_values-clause-room c = grind (arith, common_steps)

pub returns-else-read_values-clause-room : goal.returns-else-read_values-clause-room
returns-else-read_values-clause-room c = grind (arith, common_steps)
