-- What is listed in 32 bits has room there.
use Rattle.std.proofs.Common.{sym, ◌∙◌, true≢false, arith}
use Rattle.std.proofs.lemmas.Grind.{common_steps}
use Rattle.run_tile.proofs.ShortValues.{raw-short}
use Rattle.run_tile.proofs.narrow.list_raw.Goals as goal
use Rattle.run_tile.proofs.narrow.list_raw.Goals.{then-is_narrow, else-is_narrow}

pub read_raw-requires : goal.read_raw-requires
read_raw-requires c k =
    elim c.if-is_narrow.branch [
      | then-is_narrow w ↦ raw-short c.args.kind c.args.bytes.now k (c.is_narrow.ensures.0 w.if-is_narrow.true) (λ i. (c.type_inv.bytes i).fits)
      | else-is_narrow w ↦ absurd (true≢false (sym c.if-runs.true ∙ w.runs2-is ∙ w.if-is_narrow.false))
    ]

pub returns-then-runs-clause-spelled : goal.returns-then-runs-clause-spelled
returns-then-runs-clause-spelled c = grind (arith, common_steps)

pub returns-then-runs-clause-counted : goal.returns-then-runs-clause-counted
returns-then-runs-clause-counted c = grind (arith, common_steps)

pub returns-else-runs-clause-spelled : goal.returns-else-runs-clause-spelled
returns-else-runs-clause-spelled c = grind (arith, common_steps)

pub returns-else-runs-clause-counted : goal.returns-else-runs-clause-counted
returns-else-runs-clause-counted c = grind (arith, common_steps)

pub returns-else-runs-clause-room : goal.returns-else-runs-clause-room
returns-else-runs-clause-room c = grind (arith, common_steps)
