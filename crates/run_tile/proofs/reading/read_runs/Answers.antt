-- What was read to the end is what the bytes spell.
use Rattle.std.proofs.Common.{◌≡◌, ◌+◌, ◌%◌, length, rules, arith, le_antisymm, div-add-mod'}
use Rattle.std.proofs.lemmas.Bool.Decides.{Decides-eqb}
use Rattle.run_tile.specs.Runs.{run_size}
use Rattle.run_tile.proofs.Progress.{read-none, read-all, read-count}
use Rattle.run_tile.proofs.reading.read_runs.Goals as goal

pub parts-init : goal.parts-init
parts-init c = record { read = read-none c.args.kind c.args.bytes.now c.args.cells.now; inside = omega arith }

pub returns-clause-spelled : goal.returns-clause-spelled
returns-clause-spelled c same =
    let all = le_antisymm c.parts.invariant.inside (rw c.width-size.ensures at c.parts-test.false) in
    let rest : length c.args.bytes.now % (2 + c.width-size.result) ≡ 0 = search rules in
    let none = rw c.width-size.ensures at rest in
    read-all c.args.kind c.args.bytes.now c.parts.cells c.parts.at c.parts.invariant.read (omega (arith, div-add-mod' (length c.args.bytes.now) (run_size c.args.kind))) all (omega (arith, (Decides-eqb _ _).0 same))

pub returns-clause-damaged : goal.returns-clause-damaged
returns-clause-damaged c other list len spelled =
    let all = le_antisymm c.parts.invariant.inside (rw c.width-size.ensures at c.parts-test.false) in
    let count = read-count c.args.kind c.args.bytes.now c.parts.cells list c.parts.at c.parts.invariant.read spelled all in
    let yes = (Decides-eqb c.parts.at.cells (length c.parts.cells)).1 (omega (arith, count, len)) in
    cc
