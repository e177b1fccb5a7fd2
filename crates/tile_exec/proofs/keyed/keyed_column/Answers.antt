-- What is known gives the column, else the pass does, at the next moment of the source.
use Rattle.std.proofs.Common.{◌≤◌, ◌+◌, arith}
use Rattle.std.specs.Prelude.{option_copied}
use Rattle.arr_core.specs.Domains.{points, count}
use Rattle.plan_ir.specs.Bodies.{body_view, fold_view}
use Rattle.plan_ir.specs.Units.{bound_times}
use Rattle.tile_columns.specs.Meaning.{IsColumnOf}
use Rattle.tile_columns.proofs.Fetching.{times_both}
use Rattle.tile_exec.specs.Known.{IsColumnBy}
use Rattle.tile_exec.proofs.Finding.{ok_map, on_ok}
use Rattle.tile_exec.proofs.Knowing.{column_before, times_least, no_times}
use Rattle.tile_exec.proofs.keyed.keyed_column.Goals as goal

pub returns-in-Some-clause-fetched : goal.returns-in-Some-clause-fetched
returns-in-Some-clause-fetched g c =
    let n = count c.args.part.now in
    let f = c.in_ok-column.ensures.fetched in
    let t = times_both n n (body_view c.args.key.now.body.now) in
    let z = times_least 0 1 (fold_view c.args.key.now.fold.now) (omega arith) in
    omega (arith, f, t, z)

pub returns-in-None-clause-value : goal.returns-in-None-clause-value
returns-in-None-clause-value g c =
    let s = g.S.Tiles.state c.args.source.now in
    let now = g.S.Tiles.state c.known_column.new.source in
    let only = c.known_column.ensures.reads.only in
    let body = fold_view c.args.key.now.fold.now in
    let qs = points c.args.part.now in
    ok_map c.pass_column.result (λ x. IsColumnOf now c.args.ground.now body qs x) (λ x. IsColumnBy s c.args.ground.now c.args.part.now c.args.key.now (option_copied c.args.known) x)
    (λ x is knows i. column_before s now c.args.ground.now body qs x only.cells (is (only.intact i))) c.pass_column.ensures.value

pub returns-in-None-clause-fetched : goal.returns-in-None-clause-fetched
returns-in-None-clause-fetched g c =
    let s = g.S.Tiles.state c.args.source.now in
    let now = g.S.Tiles.state c.known_column.new.source in
    let later = g.S.Tiles.state c.pass_column.new.source in
    let n = count c.args.part.now in
    let key = body_view c.args.key.now.body.now in
    let body = fold_view c.args.key.now.fold.now in
    let f = c.in_ok-column.ensures.fetched in
    let t = times_both n n key in
    let z = no_times body in
    on_ok c.pass_column.result (later.fetched ≤ now.fetched + (bound_times n key + bound_times 1 body)) (later.fetched ≤ s.fetched + (bound_times (n + n) key + bound_times 1 body))
    (λ h. omega (arith, f, h, t, z)) c.pass_column.ensures.fetched
