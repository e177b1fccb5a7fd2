-- What is found, else what was known, gives the column.
use Rattle.std.proofs.Common.{◌∙◌, ◌∷◌, [], ap, arith}
use Rattle.std.specs.Prelude.{option_copied}
use Rattle.tile_exec.proofs.Knowing.{keyed_at, keyed_later, keyed_column_so, all_costs}
use Rattle.tile_exec.proofs.keyed.keyed_columns.Goals as goal

pub keyed_column-requires-clause-keyed : goal.keyed_column-requires-clause-keyed
keyed_column-requires-clause-keyed g c =
    let s = g.S.Tiles.state c.args.source.now in
    let now = g.S.Tiles.state c.found_at.new.source in
    let at = c.args.at.now in
    let only = c.found_at.ensures.reads.only in
    keyed_at now c.args.ground.now at.area.now at.part.now c.args.key.now (keyed_later s now c.args.ground.now at.area.now c.args.key.now only.coverages c.requires.keyed) c.requires.part.0 c.axes-axes.ensures.domain.ordered c.requires.some

pub returns-clause-value : goal.returns-clause-value
returns-clause-value g c = λ knows i.
    let s = g.S.Tiles.state c.args.source.now in
    let now = g.S.Tiles.state c.found_at.new.source in
    let at = c.args.at.now in
    let only = c.found_at.ensures.reads.only in
    c.in_ok-columns.ensures
    ∙ ap (λ l. l ∷ []) (keyed_column_so s now c.args.ground.now at.area.now at.part.now c.args.key.now c.in_ok-found.found (option_copied c.known_after-known.result) (option_copied at.known) c.in_ok-column.column only.cells i (only.intact i) c.requires.part.0
    c.known_after-known.ensures.found c.known_after-known.ensures.before c.in_ok-found.ensures.value knows c.in_ok-column.ensures.value)

pub returns-clause-fetched : goal.returns-clause-fetched
returns-clause-fetched g c =
    let at = c.args.at.now in
    let a = c.in_ok-found.ensures.fetched in
    let b = c.in_ok-column.ensures.fetched in
    let all = all_costs at.area.now at.part.now c.args.key.now c.requires.part.1 in
    omega (arith, a, b, all)
