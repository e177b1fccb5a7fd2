-- The cells at the points of the rows.
use Rattle.std.proofs.Common.{◌∙◌, ◌++◌, ap, subst, arith, length}
use Rattle.std.specs.List.{All}
use Rattle.arr_core.specs.declared.signature.Signature.{Signature}
use Rattle.arr_core.specs.Domains.{IsInside}
use Rattle.plan_ir.specs.declared.body.Index.TheVariants.{Var}
use Rattle.plan_ir.specs.Run.{numbers_at}
use Rattle.tile_columns.specs.Reaching.{Encloses}
use Rattle.tile_columns.proofs.Halos.{covers_item, rows_enclosed, rows_inside, rows_value, rows_many, fetch_few}
use Rattle.std.specs.Prelude.{[], ◌∷◌}
use Rattle.tile_columns.proofs.halo.read_rows.Goals as goal

pub narrow-requires : goal.narrow-requires
narrow-requires g c =
    let w = c.args.window.now in
    let item = c.index-ground-window.result in
    subst (λ (y : Signature). Encloses y.domain (record { rows = c.args.rows; columns = w.columns.halo })) c.index-ground-window.is
    (rows_enclosed w item c.args.rows (covers_item w c.args.ground.now.signatures.now w.place item c.index-ground-window.is c.requires.there) c.requires.rows)

pub push_cells-requires-clause-inside : goal.push_cells-requires-clause-inside
push_cells-requires-clause-inside g c =
    let w = c.args.window.now in
    let item = c.index-ground-window.result in
    let x = c.in_ok-area.ensures in
    subst (λ (y : Signature). All (λ e. IsInside y.domain (numbers_at e (Var 0 ∷ Var 1 ∷ []))) c.in_ok-frame.frame) c.index-ground-window.is
    (rows_inside w item c.args.rows c.in_ok-area.area c.in_ok-frame.frame (covers_item w c.args.ground.now.signatures.now w.place item c.index-ground-window.is c.requires.there) c.requires.rows x c.in_ok-frame.ensures)

pub returns-clause-value : goal.returns-clause-value
returns-clause-value g c = λ i.
    let w = c.args.window.now in
    let x = c.in_ok-area.ensures in
    c.in_ok-push_cells.ensures.value i
    ∙ ap (λ l. c.args.cells.now.items ++ l) (rows_value ((g.S.Tiles.state c.args.source.now).cells w.place w.pattern.field) (record { rows = c.args.rows; columns = w.columns.halo }) c.in_ok-area.area c.in_ok-frame.frame x c.in_ok-frame.ensures)

pub returns-clause-many : goal.returns-clause-many
returns-clause-many g c =
    let w = c.args.window.now in
    let x = c.in_ok-area.ensures in
    let e = ap length c.in_ok-frame.ensures in
    let m = rows_many (record { rows = c.args.rows; columns = w.columns.halo }) c.in_ok-area.area x in
    omega (arith, e, m, c.in_ok-push_cells.ensures.many)

pub returns-clause-fetched : goal.returns-clause-fetched
returns-clause-fetched g c =
    let w = c.args.window.now in
    let x = c.in_ok-area.ensures in
    fetch_few _ _ _ c.in_ok-frame.frame _ (ap length c.in_ok-frame.ensures ∙ rows_many (record { rows = c.args.rows; columns = w.columns.halo }) c.in_ok-area.area x) c.in_ok-push_cells.ensures.fetched
