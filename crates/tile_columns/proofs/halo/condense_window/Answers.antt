-- The windows of the halo's cells are those of the places.
use Rattle.std.proofs.Common.{◌∙◌, ◌*◌, [], ap, sym, subst, arith, map, length}
use Rattle.std.specs.List.{All}
use Rattle.std.proofs.Math.Nat.{mul-le-mul_right}
use Rattle.std.proofs.lemmas.Grind.{common_steps}
use Rattle.arr_core.specs.declared.domain.Axis.{Axis}
use Rattle.wcps_mean.specs.Condensers.{combined}
use Rattle.tile_columns.specs.Reaching.{between, extent, reached_by, EndsBy}
use Rattle.tile_columns.specs.Windows.{field_cells}
use Rattle.tile_columns.proofs.Grid.{points_cross, windows, windows_many, windows_cross}
use Rattle.tile_columns.proofs.halo.condense_window.Goals as goal

pub condense_windows-requires-clause-down : goal.condense_windows-requires-clause-down
condense_windows-requires-clause-down g c = λ k d lt.
    let w = c.args.window.now in
    let e = subst (All (EndsBy (extent w.rows.halo))) (sym c.deref-2.ensures.value) c.in_ok-down.ensures.within k d lt in
    let m = mul-le-mul_right c.size_of.result e.1 in
    let p = ap (λ n. extent w.rows.halo * n) c.size_of.ensures.value in
    let q = ap length c.deref.ensures.value in
    omega (arith, m, p, q, c.in_ok-cells.ensures.many)

pub write_outcomes-requires : goal.write_outcomes-requires
write_outcomes-requires g c =
    let w = c.args.window.now in
    let a = ap length (c.deref-4.ensures.value ∙ c.in_ok-condense_windows.ensures) ∙ windows_many (combined w.op) c.deref.result.now c.size_of.result c.deref-2.result.now c.deref-3.result.now in
    let b = ap (λ n. n * length c.deref-3.result.now) (ap length c.deref-2.ensures.value ∙ c.in_ok-down.ensures.many) ∙ ap (λ n. extent w.rows.places * n) (ap length c.deref-3.ensures.value ∙ c.in_ok-across.ensures.many) in
    let few = c.requires.ready.near.places in
    omega (arith, a, b, few)

pub returns-clause-value : goal.returns-clause-value
returns-clause-value g c = λ i.
    let w = c.args.window.now in
    let cell = field_cells (g.S.Tiles.state c.args.source.now) w in
    let rows : Axis = record { name = []; lo = w.rows.halo.lo; hi = w.rows.halo.hi } in
    let columns : Axis = record { name = []; lo = w.columns.halo.lo; hi = w.columns.halo.hi } in
    let cells = c.in_ok-cells.cells.items in
    let down = c.in_ok-down.down.items in
    let across = c.in_ok-across.across.items in
    let whole = c.in_ok-cells.ensures.value i ∙ ap (map cell) (sym (points_cross rows columns)) in
    c.write_outcomes.ensures ∙ c.deref-4.ensures.value ∙ c.in_ok-condense_windows.ensures
    ∙ ap (λ l. windows (combined w.op) l c.size_of.result c.deref-2.result.now c.deref-3.result.now) c.deref.ensures.value
    ∙ ap (λ n. windows (combined w.op) cells n c.deref-2.result.now c.deref-3.result.now) c.size_of.ensures.value
    ∙ ap (λ l. windows (combined w.op) cells (extent w.columns.halo) l c.deref-3.result.now) c.deref-2.ensures.value
    ∙ ap (λ l. windows (combined w.op) cells (extent w.columns.halo) down l) c.deref-3.ensures.value
    ∙ windows_cross (combined w.op) rows columns cell cells down across (reached_by w.rows) (reached_by w.columns) (between w.rows.places.lo w.rows.places.hi) (between w.columns.places.lo w.columns.places.hi)
    c.requires.ready.rows.some c.requires.ready.columns.some whole c.in_ok-down.ensures.within c.in_ok-across.ensures.within c.in_ok-down.ensures.reached c.in_ok-across.ensures.reached

pub returns-clause-places : goal.returns-clause-places
returns-clause-places g c =
    let w = c.args.window.now in
    let a = ap length (c.write_outcomes.ensures ∙ c.deref-4.ensures.value ∙ c.in_ok-condense_windows.ensures) ∙ windows_many (combined w.op) c.deref.result.now c.size_of.result c.deref-2.result.now c.deref-3.result.now in
    let b = ap (λ n. n * length c.deref-3.result.now) (ap length c.deref-2.ensures.value ∙ c.in_ok-down.ensures.many) ∙ ap (λ n. extent w.rows.places * n) (ap length c.deref-3.ensures.value ∙ c.in_ok-across.ensures.many) in
    a ∙ b

pub returns-in_err-cells-clause-value : goal.returns-in_err-cells-clause-value
returns-in_err-cells-clause-value g c = grind (arith, common_steps)

pub returns-in_err-cells-clause-places : goal.returns-in_err-cells-clause-places
returns-in_err-cells-clause-places g c = grind (arith, common_steps)

pub returns-in_err-cells-clause-reads : goal.returns-in_err-cells-clause-reads
returns-in_err-cells-clause-reads g c = grind (arith, common_steps)

pub returns-in_err-cells-clause-fetched : goal.returns-in_err-cells-clause-fetched
returns-in_err-cells-clause-fetched g c = grind (arith, common_steps)

pub returns-in_err-down-clause-value : goal.returns-in_err-down-clause-value
returns-in_err-down-clause-value g c = grind (arith, common_steps)

pub returns-in_err-down-clause-places : goal.returns-in_err-down-clause-places
returns-in_err-down-clause-places g c = grind (arith, common_steps)

pub returns-in_err-down-clause-reads : goal.returns-in_err-down-clause-reads
returns-in_err-down-clause-reads g c = grind (arith, common_steps)

pub returns-in_err-down-clause-fetched : goal.returns-in_err-down-clause-fetched
returns-in_err-down-clause-fetched g c = grind (arith, common_steps)

pub returns-in_err-across-clause-value : goal.returns-in_err-across-clause-value
returns-in_err-across-clause-value g c = grind (arith, common_steps)

pub returns-in_err-across-clause-places : goal.returns-in_err-across-clause-places
returns-in_err-across-clause-places g c = grind (arith, common_steps)

pub returns-in_err-across-clause-reads : goal.returns-in_err-across-clause-reads
returns-in_err-across-clause-reads g c = grind (arith, common_steps)

pub returns-in_err-across-clause-fetched : goal.returns-in_err-across-clause-fetched
returns-in_err-across-clause-fetched g c = grind (arith, common_steps)

pub returns-clause-reads : goal.returns-clause-reads
returns-clause-reads g c = grind (arith, common_steps)

pub returns-clause-fetched : goal.returns-clause-fetched
returns-clause-fetched g c = grind (arith, common_steps)
