-- The coverage with the name is found, its field may have the cells, and they are written as numbers.
use Rattle.std.proofs.Common.{arith}
use Rattle.std.proofs.lemmas.Result.{err_from_is_err_and}
use Rattle.raster_store.proofs.Cells.{refuses_cells, refuses_device}
use Rattle.raster_store.proofs.Readings.{known_named}
use Rattle.raster_store.proofs.Snapshots.{seen, passes_same}
use Rattle.raster_store.proofs.store.RasterStore.write_cells.Goals as goal

pub numbers_for-requires : goal.numbers_for-requires
numbers_for-requires g c =
    let k = known_named _ _ c.args.name.now _ c.self.invariant.is_held (rw c.deref.ensures.value at c.named-coverage.ensures) in
    rw (← c.self.view_is, k.at) at c.requires.field

pub returns-in_err-numbers-clause-why : goal.returns-in_err-numbers-clause-why
returns-in_err-numbers-clause-why g c =
    let k = known_named _ _ c.args.name.now _ c.self.invariant.is_held (rw c.deref.ensures.value at c.named-coverage.ensures) in
    let p = err_from_is_err_and c.from_residual.result c.from_residual.ensures.1 in
    rw (← c.self.view_is, p.1, p.2) (refuses_cells c.in_err-numbers.field-0.0 (rw k.at c.in_err-numbers.ensures.refused) c.in_err-numbers.ensures.fault)

pub write_numbers-requires : goal.write_numbers-requires
write_numbers-requires g c =
    let k = known_named _ _ c.args.name.now _ c.self.invariant.is_held (rw c.deref.ensures.value at c.named-coverage.ensures) in
    let stored = c.in_ok-numbers.ensures.stored in
    rw (← c.self.view_is, k.at) (record { patch = (stored.0.0, stored.1) })

pub returns-in_err-write_numbers-clause-why : goal.returns-in_err-write_numbers-clause-why
returns-in_err-write_numbers-clause-why g c =
    let k = known_named _ _ c.args.name.now _ c.self.invariant.is_held (rw c.deref.ensures.value at c.named-coverage.ensures) in
    let stored = c.in_ok-numbers.ensures.stored in
    let why = rw (← c.self.view_is, stored.2) at c.in_err-write_numbers.ensures.why in
    let p = err_from_is_err_and c.from_residual-in_err-write_numbers.result c.from_residual-in_err-write_numbers.ensures.1 in
    rw (← c.self.view_is, p.1, p.2) (refuses_device c.in_err-write_numbers.field-0.0 (rw k.at stored.0) why)

pub returns-clause-done : goal.returns-clause-done
returns-clause-done g c =
    let k = known_named _ _ c.args.name.now _ c.self.invariant.is_held (rw c.deref.ensures.value at c.named-coverage.ensures) in
    let stored = c.in_ok-numbers.ensures.stored in
    (rw (← c.self.view_is, k.at) stored.0, rw stored.2 at c.in_ok-write_numbers.ensures.done)

pub returns-in_err-numbers-clause-snapshots : goal.returns-in_err-numbers-clause-snapshots
returns-in_err-numbers-clause-snapshots g c =
    let stay = seen _ _ _ _ c.self.inside.snapshots.items (passes_same _ _) c.self.invariant.snapshots in
    rw (← c.self.view_is) (record { told = stay.told; values = stay.values; intact = stay.intact })

pub returns-in_err-numbers-clause-grows : goal.returns-in_err-numbers-clause-grows
returns-in_err-numbers-clause-grows g c = rw (← c.self.view_is) (λ sure n needs. omega arith)

pub returns-in_err-write_numbers-clause-grows : goal.returns-in_err-write_numbers-clause-grows
returns-in_err-write_numbers-clause-grows g c = rw c.in_ok-numbers.ensures.stored.2 at c.in_err-write_numbers.ensures.grows

pub returns-clause-grows : goal.returns-clause-grows
returns-clause-grows g c = rw c.in_ok-numbers.ensures.stored.2 at c.in_ok-write_numbers.ensures.grows
