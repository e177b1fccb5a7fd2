-- What is held for the number stands at its place.
use Rattle.std.proofs.Common.{ap, sym, ◌∙◌}
use Rattle.raster_store.specs.declared.snapshot.Snapshot.{Snapshot}
use Rattle.raster_store.proofs.ReadFor.{for_held, for_none}
use Rattle.raster_store.proofs.snapshot.coverages_for.Goals as goal

pub returns-in-Some : goal.returns-in-Some
returns-in-Some c =
    rw c.deref.ensures.value
    (ap (λ (x : Snapshot). x.coverages.items) (sym c.index-snapshots-place.is)
    ∙ sym (for_held c.args.job c.args.own.now c.args.snapshots.now c.in-Some.place c.index-snapshots-place.result c.in-Some.ensures.some c.index-snapshots-place.is))

pub returns-in-None : goal.returns-in-None
returns-in-None c = sym (for_none c.args.job c.args.own.now c.args.snapshots.now c.in-None.ensures.none)
