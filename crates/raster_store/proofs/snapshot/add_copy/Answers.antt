-- A name that is there has its coverage already, and one that is not gets it.
use Rattle.raster_store.proofs.Copied.{copied_there, copied_more}
use Rattle.raster_store.proofs.snapshot.add_copy.Goals as goal

pub returns-in-Some : goal.returns-in-Some
returns-in-Some c = copied_there _ _ _ c.in-Some.field-0 (rw c.as_slice.ensures.value at c.in-Some.ensures.some)

pub returns-in_ok-push-in-None : goal.returns-in_ok-push-in-None
returns-in_ok-push-in-None c =
    let copied = c.in_ok-copy-in-None.ensures in
    rw c.in_ok-push-in-None.ensures.items (copied_more _ _ _ c.named.result.now c.in_ok-copy-in-None.copy (rw c.as_slice.ensures.value at c.in-None.ensures.none) c.named.ensures copied.version copied.signature copied.fields)
