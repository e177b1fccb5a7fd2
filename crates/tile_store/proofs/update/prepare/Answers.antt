-- Where a write is refused it gives back what it took.
use Rattle.std.proofs.Common.{rules, arith, refl}
use Rattle.tile_store.proofs.Exchanged.{ready_of, sized_ready}
use Rattle.tile_store.proofs.Growth.{grows_for, grows_unwritten}
use Rattle.tile_store.proofs.Takes.{covers_taken, gave_back, refuses_as}
use Rattle.tile_store.proofs.update.prepare.Goals as goal

pub write_tiles-requires-clause-tiles : goal.write_tiles-requires-clause-tiles
write_tiles-requires-clause-tiles g c = rw c.deref-2.ensures.value c.in_ok-tiles.ensures

pub give_back-requires : goal.give_back-requires
give_back-requires g c = rw c.deref-in-Err.ensures.value (covers_taken _ _ _ c.in-Err.ensures.takes)

pub returns-in-Err-clause-kept : goal.returns-in-Err-clause-kept
returns-in-Err-clause-kept g c = gave_back _ _ _ _ c.in-Err.ensures.takes (rw c.deref-in-Err.ensures.value at c.give_back.ensures)

pub returns-in-Err-clause-why : goal.returns-in-Err-clause-why
returns-in-Err-clause-why g c rest =
    refuses_as (λ x is. search rules) c.in-Err.ensures.why (λ damaged. damaged) (λ lacking honest.
    (let less = rw c.deref-2.ensures.value at (lacking honest) in (c.in_ok-tiles.tiles.items, c.in_ok-tiles.ensures, omega (arith, less))))

pub returns-in_err-tiles-clause-grows : goal.returns-in_err-tiles-clause-grows
returns-in_err-tiles-clause-grows g c = grows_unwritten c.args.patch.now c.args.field.now (g.B.Blocks.state c.args.blocks.now) (g.B.Blocks.state c.args.blocks.now) refl

pub returns-in_err-replaced-clause-grows : goal.returns-in_err-replaced-clause-grows
returns-in_err-replaced-clause-grows g c = grows_unwritten c.args.patch.now c.args.field.now (g.B.Blocks.state c.args.blocks.now) (g.B.Blocks.state c.args.blocks.now) refl

pub returns-in-Err-clause-grows : goal.returns-in-Err-clause-grows
returns-in-Err-clause-grows g c = grows_for c.args.patch.now c.args.field.now _ c.in_ok-tiles.tiles.items _ _ (g.B.Blocks.state c.give_back.new.self) c.in_ok-tiles.ensures c.in-Err.ensures.takes (rw c.deref-2.ensures.value at c.in-Err.ensures.few) c.give_back.ensures.content

pub returns-clause-grows : goal.returns-clause-grows
returns-clause-grows g c = grows_for c.args.patch.now c.args.field.now _ c.in_ok-tiles.tiles.items _ _ (g.B.Blocks.state c.write_tiles.new.blocks) c.in_ok-tiles.ensures c.in_default.ensures.takes (rw c.deref-2.ensures.value at c.in_default.ensures.few) refl

pub new_size-size-requires : goal.new_size-size-requires
new_size-size-requires g c =
    rw (c.deref-3.ensures.value, c.deref-4.ensures.value) (sized_ready c.axes-axes.ensures.domain c.index.ensures.index c.in_ok-tiles.ensures (rw c.deref-2.ensures.value at c.in_default.ensures.written))

pub returns-clause-ready : goal.returns-clause-ready
returns-clause-ready g c =
    ready_of _ _ _ _ c.in_ok-tiles.tiles.items _ c.axes-axes.ensures.domain c.index.ensures.index c.in_ok-tiles.ensures (rw (c.index.ensures.value, c.deref.ensures.value) at c.in_ok-replaced.ensures) (rw c.deref-2.ensures.value at c.in_default.ensures.written)
    c.in_default.ensures.takes (rw (c.deref-3.ensures.value, c.deref-4.ensures.value) at c.new_size-size.ensures)
