-- Each cell of a tile lies in the item; the tile is kept, and after the last one the item or its fault is given.
use Rattle.std.proofs.Common.{arith, ◌∙◌, ◌-◌, subst, sym, ap, ◌<◌, length, ℕ}
use Rattle.std.specs.List.{All}
use Rattle.arr_core.specs.declared.cell.Cell.{Cell}
use Rattle.tile_exec.specs.declared.found.Found.TheVariants as found
use Rattle.tile_exec.specs.Items.{AreWrittenTo}
use Rattle.tile_exec.specs.Standing.{tasks_left}
use Rattle.tile_exec.specs.Units.{Fits, cells_placed}
use Rattle.tile_exec.proofs.Keeping.{some_left, tile_small, tasks_small}
use Rattle.tile_exec.proofs.KeepingItems.{placed_so, item_at, item_further, item_next, cells_before}
use Rattle.tile_exec.proofs.state.State.keep_item.Goals as goal

pub write_points-requires-clause-columns : goal.write_points-requires-clause-columns
write_points-requires-clause-columns c =
    let a = item_at c.args.self.now c.args.last c.args.found c.requires.fits in
    ap length c.deref-3.ensures.value ∙ a.fits.columns ∙ sym (ap length c.deref-2.ensures.value)

pub write_points-requires-clause-there : goal.write_points-requires-clause-there
write_points-requires-clause-there c =
    let a = item_at c.args.self.now c.args.last c.args.found c.requires.fits in
    rw (c.deref.ensures.value, c.deref-3.ensures.value) a.fits.there

pub write_points-requires-clause-ranks : goal.write_points-requires-clause-ranks
write_points-requires-clause-ranks c =
    let a = item_at c.args.self.now c.args.last c.args.found c.requires.fits in
    rw c.deref.ensures.value a.fits.small

pub write_points-requires-clause-few : goal.write_points-requires-clause-few
write_points-requires-clause-few c =
    let a = item_at c.args.self.now c.args.last c.args.found c.requires.fits in
    rw c.deref-2.ensures.value a.fits.few

pub write_points-requires-clause-below : goal.write_points-requires-clause-below
write_points-requires-clause-below c =
    let e = c.args.self.now in
    let x = c.args.found in
    let a = item_at e c.args.last x c.requires.fits in
    let n = cells_before e c.args.last x a c.begin_cells.new.cells.items c.requires.sound c.begin_cells.ensures.kept c.begin_cells.ensures.fresh in
    let same = placed_so x c.deref.result.now c.deref-2.result.now c.deref-3.result.now c.deref.ensures.value c.deref-2.ensures.value c.deref-3.ensures.value in
    subst (All (λ (w : ℕ × Cell). w.0 < length c.begin_cells.new.cells.items)) (sym same) (subst (λ l. All (λ (w : ℕ × Cell). w.0 < l) (cells_placed x)) (sym n) a.fits.below)

pub overflow_sub-self : goal.overflow_sub-self
overflow_sub-self c =
    let e = c.args.self.now in
    let a = item_at e c.args.last c.args.found c.requires.fits in
    let h = some_left e a.task a.tasks a.hand c.requires.sound in
    omega (arith, h)

pub give_item-requires-clause-small : goal.give_item-requires-clause-small
give_item-requires-clause-small c =
    let e = c.args.self.now in
    let a = item_at e c.args.last c.args.found c.requires.fits in
    let h = tasks_small e a.task a.tasks a.hand c.requires.sound in
    omega (arith, h, e.tasks.ok.0)

pub give_item-requires-clause-room : goal.give_item-requires-clause-room
give_item-requires-clause-room c =
    let e = c.args.self.now in
    let a = item_at e c.args.last c.args.found c.requires.fits in
    let n = ap length a.hand in
    let sound = c.requires.sound in
    let had = sound.room in
    let room = had.items in
    omega (arith, n, room)

pub returns-then-last : goal.returns-then-last
returns-then-last c =
    let e = c.args.self.now in
    let a = item_at e c.args.last c.args.found c.requires.fits in
    let h = some_left e a.task a.tasks a.hand c.requires.sound in
    item_next e c.give_item.new.self c.args.found c.begin_cells.new.cells.items c.write_points.new.cells c.begin_first.result c.least-self.result c.begin_known.new.known (e.left - 1) c.requires.sound (subst (λ b. Fits e (tasks_left e) b (found.Item c.args.found)) c.if-last.true c.requires.fits) (omega (arith, h))
    record {
      kept = c.begin_cells.ensures.kept;
      fresh = c.begin_cells.ensures.fresh;
      long = c.write_points.ensures.length;
      written = subst (AreWrittenTo c.begin_cells.new.cells.items c.write_points.new.cells.items) (placed_so c.args.found c.deref.result.now c.deref-2.result.now c.deref-3.result.now c.deref.ensures.value c.deref-2.ensures.value c.deref-3.ensures.value) c.write_points.ensures.written;
      begun = c.begin_first.ensures;
      joined = c.least-self.ensures;
      known_before = c.begin_known.ensures.kept;
      known_found = c.begin_known.ensures.found;
    }
    c.give_item.ensures

pub overflow_add-self : goal.overflow_add-self
overflow_add-self c =
    let e = c.args.self.now in
    let a = item_at e c.args.last c.args.found c.requires.fits in
    let h = tile_small e a.task a.tasks a.hand c.requires.sound in
    omega (arith, h)

pub returns : goal.returns
returns c =
    let e = c.args.self.now in
    let a = item_at e c.args.last c.args.found c.requires.fits in
    let h = some_left e a.task a.tasks a.hand c.requires.sound in
    item_further e c.args.found c.begin_cells.new.cells.items c.write_points.new.cells c.begin_first.result c.least-self.result c.begin_known.new.known (e.left - 1) c.requires.sound (subst (λ b. Fits e (tasks_left e) b (found.Item c.args.found)) c.if-last.false c.requires.fits) (omega (arith, h))
    record {
      kept = c.begin_cells.ensures.kept;
      fresh = c.begin_cells.ensures.fresh;
      long = c.write_points.ensures.length;
      written = subst (AreWrittenTo c.begin_cells.new.cells.items c.write_points.new.cells.items) (placed_so c.args.found c.deref.result.now c.deref-2.result.now c.deref-3.result.now c.deref.ensures.value c.deref-2.ensures.value c.deref-3.ensures.value) c.write_points.ensures.written;
      begun = c.begin_first.ensures;
      joined = c.least-self.ensures;
      known_before = c.begin_known.ensures.kept;
      known_found = c.begin_known.ensures.found;
    }
