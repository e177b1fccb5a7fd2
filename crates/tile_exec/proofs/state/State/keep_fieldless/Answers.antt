-- An item without fields has a unit left and room in the list, and once it is given that unit is done.
use Rattle.std.proofs.Common.{arith, ap, ◌∙◌, ◌-◌, List, [], ◌∷◌, ◌++◌, length}
use Rattle.arr_core.specs.declared.cell.Cell.{Cell}
use Rattle.wcps_mean.specs.declared.item.Item.{Item}
use Rattle.tile_exec.proofs.Keeping.{some_left, tasks_small}
use Rattle.tile_exec.proofs.Fieldless.{fieldless_at, fieldless_next}
use Rattle.tile_exec.proofs.state.State.keep_fieldless.Goals as goal

pub put_item-requires : goal.put_item-requires
put_item-requires c =
    let e = c.args.self.now in
    let x = fieldless_at e c.requires.fits.0 c.args.line c.requires.fits.1 in
    let n = ap length x.hand in
    let sound = c.requires.sound in
    let had = sound.room in
    let room = had.items in
    omega (arith, n, room)

pub overflow_sub-self : goal.overflow_sub-self
overflow_sub-self c =
    let e = c.args.self.now in
    let x = fieldless_at e c.requires.fits.0 c.args.line c.requires.fits.1 in
    let h = some_left e x.task x.tasks x.hand c.requires.sound in
    omega (arith, h)

pub overflow_add-self : goal.overflow_add-self
overflow_add-self c =
    let e = c.args.self.now in
    let x = fieldless_at e c.requires.fits.0 c.args.line c.requires.fits.1 in
    let h = tasks_small e x.task x.tasks x.hand c.requires.sound in
    omega (arith, h, e.tasks.ok.0)

pub returns : goal.returns
returns c =
    let e = c.args.self.now in
    let x = fieldless_at e c.requires.fits.0 c.args.line c.requires.fits.1 in
    let h = some_left e x.task x.tasks x.hand c.requires.sound in
    let item : List Cell → Item = λ cells. record { line = c.args.line; fields = 0; cells = cells } in
    let items = c.put_item.ensures.items ∙ ap (λ cells. e.items.items ++ item cells ∷ []) (c.new-cells.ensures ∙ c.new.ensures.items) in
    fieldless_next e c.args.line c.put_item.new.items (e.left - 1) c.requires.sound x (omega (arith, h)) items c.put_item.ensures.capacity
