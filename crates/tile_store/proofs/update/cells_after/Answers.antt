-- The patch's numbers stand inside its box, and outside it the numbers from before.
use Rattle.std.proofs.Common.{arith, length, ◌≡◌, ◌∙◌, ap, drop, sym, take_at}
use Rattle.std.proofs.lemmas.Grind.{common_steps}
use Rattle.arr_core.specs.Cells.{Fits}
use Rattle.arr_core.specs.Domains.{count}
use Rattle.arr_core.proofs.Points.{count-pos}
use Rattle.arr_core.specs.Tiles.{tile_box}
use Rattle.tile_store.specs.Numbers.{numbers_in}
use Rattle.tile_store.proofs.Cells.{updated_listed}
use Rattle.tile_store.proofs.Fitting.{all_overlaid, number_fits, number_listed, has_numbers}
use Rattle.tile_store.proofs.update.cells_after.Goals as goal

pub overlay-requires-clause-from : goal.overlay-requires-clause-from
overlay-requires-clause-from g c = rw c.axes-2.ensures.value (has_numbers c.args.patch.now.kind c.args.patch.now.area.now c.args.patch.now.numbers.now c.requires.patch.numbers)

pub returns-clause-after : goal.returns-clause-after
returns-clause-after g c =
    let u = c.args.patch.now in
    let before = c.in_ok-cells.ensures.before in
    let after = c.overlay.new.to in
    let overlaid = rw (c.axes.ensures.value, c.axes-2.ensures.value, c.deref_mut-slots.ensures.value, ← c.in_ok-part.ensures.part) at c.overlay.ensures in
    let counted : length after ≡ count (tile_box u.domain.now c.args.tile) = c.overlay.auto.to ∙ ap length c.deref_mut-slots.ensures.value ∙ before.counted in
    let size : c.in_ok-cells.cells.len ≡ length after = first_of (omega (arith, counted, before.counted), grind (arith, common_steps, counted, before.counted)) in
    let back = take_at after (drop (length after) c.in_ok-cells.cells.items) c.in_ok-cells.cells.len (sym size) in
    let ordered = rw (← c.in_ok-part.ensures.part) at c.axes.ensures.domain.ordered in
    record {
      some = rw back (omega (arith, counted, count-pos (tile_box u.domain.now c.args.tile)));
      few = rw back (omega (arith, counted, ap count c.in_ok-part.ensures.part, c.in_ok-part.ensures.few));
      fit = rw back (all_overlaid (Fits u.kind) (tile_box u.domain.now c.args.tile) u.area.now _ c.in_ok-cells.cells.items after before.counted counted ordered overlaid before.fit (λ p inside. number_fits u.kind u.area.now u.numbers.now p c.requires.patch.numbers inside));
      numbers = λ honest. back ∙ updated_listed u.kind u.domain.now c.args.field.now (g.B.Blocks.state c.args.blocks.now).content u.area.now (numbers_in u.area.now u.numbers.now) _ c.args.tile c.in_ok-cells.cells.items after ordered counted
          (before.numbers honest) (λ p inside. number_listed u.kind u.area.now u.numbers.now p c.requires.patch.numbers inside) overlaid;
      read = before.read;
    }
