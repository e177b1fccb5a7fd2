-- Outside the patch's box stand the numbers that the field has; a tile that the box covers has none there.
use Rattle.std.proofs.Common.{rules, arith, ◌∙◌, ap, inl, inr, List, get_or, ℤ, pos}
use Rattle.std.proofs.lemmas.Grind.{common_steps}
use Rattle.arr_core.specs.Domains.{rank_of, IsBoxOf}
use Rattle.arr_core.proofs.Points.{length-points}
use Rattle.arr_core.specs.Tiles.{tile_box}
use Rattle.tile_store.specs.Stored.{number_at}
use Rattle.tile_store.proofs.Cells.{not_outside, inside_box, cell_listed}
use Rattle.tile_store.proofs.Fitting.{fits_zeros}
use Rattle.tile_store.proofs.update.cells_before.Goals as goal

pub returns-then-is_box_of-clause-before : goal.returns-then-is_box_of-clause-before
returns-then-is_box_of-clause-before g c =
    let covers : IsBoxOf c.args.patch.now.area.now c.args.part.now = search rules in
    record {
      counted = rw c.requires.part (grind (arith, common_steps));
      fit = fits_zeros c.args.patch.now.kind _ _ c.in_ok-cells.ensures;
      numbers = λ honest. rw c.requires.part (λ p inside out. absurd (not_outside c.args.patch.now.area.now p (inside_box c.args.patch.now.area.now c.args.part.now p covers inside) out));
      read = λ honest. inl (rw c.requires.part covers);
    }

pub returns-clause-before : goal.returns-clause-before
returns-clause-before g c =
    let u = c.args.patch.now in
    let read = c.in_ok-cells-2.ensures.read in
    let box = tile_box u.domain.now c.args.tile in
    let f : List ℤ → ℤ = number_at u.kind u.domain.now c.args.field.now (g.B.Blocks.state c.args.blocks.now).content in
    record {
      counted = read.counted ∙ length-points box;
      fit = read.fit;
      numbers = λ honest p inside out. ap (λ (l : List ℤ). get_or l (rank_of box p) (pos 0)) (read.numbers honest) ∙ cell_listed box f p inside;
      read = λ honest. inr (read.spelled honest);
    }
