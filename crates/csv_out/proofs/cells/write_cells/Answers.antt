-- The last cell comes first, and each stands before those that are written.
use Rattle.std.proofs.Common.{◌≡◌, ℕ, List, ◌+◌, ◌-◌, ◌∷◌, IsAscii, drop, refl, sym, ap, subst, ◌∙◌, arith, rules}
use Rattle.std.proofs.lemmas.List.{drop-set, drop_all}
use Rattle.std.proofs.lemmas.Str.{IsAscii-append}
use Rattle.std.proofs.lemmas.Str.Ascii.{IsAscii-nil, IsAscii-cons}
use Rattle.csv_out.specs.Csv.{cells_text}
use Rattle.csv_out.specs.Places.{IsPlace}
use Rattle.csv_out.proofs.Lines.{cell-before}
use Rattle.csv_out.proofs.cells.write_cells.Goals as goal

pub loop-left-init : goal.loop-left-init
loop-left-init c =
    let cells = c.args.cells.now in
    let shape = c.args.shape in
    let none = drop_all 2688 c.args.room.now (omega arith) in
    record {
      inside = omega arith;
      room = omega (arith, c.requires.few);
      within = omega arith;
      place = search rules;
      ascii = subst (λ (xs : List ℕ). IsAscii xs) (sym none) IsAscii-nil;
      written = none ∙ sym (ap (cells_text shape.fields shape.line _) (drop_all _ cells (omega arith)));
    }

pub loop-left-preserved : goal.loop-left-preserved
loop-left-preserved c =
    let cells = c.args.cells.now in
    let shape = c.args.shape in
    let l = c.loop-left in
    let was = l.invariant in
    let w = c.write_cell-at in
    let back : l.at - 1 + 1 ≡ l.at = omega arith in
    let marked = drop-set l.room (l.at - 1) c.mark.result (omega arith) ∙ ap (λ (i : ℕ). c.mark.result ∷ drop i l.room) back in
    let written : c.args.before + l.left - 1 ≡ c.args.before + (l.left - 1) = omega arith in
    record {
      inside = omega arith;
      room = omega (arith, was.room, w.ensures.short);
      within = omega (arith, was.within, w.ensures.within);
      place = subst (λ (n : ℕ). IsPlace shape n c.place_before-place.result) written c.place_before-place.ensures;
      ascii = subst (λ (xs : List ℕ). IsAscii xs) (sym w.ensures.text) (IsAscii-append _ _ w.ensures.ascii (subst (λ (xs : List ℕ). IsAscii xs) (sym marked) (IsAscii-cons _ _ c.mark.ensures.ascii was.ascii)));
      written = cell-before shape.fields shape.line (c.args.before + (l.left - 1)) (c.args.before + l.left) (l.left - 1) l.left cells _ _ c.mark.result (drop l.at l.room) _ _ (omega arith) refl (omega arith) (omega arith) c.mark.ensures.text was.written marked w.ensures.text;
    }
