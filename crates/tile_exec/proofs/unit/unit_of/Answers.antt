-- A tile of a pass gives what its points tell, and neither it nor one of an item fetches more than its bound.
use Rattle.std.proofs.Common.{sym, ap, ◌∙◌, ◌<◌, [], subst, arith, length, true}
use Rattle.std.specs.Prelude.{slice_get, sum_by}
use Rattle.arr_core.specs.Tiles.{tile_boxes, tile_box}
use Rattle.plan_ir.specs.Units.{bound_of}
use Rattle.tile_columns.specs.Sources.{FetchesAtMost}
use Rattle.tile_columns.specs.Meaning.{chosen}
use Rattle.tile_exec.specs.declared.found.Found.TheVariants as found
use Rattle.tile_exec.specs.Tasks.{area_of, bodies_of}
use Rattle.tile_exec.specs.Standing.{IsPartOf}
use Rattle.tile_exec.specs.Units.{FitsUnit, IsFound, IsFoundBy}
use Rattle.tile_exec.proofs.Finding.{is_pass, is_item, is_fieldless}
use Rattle.tile_exec.proofs.unit.unit_of.Goals as goal

pub returns-in_ok-a-in-Some-clause-fits : goal.returns-in_ok-a-in-Some-clause-fits
returns-in_ok-a-in-Some-clause-fits g c = λ p h.
    let s = c.args.at.now.steps.now in
    let n = c.args.at.now.task.count in
    let at = ap (λ l. slice_get l n) (sym c.deref.ensures.value) ∙ sym c.in-Some.ensures in
    let e = is_pass s n c.in-Some.pass.now p at (subst (λ k. IsPartOf s n k p) c.in-Pass.is h) in
    subst (λ p. FitsUnit c.args.at.now.tile c.args.at.now.status p c.is_last.result (found.Pass c.in_ok-a-in-Some.a)) (sym e)
    (c.is_last.ensures, (c.in_ok-a-in-Some.ensures.op, c.in_ok-a-in-Some.ensures.count))

pub returns-in_ok-a-in-Some-clause-tells : goal.returns-in_ok-a-in-Some-clause-tells
returns-in_ok-a-in-Some-clause-tells g c = λ p h _.
    let s = c.args.at.now.steps.now in
    let n = c.args.at.now.task.count in
    let at = ap (λ l. slice_get l n) (sym c.deref.ensures.value) ∙ sym c.in-Some.ensures in
    let e = is_pass s n c.in-Some.pass.now p at (subst (λ k. IsPartOf s n k p) c.in-Pass.is h) in
    subst (λ p. IsFound (g.S.Tiles.state c.args.source.now) c.args.ground.now c.args.at.now.tile (found.Pass c.in_ok-a-in-Some.a) p) (sym e)
    c.in_ok-a-in-Some.ensures.stands

pub returns-in_ok-a-in-Some-clause-fetched : goal.returns-in_ok-a-in-Some-clause-fetched
returns-in_ok-a-in-Some-clause-fetched g c = λ p h.
    let s = c.args.at.now.steps.now in
    let n = c.args.at.now.task.count in
    let at = ap (λ l. slice_get l n) (sym c.deref.ensures.value) ∙ sym c.in-Some.ensures in
    let e = is_pass s n c.in-Some.pass.now p at (subst (λ k. IsPartOf s n k p) c.in-Pass.is h) in
    subst (λ p. FetchesAtMost (sum_by (bound_of (chosen (g.S.Tiles.state c.args.source.now) c.args.ground.now) (tile_box (area_of p) c.args.at.now.tile)) (bodies_of p)) (g.S.Tiles.state c.args.source.now) (g.S.Tiles.state c.pass_tile.new.source)) (sym e)
    c.in_ok-a-in-Some.ensures.fetched

pub returns-in_ok-x-in-Giving-clause-tells : goal.returns-in_ok-x-in-Giving-clause-tells
returns-in_ok-x-in-Giving-clause-tells g c = λ p h.
    let s = c.args.at.now.steps.now in
    let n = c.args.at.now.task.count in
    let e = is_item s n p (subst (λ k. IsPartOf s n k p) c.in-Item.is h) in
    subst (IsFoundBy (g.S.Tiles.state c.args.source.now) c.args.ground.now c.args.at.now (found.Item c.in_ok-x-in-Giving.x)) (sym e)
    (λ knows. c.in_ok-x-in-Giving.ensures.tells (knows c.in-Giving.is))

pub returns-in_ok-x-in-Giving-clause-fetched : goal.returns-in_ok-x-in-Giving-clause-fetched
returns-in_ok-x-in-Giving-clause-fetched g c = λ p h.
    let s = c.args.at.now.steps.now in
    let n = c.args.at.now.task.count in
    let e = is_item s n p (subst (λ k. IsPartOf s n k p) c.in-Item.is h) in
    subst (λ p. FetchesAtMost (sum_by (bound_of (chosen (g.S.Tiles.state c.args.source.now) c.args.ground.now) (tile_box (area_of p) c.args.at.now.tile)) (bodies_of p)) (g.S.Tiles.state c.args.source.now) (g.S.Tiles.state c.item_tile.new.source)) (sym e)
    c.in_ok-x-in-Giving.ensures.fetched

pub returns-in-Fieldless-clause-fits : goal.returns-in-Fieldless-clause-fits
returns-in-Fieldless-clause-fits g c = λ p h.
    let hand = c.args.at.now in
    let s = hand.steps.now in
    let n = hand.task.count in
    let e = is_fieldless s n p (subst (λ k. IsPartOf s n k p) c.in-Fieldless.is h) in
    let ready = c.requires.part in
    let own = is_fieldless s n ready.0 (subst (λ k. IsPartOf s n k ready.0) c.in-Fieldless.is ready.1) in
    let lt : hand.tile < length (tile_boxes []) = subst (λ p. hand.tile < length (tile_boxes (area_of p))) own ready.3 in
    subst (λ p. FitsUnit hand.tile hand.status p true c.fieldless_of.result) (sym e) (omega (arith, lt), c.fieldless_of.ensures hand.tile)
