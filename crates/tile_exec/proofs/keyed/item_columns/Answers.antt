-- Of an item of one field the column is that of its body, and costs no more than the body.
use Rattle.std.proofs.Common.{◌≤◌, ◌+◌, sym, subst, arith, length}
use Rattle.std.specs.Prelude.{option_copied, sum_by}
use Rattle.std.proofs.lemmas.Grind.{common_steps}
use Rattle.arr_core.specs.Domains.{IsBoxOf, count}
use Rattle.plan_ir.specs.Bodies.{body_view, fold_view}
use Rattle.plan_ir.specs.Placed.{spans}
use Rattle.plan_ir.specs.Plans.{item_view}
use Rattle.plan_ir.specs.Units.{bound_of, bound_times}
use Rattle.tile_columns.specs.Meaning.{chosen}
use Rattle.tile_columns.proofs.Boxes.{points_within}
use Rattle.tile_exec.specs.Keyed.{IsKeyedColumn, AreColumnsKnown}
use Rattle.tile_exec.specs.Known.{KnowsBody}
use Rattle.tile_exec.specs.Tasks.{item, bodies_of}
use Rattle.tile_exec.proofs.Finding.{ok_map, on_ok}
use Rattle.tile_exec.proofs.Knowing.{item_cost, columns_known, of_body}
use Rattle.tile_exec.proofs.keyed.item_columns.Goals as goal

pub columns_over-requires-clause-place : goal.columns_over-requires-clause-place
columns_over-requires-clause-place g c =
    let domain = c.args.item.now.domain in
    let part = c.args.at.now.part.now in
    record {
      scope = spans domain;
      placed = c.requires.placed.1;
      within = points_within domain part (subst (λ a. IsBoxOf a part) c.requires.area c.requires.part.0) c.axes-axes.ensures.domain.ordered;
    }

pub returns-in-Some-clause-value : goal.returns-in-Some-clause-value
returns-in-Some-clause-value g c =
    let s = g.S.Tiles.state c.args.source.now in
    let ground = c.args.ground.now in
    let i = c.args.item.now in
    let at = c.args.at.now in
    let k = c.in-Some.key in
    let h = c.in-Some.ensures in
    let found = h.found in
    ok_map c.keyed_columns.result (λ x. IsKeyedColumn s ground k at x.columns.items) (λ x. AreColumnsKnown s ground i at x.columns.items)
    (λ x is knows intact.
    let own = of_body s ground i h.field (fold_view k.fold.now) (option_copied at.known) h.fields found.fold knows in
    columns_known s ground i at.part.now k x.columns.items h (is (subst (λ a. KnowsBody s ground (length a) (fold_view k.fold.now) (option_copied at.known)) (sym c.requires.area) own) intact))
    c.keyed_columns.ensures.value

pub returns-in-Some-clause-fetched : goal.returns-in-Some-clause-fetched
returns-in-Some-clause-fetched g c =
    let s = g.S.Tiles.state c.args.source.now in
    let now = g.S.Tiles.state c.keyed_columns.new.source in
    let at = c.args.at.now in
    let k = c.in-Some.key in
    let cost = item_cost (chosen s c.args.ground.now) c.args.item.now at.area.now at.part.now k c.in-Some.ensures c.requires.area in
    on_ok c.keyed_columns.result (now.fetched ≤ s.fetched + (bound_times (count at.area.now + 12288) (body_view k.body.now) + bound_times 2 (fold_view k.fold.now)))
    (now.fetched ≤ s.fetched + sum_by (bound_of (chosen s c.args.ground.now) at.part.now) (bodies_of (item (item_view c.args.item.now))))
    (λ f. omega (arith, f, cost)) c.keyed_columns.ensures.fetched

pub returns-in-Some-clause-known : goal.returns-in-Some-clause-known
returns-in-Some-clause-known g c = grind (arith, common_steps)
