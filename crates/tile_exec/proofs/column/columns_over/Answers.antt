-- The fields have their place at each point of the box, and fetch no more tiles there than their bounds.
use Rattle.std.proofs.Common.{sym, ap, ◌∙◌, ◌+◌, ◌≤◌, subst, length, map, ℤ, List}
use Rattle.std.specs.Prelude.{All, sum_by}
use Rattle.plan_ir.specs.Plans.{bind_view, field_view}
use Rattle.plan_ir.specs.Units.{bound_of}
use Rattle.tile_columns.specs.Evaluating.{fetches}
use Rattle.tile_columns.specs.Fields.{HavePlaceOver, bodies_behind}
use Rattle.tile_columns.specs.Meaning.{chosen}
use Rattle.tile_columns.proofs.Behind.{sum_same}
use Rattle.tile_columns.proofs.Boxes.{points_deep, fetches_bound}
use Rattle.tile_exec.proofs.Finding.{on_ok}
use Rattle.tile_exec.proofs.column.columns_over.Goals as goal

pub evaluate_fields-requires-clause-place : goal.evaluate_fields-requires-clause-place
evaluate_fields-requires-clause-place g c =
    let s = g.S.Tiles.state c.args.source.now in
    let ground = c.args.ground.now in
    let i = c.args.item.now in
    subst (λ l. HavePlaceOver s ground l c.deref-2.result.now c.in_ok-frame.frame) (sym c.deref.ensures.value)
    (subst (λ l. HavePlaceOver s ground i.binds.items l c.in_ok-frame.frame) (sym c.deref-2.ensures.value)
    (subst (HavePlaceOver s ground i.binds.items i.fields.items) (sym c.in_ok-frame.ensures) c.requires.place))

pub returns-clause-fetched : goal.returns-clause-fetched
returns-clause-fetched g c =
    let box = c.args.at.now in
    let i = c.args.item.now in
    let cs = chosen (g.S.Tiles.state c.args.source.now) c.args.ground.now in
    let bodies = bodies_behind (map bind_view c.deref.result.now) (map field_view c.deref-2.result.now) in
    let old = (g.S.Tiles.state c.args.source.now).fetched in
    let new = (g.S.Tiles.state c.evaluate_fields.new.source).fetched in
    let deep = subst (All (λ (e : List ℤ). length box ≤ length e)) (sym c.in_ok-frame.ensures) (points_deep box c.axes-axes.ensures.domain.ordered) in
    on_ok c.evaluate_fields.result _ _
    (λ few.
    subst (λ n. new ≤ old + n)
    (ap (λ l. sum_by (fetches cs (length box) l) bodies) c.in_ok-frame.ensures ∙ sum_same _ (bound_of cs box) bodies (fetches_bound cs box)
    ∙ ap (λ l. sum_by (bound_of cs box) (bodies_behind (map bind_view l) (map field_view c.deref-2.result.now))) c.deref.ensures.value
    ∙ ap (λ l. sum_by (bound_of cs box) (bodies_behind (map bind_view i.binds.items) (map field_view l))) c.deref-2.ensures.value)
    (few (length box) deep))
    c.evaluate_fields.ensures.fetched
