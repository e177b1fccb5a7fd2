-- From nothing, along all axes.
use Rattle.std.proofs.Common.{◌∙◌, ap, sym, subst, length, get_or, arith}
use Rattle.std.specs.List.{All}
use Rattle.std.specs.Prelude.{◌≡◌, ℕ, List, replicate}
use Rattle.std.proofs.lemmas.Grind.{common_steps}
use Rattle.arr_core.specs.declared.domain.Axis.{Axis}
use Rattle.arr_core.specs.Domains.{IsInside}
use Rattle.arr_core.specs.Tiles.{edge_of}
use Rattle.plan_ir.specs.Run.{numbers_at}
use Rattle.tile_columns.specs.Locating.{tile_from, rank_from}
use Rattle.tile_columns.proofs.Locating.{point_of, start_from, all_tiles, all_ranks}
use Rattle.tile_columns.proofs.locate.locate.Goals as goal

-- the edge of a domain's tiles, by its axes
edge : {n : ℕ} {axes domain : List Axis} → n ≡ edge_of (length domain) → axes ≡ domain → n ≡ edge_of (length axes)
edge e same = e ∙ ap (λ a. edge_of (length a)) (sym same)

pub add_axes-requires-clause-inside : goal.add_axes-requires-clause-inside
add_axes-requires-clause-inside c = subst (λ a. All (λ e. IsInside a (numbers_at e c.args.reading.now.indexes.now)) c.args.frame.now) (sym c.axes-axes.ensures.value) c.requires

pub add_axes-requires-clause-few : goal.add_axes-requires-clause-few
add_axes-requires-clause-few c =
    let few = start_from c.tile_edge.result c.axes-axes.result.now c.args.reading.now.domain.now c.args.reading.now.indexes.now c.args.frame.now c.clear_counts.new.scratch.numbers.items c.clear_counts.new.scratch.ranks.items
    (edge c.tile_edge.ensures.value c.axes-axes.ensures.value) c.axes-axes.ensures.value c.axes-axes.ensures.domain c.requires
    (c.in_ok-clear_counts.ensures.tiles ∙ ap (λ n. replicate n 0) c.places.ensures.value)
    (c.in_ok-clear_counts.ensures.ranks ∙ ap (λ n. replicate n 0) c.places.ensures.value) in
    (λ k lt. (few k lt).0, λ k lt. (few k lt).1)

pub returns-clause-tiles : goal.returns-clause-tiles
returns-clause-tiles c =
    all_tiles c.args.reading.now.domain.now c.args.reading.now.indexes.now c.args.frame.now c.clear_counts.new.scratch.numbers.items c.add_axes.new.scratch.numbers.items c.requires
    (c.in_ok-clear_counts.ensures.tiles ∙ ap (λ n. replicate n 0) c.places.ensures.value) c.in_ok-add_axes.ensures.places.0
    (λ k lt. c.in_ok-add_axes.ensures.counted.0 k lt
    ∙ ap (λ n. tile_from n c.axes-axes.result.now (get_or c.clear_counts.new.scratch.numbers.items k 0) (point_of c.args.reading.now.indexes.now c.args.frame.now k)) (edge c.tile_edge.ensures.value c.axes-axes.ensures.value)
    ∙ ap (λ a. tile_from (edge_of (length a)) a (get_or c.clear_counts.new.scratch.numbers.items k 0) (point_of c.args.reading.now.indexes.now c.args.frame.now k)) c.axes-axes.ensures.value)

pub returns-clause-ranks : goal.returns-clause-ranks
returns-clause-ranks c =
    all_ranks c.args.reading.now.domain.now c.args.reading.now.indexes.now c.args.frame.now c.clear_counts.new.scratch.ranks.items c.add_axes.new.scratch.ranks.items c.requires
    (c.in_ok-clear_counts.ensures.ranks ∙ ap (λ n. replicate n 0) c.places.ensures.value) c.in_ok-add_axes.ensures.places.1
    (λ k lt. c.in_ok-add_axes.ensures.counted.1 k lt
    ∙ ap (λ n. rank_from n c.axes-axes.result.now (get_or c.clear_counts.new.scratch.ranks.items k 0) (point_of c.args.reading.now.indexes.now c.args.frame.now k)) (edge c.tile_edge.ensures.value c.axes-axes.ensures.value)
    ∙ ap (λ a. rank_from (edge_of (length a)) a (get_or c.clear_counts.new.scratch.ranks.items k 0) (point_of c.args.reading.now.indexes.now c.args.frame.now k)) c.axes-axes.ensures.value)

pub add_axes-requires-clause-places : goal.add_axes-requires-clause-places
add_axes-requires-clause-places c = grind (arith, common_steps)
