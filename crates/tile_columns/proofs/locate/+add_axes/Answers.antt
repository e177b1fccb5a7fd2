-- The first axis, then the others.
use Rattle.std.proofs.Common.{◌∙◌, rules, SFits, w32, pos, arith}
use Rattle.std.proofs.lemmas.Int.{to_z-of_z}
use Rattle.std.proofs.lemmas.Grind.{common_steps}
use Rattle.plan_ir.specs.declared.body.Index.TheVariants.{Const}
use Rattle.arr_core.proofs.FirstAxis.{cut}
use Rattle.tile_columns.proofs.Turns.{gap_of}
use Rattle.tile_columns.proofs.Locating.{cut_first, head, axis_inside, axis_small, counted_tile, counted_rank, stays_below}
use Rattle.tile_columns.proofs.locate.+add_axes.Goals as goal

pub add_axis-requires-clause-inside : goal.add_axis-requires-clause-inside
add_axis-requires-clause-inside t c =
    let lo : SFits w32 c.axis-item.result.lo = search rules in
    let hi : SFits w32 c.axis-item.result.hi = search rules in
    let e = cut c.args.axes.now c.axis-item.result c.in-len1-up.len_at_least c.axis-item.is in
    let m = gap_of c.distance.result _ _ c.axis-item.result.lo c.axis-item.result.hi c.distance.ensures.gap (to_z-of_z w32 c.axis-item.result.lo lo) (to_z-of_z w32 c.axis-item.result.hi hi) in
    axis_inside c.args.edge c.args.axes.now _ c.axis-item.result c.args.indexes.now _ _ c.args.frame.now c.deref.result.now _ c.distance.result (head c.args.edge c.args.axes.now _ c.axis-item.result c.args.indexes.now _ _ c.args.frame.now e (cut_first c.args.indexes.now _ c.in-len1-up-indexes.len_at_least) c.requires.inside) (c.deref.ensures.value ∙ c.in_ok-list-in-len1-up-indexes.ensures) (to_z-of_z w32 c.axis-item.result.lo lo) m

pub add_axis-requires-clause-few_tiles : goal.add_axis-requires-clause-few_tiles
add_axis-requires-clause-few_tiles t c =
    let lo : SFits w32 c.axis-item.result.lo = search rules in
    let hi : SFits w32 c.axis-item.result.hi = search rules in
    let e = cut c.args.axes.now c.axis-item.result c.in-len1-up.len_at_least c.axis-item.is in
    let m = gap_of c.distance.result _ _ c.axis-item.result.lo c.axis-item.result.hi c.distance.ensures.gap (to_z-of_z w32 c.axis-item.result.lo lo) (to_z-of_z w32 c.axis-item.result.hi hi) in
    (axis_small c.args.edge c.args.axes.now _ c.axis-item.result c.args.indexes.now _ _ c.args.frame.now c.deref.result.now _ c.distance.result c.args.scratch.now.numbers.items c.args.scratch.now.ranks.items (head c.args.edge c.args.axes.now _ c.axis-item.result c.args.indexes.now _ _ c.args.frame.now e (cut_first c.args.indexes.now _ c.in-len1-up-indexes.len_at_least) c.requires.inside) (c.deref.ensures.value ∙ c.in_ok-list-in-len1-up-indexes.ensures) (to_z-of_z w32 c.axis-item.result.lo lo) m c.requires.few).0

pub add_axis-requires-clause-few_ranks : goal.add_axis-requires-clause-few_ranks
add_axis-requires-clause-few_ranks t c =
    let lo : SFits w32 c.axis-item.result.lo = search rules in
    let hi : SFits w32 c.axis-item.result.hi = search rules in
    let e = cut c.args.axes.now c.axis-item.result c.in-len1-up.len_at_least c.axis-item.is in
    let m = gap_of c.distance.result _ _ c.axis-item.result.lo c.axis-item.result.hi c.distance.ensures.gap (to_z-of_z w32 c.axis-item.result.lo lo) (to_z-of_z w32 c.axis-item.result.hi hi) in
    (axis_small c.args.edge c.args.axes.now _ c.axis-item.result c.args.indexes.now _ _ c.args.frame.now c.deref.result.now _ c.distance.result c.args.scratch.now.numbers.items c.args.scratch.now.ranks.items (head c.args.edge c.args.axes.now _ c.axis-item.result c.args.indexes.now _ _ c.args.frame.now e (cut_first c.args.indexes.now _ c.in-len1-up-indexes.len_at_least) c.requires.inside) (c.deref.ensures.value ∙ c.in_ok-list-in-len1-up-indexes.ensures) (to_z-of_z w32 c.axis-item.result.lo lo) m c.requires.few).1

pub add_axes-requires : goal.add_axes-requires
add_axes-requires t c =
    let lo : SFits w32 c.axis-item.result.lo = search rules in
    let hi : SFits w32 c.axis-item.result.hi = search rules in
    let e = cut c.args.axes.now c.axis-item.result c.in-len1-up.len_at_least c.axis-item.is in
    let m = gap_of c.distance.result _ _ c.axis-item.result.lo c.axis-item.result.hi c.distance.ensures.gap (to_z-of_z w32 c.axis-item.result.lo lo) (to_z-of_z w32 c.axis-item.result.hi hi) in (
      search rules,
      (
        c.requires.edge,
        (
          (head c.args.edge c.args.axes.now _ c.axis-item.result c.args.indexes.now _ _ c.args.frame.now e (cut_first c.args.indexes.now (Const (pos 0)) c.in-len1-up-indexes.len_at_least) c.requires.inside).further_inside,
          (
            (c.add_axis.ensures.places.0 ∙ c.requires.places.0, c.add_axis.ensures.places.1 ∙ c.requires.places.1),
            (
              λ k lt. stays_below _ _ (counted_tile c.args.edge c.args.axes.now _ c.axis-item.result c.args.indexes.now _ _ c.args.frame.now c.deref.result.now _ c.distance.result c.args.scratch.now.numbers.items c.add_axis.new.tiles.items (head c.args.edge c.args.axes.now _ c.axis-item.result c.args.indexes.now _ _ c.args.frame.now e (cut_first c.args.indexes.now _ c.in-len1-up-indexes.len_at_least) c.requires.inside) (c.deref.ensures.value ∙ c.in_ok-list-in-len1-up-indexes.ensures) (to_z-of_z w32 c.axis-item.result.lo lo) m c.add_axis.ensures.tiles k lt) (c.requires.few.0 k lt),
              λ k lt. stays_below _ _ (counted_rank c.args.edge c.args.axes.now _ c.axis-item.result c.args.indexes.now _ _ c.args.frame.now c.deref.result.now _ c.distance.result c.args.scratch.now.ranks.items c.add_axis.new.ranks.items (head c.args.edge c.args.axes.now _ c.axis-item.result c.args.indexes.now _ _ c.args.frame.now e (cut_first c.args.indexes.now _ c.in-len1-up-indexes.len_at_least) c.requires.inside) (c.deref.ensures.value ∙ c.in_ok-list-in-len1-up-indexes.ensures) (to_z-of_z w32 c.axis-item.result.lo lo) m c.add_axis.ensures.ranks k lt) (c.requires.few.1 k lt),
            ),
          ),
        ),
      ),
    )

pub returns-in_ok-add_axes-in-len1-up-indexes-clause-counted : goal.returns-in_ok-add_axes-in-len1-up-indexes-clause-counted
returns-in_ok-add_axes-in-len1-up-indexes-clause-counted t c =
    let lo : SFits w32 c.axis-item.result.lo = search rules in
    let hi : SFits w32 c.axis-item.result.hi = search rules in
    let e = cut c.args.axes.now c.axis-item.result c.in-len1-up.len_at_least c.axis-item.is in
    let m = gap_of c.distance.result _ _ c.axis-item.result.lo c.axis-item.result.hi c.distance.ensures.gap (to_z-of_z w32 c.axis-item.result.lo lo) (to_z-of_z w32 c.axis-item.result.hi hi) in (
      λ k lt. c.in_ok-add_axes-in-len1-up-indexes.ensures.counted.0 k lt ∙ counted_tile c.args.edge c.args.axes.now _ c.axis-item.result c.args.indexes.now _ _ c.args.frame.now c.deref.result.now _ c.distance.result c.args.scratch.now.numbers.items c.add_axis.new.tiles.items (head c.args.edge c.args.axes.now _ c.axis-item.result c.args.indexes.now _ _ c.args.frame.now e (cut_first c.args.indexes.now _ c.in-len1-up-indexes.len_at_least) c.requires.inside) (c.deref.ensures.value ∙ c.in_ok-list-in-len1-up-indexes.ensures) (to_z-of_z w32 c.axis-item.result.lo lo) m c.add_axis.ensures.tiles k lt,
      λ k lt. c.in_ok-add_axes-in-len1-up-indexes.ensures.counted.1 k lt ∙ counted_rank c.args.edge c.args.axes.now _ c.axis-item.result c.args.indexes.now _ _ c.args.frame.now c.deref.result.now _ c.distance.result c.args.scratch.now.ranks.items c.add_axis.new.ranks.items (head c.args.edge c.args.axes.now _ c.axis-item.result c.args.indexes.now _ _ c.args.frame.now e (cut_first c.args.indexes.now _ c.in-len1-up-indexes.len_at_least) c.requires.inside) (c.deref.ensures.value ∙ c.in_ok-list-in-len1-up-indexes.ensures) (to_z-of_z w32 c.axis-item.result.lo lo) m c.add_axis.ensures.ranks k lt,
    )

pub add_axis-requires-clause-places : goal.add_axis-requires-clause-places
add_axis-requires-clause-places t c = grind (arith, common_steps)

pub returns-in-empty-clause-counted : goal.returns-in-empty-clause-counted
returns-in-empty-clause-counted t c = grind (arith, common_steps)

pub returns-in-empty-indexes-clause-counted : goal.returns-in-empty-indexes-clause-counted
returns-in-empty-indexes-clause-counted t c = grind (arith, common_steps)
