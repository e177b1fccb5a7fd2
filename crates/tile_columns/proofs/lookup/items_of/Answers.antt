-- One more place has its item.
use Rattle.std.proofs.Common.{◌∙◌, ap, sym, subst, arith, map, get_or, [], pos, SFits, w64, rules}
use Rattle.std.proofs.lemmas.Int.{to_z-of_z}
use Rattle.arr_core.proofs.Points.{length-points}
use Rattle.wcps_mean.proofs.Stacks.{take-whole}
use Rattle.arr_core.specs.Domains.{IsInside, rank_of}
use Rattle.plan_ir.specs.Run.{numbers_at}
use Rattle.tile_columns.proofs.Ranges.{value_pushed}
use Rattle.tile_columns.proofs.lookup.items_of.Goals as goal

pub rank-rank-requires : goal.rank-rank-requires
rank-rank-requires c = subst (IsInside c.args.table.now.domain.now) (sym (c.deref.ensures.value ∙ c.in_ok-point_at.ensures)) (c.requires.inside c.loop-place.place [] (omega arith))

pub loop-place-preserved : goal.loop-place-preserved
loop-place-preserved c =
    let fits : SFits w64 (get_or c.args.table.now.items.now c.rank-rank.result (pos 0)) = search rules in
    value_pushed (λ e. get_or c.args.table.now.items.now (rank_of c.args.table.now.domain.now (numbers_at e c.args.table.now.indexes.now)) (pos 0)) c.args.frame.now c.loop-place.place []
    _ (get_or c.args.table.now.items.now c.rank-rank.result (pos 0)) c.loop-place.cells.items c.push.new.self.items (omega arith)
    c.in_ok-push.ensures.items
    (to_z-of_z w64 (get_or c.args.table.now.items.now c.rank-rank.result (pos 0)) fits)
    (ap (λ n. get_or c.args.table.now.items.now n (pos 0)) (c.rank-rank.ensures.computed ∙ ap (rank_of c.args.table.now.domain.now) (c.deref.ensures.value ∙ c.in_ok-point_at.ensures)))
    c.loop-place.invariant

pub bounds-table-rank : goal.bounds-table-rank
bounds-table-rank c = omega (arith, c.rank-rank.ensures.below, length-points c.args.table.now.domain.now, c.requires.whole)

pub offset_bounds-table-rank : goal.offset_bounds-table-rank
offset_bounds-table-rank c = omega (arith, c.rank-rank.ensures.below, c.points-few.ensures.value, c.points-few.ensures.few)

pub returns : goal.returns
returns c = c.loop-place.invariant ∙ ap (map (λ e. get_or c.args.table.now.items.now (rank_of c.args.table.now.domain.now (numbers_at e c.args.table.now.indexes.now)) (pos 0))) (take-whole c.loop-place.place c.args.frame.now (omega arith))
