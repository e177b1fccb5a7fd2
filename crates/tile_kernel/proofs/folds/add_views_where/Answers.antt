-- One more accumulator has taken in what its outcome adds under its condition, and those behind it are as before.
use Rattle.std.proofs.Common.{◌≡◌, ◌<◌, ◌≤◌, ◌+◌, ◌≢◌, ◌∙◌, sym, ap, subst, arith, List, ◌++◌, length, get_or, get_or-set_other}
use Rattle.tile_kernel.specs.declared.accumulator.Accumulator.{Accumulator}
use Rattle.tile_kernel.specs.Columns.{outcome_at}
use Rattle.tile_kernel.specs.Told.{Told, demanded_of}
use Rattle.tile_kernel.specs.Standing.{Stands}
use Rattle.tile_kernel.proofs.Places.{outcome_there, other_default}
use Rattle.tile_kernel.proofs.Tellings.{each_more}
use Rattle.tile_kernel.proofs.folds.add_views_where.Goals as goal

pub loop-k-preserved : goal.loop-k-preserved
loop-k-preserved c =
    let before = c.args.folds.now in
    let inv = c.loop-k.invariant in
    let k = c.loop-k.k in
    let lt : c.loop-k.k < length c.loop-k.folds = omega arith in
    let within : c.loop-k.k < length c.args.folds.now = omega arith in
    let p = c.index-folds-k.result in
    let i : outcome_at c.args.condition.now k ≡ c.at.result = outcome_there c.args.condition.now k c.at.result c.at.ensures in
    let o : outcome_at c.args.column.now k ≡ c.at-in-loop-k.result = outcome_there c.args.column.now k c.at-in-loop-k.result c.at-in-loop-k.ensures in
    let same : get_or c.loop-k.folds k p ≡ get_or before k p = inv.rest k p (omega arith) in
    let small : (get_or c.loop-k.folds k p).running.count ≤ c.args.place = subst (λ (a : Accumulator). a.running.count ≤ c.args.place) (sym same) (c.requires.room k p within) in
    let counted : c.add_where.new.self.running.count ≤ (get_or c.loop-k.folds k p).running.count + 1 = c.add_where.ensures.count in
    let kind : c.add_where.new.self.running.op ≡ (get_or c.loop-k.folds k p).running.op = c.add_where.ensures.op in
    record {
      stands = each_more c.loop-k.folds (λ k d a. (told : List Told) → Stands (get_or before k d) told → Stands a (told ++ demanded_of c.args.place (outcome_at c.args.condition.now k) (outcome_at c.args.column.now k))) k c.add_where.new.self lt inv.stands
          (λ d told s. subst (λ u. Stands c.add_where.new.self (told ++ demanded_of c.args.place u (outcome_at c.args.column.now k))) (sym i) (subst (λ u. Stands c.add_where.new.self (told ++ demanded_of c.args.place c.at.result u)) (sym o) (c.add_where.ensures.stands told (subst (λ a. Stands a told) (other_default before k d p within ∙ sym same) s))));
      room = each_more c.loop-k.folds (λ k d a. a.running.count ≤ c.args.place + 1) k c.add_where.new.self lt inv.room (λ d. omega (arith, counted, small));
      op = each_more c.loop-k.folds (λ k d a. a.running.op ≡ (get_or before k d).running.op) k c.add_where.new.self lt inv.op (λ d. kind ∙ ap (λ (a : Accumulator). a.running.op) (same ∙ other_default before k p d within));
      rest = λ j d le. let ne : j ≢ k = omega arith in get_or-set_other c.loop-k.folds k j c.add_where.new.self d ne ∙ inv.rest j d (omega arith);
    }
