-- One more accumulator has taken in its outcome of the column, and those behind it are as before.
use Rattle.std.proofs.Common.{◌≡◌, ◌<◌, ◌≤◌, ◌+◌, ◌≢◌, ◌∙◌, sym, ap, subst, arith, List, [], ◌∷◌, ◌++◌, length, get_or, get_or-set_other}
use Rattle.tile_kernel.specs.declared.accumulator.Accumulator.{Accumulator}
use Rattle.tile_kernel.specs.Columns.{outcome_at}
use Rattle.tile_kernel.specs.Told.{Told}
use Rattle.tile_kernel.specs.Standing.{Stands}
use Rattle.tile_kernel.proofs.Places.{outcome_there, other_default}
use Rattle.tile_kernel.proofs.Tellings.{each_more}
use Rattle.tile_kernel.proofs.folds.add_view.Goals as goal

pub loop-k-preserved : goal.loop-k-preserved
loop-k-preserved c =
    let before = c.args.folds.now in
    let inv = c.loop-k.invariant in
    let k = c.loop-k.k in
    let lt : c.loop-k.k < length c.loop-k.folds = omega arith in
    let within : c.loop-k.k < length c.args.folds.now = omega arith in
    let p = c.index-folds-k.result in
    let o : outcome_at c.args.column.now k ≡ c.at.result = outcome_there c.args.column.now k c.at.result c.at.ensures in
    let same : get_or c.loop-k.folds k p ≡ get_or before k p = inv.rest k p (omega arith) in
    let small : (get_or c.loop-k.folds k p).running.count ≤ c.args.place = subst (λ (a : Accumulator). a.running.count ≤ c.args.place) (sym same) (c.requires.room k p within) in
    let counted : c.add.new.self.running.count ≡ (get_or c.loop-k.folds k p).running.count + 1 = c.add.ensures.count in
    let kind : c.add.new.self.running.op ≡ (get_or c.loop-k.folds k p).running.op = c.add.ensures.op in
    record {
      stands = each_more c.loop-k.folds (λ k d a. (told : List Told) → Stands (get_or before k d) told → Stands a (told ++ (c.args.place, outcome_at c.args.column.now k) ∷ [])) k c.add.new.self lt inv.stands
          (λ d told s. subst (λ o. Stands c.add.new.self (told ++ (c.args.place, o) ∷ [])) (sym o) (c.add.ensures.stands told (subst (λ a. Stands a told) (other_default before k d p within ∙ sym same) s)));
      room = each_more c.loop-k.folds (λ k d a. a.running.count ≤ c.args.place + 1) k c.add.new.self lt inv.room (λ d. omega (arith, counted, small));
      op = each_more c.loop-k.folds (λ k d a. a.running.op ≡ (get_or before k d).running.op) k c.add.new.self lt inv.op (λ d. kind ∙ ap (λ (a : Accumulator). a.running.op) (same ∙ other_default before k p d within));
      rest = λ j d le. let ne : j ≢ k = omega arith in get_or-set_other c.loop-k.folds k j c.add.new.self d ne ∙ inv.rest j d (omega arith);
    }
