-- One more accumulator has been counted up, and those behind it are as before.
use Rattle.std.proofs.Common.{◌≡◌, ◌<◌, ◌≤◌, ◌≢◌, ◌∙◌, sym, ap, subst, arith, length, get_or, get_or-set_other}
use Rattle.std.specs.Prelude.{IsTrue}
use Rattle.tile_kernel.specs.declared.accumulator.Accumulator.{Accumulator}
use Rattle.tile_kernel.proofs.Places.{other_default}
use Rattle.tile_kernel.proofs.Tellings.{each_more}
use Rattle.tile_columns.specs.Blanks.{skips_zeros, CountsZeros}
use Rattle.tile_columns.proofs.blanks.count_all_zeros.Goals as goal

pub count_zeros-requires : goal.count_zeros-requires
count_zeros-requires c =
    let k = c.loop-k.k in
    let p = c.index-folds-k.result in
    let within : k < length c.args.folds.now = omega arith in
    let same : get_or c.loop-k.folds k p ≡ get_or c.args.folds.now k p = c.loop-k.invariant.rest k p (omega arith) in
    let op : IsTrue (skips_zeros (get_or c.loop-k.folds k p).running.op) = subst (λ (a : Accumulator). IsTrue (skips_zeros a.running.op)) (sym same) (c.requires.op k p within) in
    let room : (get_or c.loop-k.folds k p).running.count ≤ c.args.count = subst (λ (a : Accumulator). a.running.count ≤ c.args.count) (sym same) (c.requires.room k p within) in
    record { op = op; room = room; few = c.requires.few }

pub loop-k-preserved : goal.loop-k-preserved
loop-k-preserved c =
    let before = c.args.folds.now in
    let inv = c.loop-k.invariant in
    let k = c.loop-k.k in
    let lt : c.loop-k.k < length c.loop-k.folds = omega arith in
    let within : c.loop-k.k < length c.args.folds.now = omega arith in
    let p = c.index-folds-k.result in
    let same : get_or c.loop-k.folds k p ≡ get_or before k p = inv.rest k p (omega arith) in
    let counted : c.count_zeros.new.a.running.count ≡ c.args.count = c.count_zeros.ensures.count in
    let kind : c.count_zeros.new.a.running.op ≡ (get_or c.loop-k.folds k p).running.op = c.count_zeros.ensures.op in
    record {
      stands = each_more c.loop-k.folds (λ k d a. CountsZeros c.args.count (get_or before k d) a) k c.count_zeros.new.a lt inv.stands
          (λ d. subst (λ a. CountsZeros c.args.count a c.count_zeros.new.a) (same ∙ other_default before k p d within) c.count_zeros.ensures.stands);
      room = each_more c.loop-k.folds (λ k d a. a.running.count ≡ c.args.count) k c.count_zeros.new.a lt inv.room (λ d. counted);
      op = each_more c.loop-k.folds (λ k d a. a.running.op ≡ (get_or before k d).running.op) k c.count_zeros.new.a lt inv.op
          (λ d. kind ∙ ap (λ (a : Accumulator). a.running.op) (same ∙ other_default before k p d within));
      rest = λ j d le. let ne : j ≢ k = omega arith in get_or-set_other c.loop-k.folds k j c.count_zeros.new.a d ne ∙ inv.rest j d (omega arith);
    }
