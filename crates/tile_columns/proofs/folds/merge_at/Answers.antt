-- One accumulator of many.
use Rattle.std.proofs.Common.{◌≡◌, ◌∙◌, ◌+◌, sym, ap, subst, get_or, get_or-set_other, get_or-set_same}
use Rattle.std.proofs.lemmas.List.Elements.{All-set}
use Rattle.tile_kernel.specs.declared.accumulator.Accumulator.{Accumulator}
use Rattle.tile_kernel.specs.Standing.{TakesIn}
use Rattle.tile_kernel.proofs.Places.{other_default}
use Rattle.tile_columns.proofs.folds.merge_at.Goals as goal

pub take_over-requires : goal.take_over-requires
take_over-requires c =
    let p = c.index-folds-place.result in
    record { op = c.requires.op c.args.place p c.requires.place; room = c.requires.room p }

pub returns : goal.returns
returns c =
    let before = c.args.folds.now in
    let k = c.args.place in
    let lt = c.requires.place in
    let p = c.index-folds-place.result in
    let new = c.take_over.new.self in
    let counted : new.running.count ≡ (get_or before k p).running.count + c.args.found.now.running.count = c.take_over.ensures.count in
    let kind : new.running.op ≡ (get_or before k p).running.op = c.take_over.ensures.op in
    record {
      told = λ more d s. subst (λ a. TakesIn (get_or before k d) a more) (sym (get_or-set_same before k new d lt)) (subst (λ a. TakesIn a new more) (other_default before k p d lt) (c.take_over.ensures.stands more s));
      count = λ d. ap (λ (a : Accumulator). a.running.count) (get_or-set_same before k new d lt) ∙ counted ∙ ap (λ (a : Accumulator). a.running.count + c.args.found.now.running.count) (other_default before k p d lt);
      kinds = λ op h. All-set (λ (a : Accumulator). a.running.op ≡ op) before k new (kind ∙ h k p lt) h;
      others = λ j d ne. get_or-set_other before k j new d ne;
    }
