-- One more pair.
use Rattle.std.proofs.Common.{◌<◌, ◌∙◌, sym, subst, refl, arith, length}
use Rattle.std.specs.List.{All}
use Rattle.std.proofs.lemmas.List.Elements.{All-push}
use Rattle.std.proofs.lemmas.Option.{slice_get_read}
use Rattle.tile_kernel.proofs.Places.{outcome_there}
use Rattle.tile_exec.specs.Known.{IsPairOf}
use Rattle.tile_exec.proofs.known.pairs_of.Goals as goal

pub loop-place-preserved : goal.loop-place-preserved
loop-place-preserved c =
    let k = c.loop-place.place in
    let samples = c.args.samples.now in
    let outcomes = c.args.outcomes.now in
    let x = c.index-samples-place.result in
    let inv = c.loop-place.invariant in
    let lt : k < length samples = omega (arith, c.loop-place-test.true) in
    let pair = c.pair_of.result in
    let one : IsPairOf samples outcomes pair = record {
      place = k;
      below = lt;
      sample = x;
      there = slice_get_read samples (length samples) k x refl lt c.index-samples-place.is;
      number = c.pair_of.ensures.number;
      outcome = c.pair_of.ensures.outcome ∙ sym (outcome_there outcomes k c.at.result c.at.ensures);
    } in
    record {
      many = omega (arith, c.in_ok-push.ensures.len, inv.many);
      each = subst (All (IsPairOf samples outcomes)) (sym c.in_ok-push.ensures.items) (All-push (IsPairOf samples outcomes) c.loop-place.pairs.items pair inv.each one);
    }
