-- Each accumulator's outcome is that of the points in their order.
use Rattle.std.proofs.Common.{◌≡◌, ◌∙◌, ◌∷◌, [], ap, sym, subst, arith, length, length-append, map-id}
use Rattle.std.proofs.lemmas.Iterator.Adapters.{YieldsList-from_vec}
use Rattle.std.proofs.lemmas.Iterator.Consumers.{YieldsList-end}
use Rattle.tile_columns.proofs.Condensings.{AreFinished, finished_more, finished_all}
use Rattle.tile_columns.proofs.folds.finish_folds.Goals as goal

pub loop-accumulator-preserved : goal.loop-accumulator-preserved
loop-accumulator-preserved c =
    let inv = c.loop-accumulator.invariant in
    let a = ap length c.in_ok-push.ensures.items in
    let b = length-append c.loop-accumulator.list.items (c.finish.result ∷ []) in
    let e = length-append c.loop-accumulator.yielded (c.in-Some.accumulator ∷ []) in
    record {
      places = omega (arith, a, b, e, inv.places);
      each = finished_more c.loop-accumulator.yielded c.in-Some.accumulator c.loop-accumulator.list.items _ c.finish.result inv.places c.in_ok-push.ensures.items c.finish.ensures inv.each;
    }

pub returns-clause-value : goal.returns-clause-value
returns-clause-value c = λ op told a s r.
    let inv = c.loop-accumulator.invariant in
    let gives = c.into_iter-accumulator-iterator.ensures.into_iter_gives in
    let end = YieldsList-end (YieldsList-from_vec {s = c.into_iter-accumulator-iterator.result} c.args.folds.items gives.0 (omega (arith, gives.1, c.args.folds.ok.0))) c.loop-accumulator.yielded c.loop-accumulator.accumulator-iterator c.loop-accumulator.yielded_by c.next.result c.next.new.self c.in-None.is c.next.ensures.steps in
    let same : c.loop-accumulator.yielded ≡ c.args.folds.items = sym (map-id c.loop-accumulator.yielded) ∙ end.0 in
    finished_all op c.args.folds.items c.loop-accumulator.list.items told (inv.places ∙ ap length same) a s r (subst (λ l. AreFinished l c.loop-accumulator.list.items) same inv.each)
