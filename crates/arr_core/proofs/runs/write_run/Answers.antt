-- A short run is written a block at a time.
use Rattle.std.proofs.Common.{◌≡◌, List, ℕ, ℤ, ◌+◌, ◌-◌, ◌++◌, take, length, replicate, sym, ap, ap₂, ◌∙◌, arith, rules, append_assoc, SFits, w64, to_z, of_z}
use Rattle.std.proofs.lemmas.Int.{to_z-of_z}
use Rattle.std.proofs.lemmas.Slice.{take-put_mid}
use Rattle.std.proofs.lemmas.List.{replicate-append-replicate, take-replicate, take-take, length-take-le}
use Rattle.std.proofs.Math.Seq.{take-append-add}
use Rattle.std.proofs.lemmas.Grind.{common_steps}
use Rattle.arr_core.proofs.runs.write_run.Goals as goal

pub loop-at-preserved : goal.loop-at-preserved
loop-at-preserved c =
    let v = c.args.value in
    let fits : SFits w64 v = search rules in
    let same : to_z w64 (of_z w64 v) ≡ v = to_z-of_z w64 v fits in
    let was = c.loop-at.invariant.written ∙ ap (λ (z : ℤ). take c.args.from c.args.cells.now ++ replicate (c.loop-at.at - c.args.from) z) same in
    let filled : c.fill-in-loop-at.new.self ≡ replicate 8 v = search rules in
    let put = take-put_mid c.loop-at.at (c.loop-at.at + 8 - c.loop-at.at) c.loop-at.cells c.fill-in-loop-at.new.self (c.loop-at.at + 8) (omega (arith, ap length filled)) (omega arith) in
    let joined : replicate (c.loop-at.at - c.args.from) v ++ replicate 8 v ≡ replicate (c.loop-at.at + 8 - c.args.from) v = replicate-append-replicate (c.loop-at.at - c.args.from) 8 v ∙ ap (λ (n : ℕ). replicate n v) (omega arith) in
    record {
      begun = omega arith;
      near = omega arith;
      written = put ∙ ap₂ (λ (xs ys : List ℤ). xs ++ ys) was filled ∙ append_assoc (take c.args.from c.args.cells.now) _ _ ∙ ap (λ (xs : List ℤ). take c.args.from c.args.cells.now ++ xs) joined
          ∙ ap (λ (z : ℤ). take c.args.from c.args.cells.now ++ replicate (c.loop-at.at + 8 - c.args.from) z) (sym same);
    }

pub returns-clause-front : goal.returns-clause-front
returns-clause-front c =
    let front = take c.args.from c.args.cells.now in
    let count = c.args.count in
    let done = replicate (c.loop-at.at - c.args.from) c.args.value in
    let fits : SFits w64 c.args.value = search rules in
    let written = c.loop-at.invariant.written ∙ ap (λ (z : ℤ). front ++ replicate (c.loop-at.at - c.args.from) z) (to_z-of_z w64 c.args.value fits) in
    let long = length-take-le c.args.from c.args.cells.now (omega arith) in
    sym (take-take (c.args.from + count) c.loop-at.at c.loop-at.cells (omega arith)) ∙ ap (take (c.args.from + count)) written
    ∙ ap (λ (n : ℕ). take (n + count) (front ++ done)) (sym long) ∙ take-append-add front done count
    ∙ ap (λ (xs : List ℤ). front ++ xs) (take-replicate count (c.loop-at.at - c.args.from) c.args.value (omega arith))

pub returns-then-count-ge-LONG-clause-front : goal.returns-then-count-ge-LONG-clause-front
returns-then-count-ge-LONG-clause-front c = grind (arith, common_steps)
