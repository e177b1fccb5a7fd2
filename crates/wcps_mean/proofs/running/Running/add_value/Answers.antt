-- One more value is in what the condenser keeps, whichever its kind.
use Rattle.std.proofs.Common.{rules, ◌≡◌, refl, ap, ◌∙◌, ◌+◌, Some, cond, arith, w64, SFits, ◌&&◌, ◌||◌}
use Rattle.std.proofs.lemmas.Int.{ints, to_z-of_z}
use Rattle.arr_core.specs.Cells.{truth_of}
use Rattle.wcps_mean.specs.Best.{top_of, bottom_of}
use Rattle.wcps_mean.proofs.Feeds.{fed_value, keeps_sum, keeps_average, keeps_product, keeps_greatest, keeps_least, keeps_every, keeps_any, keeps_count, and_of_true, and_of_false, or_of_true, or_of_false}
use Rattle.wcps_mean.proofs.running.Running.add_value.Goals as goal
use Rattle.wcps_mean.proofs.running.Running.add_value.Goals.{then-self, else-self, then-self-2, else-self-2}

pub returns-in-Sum-clause-fed : goal.returns-in-Sum-clause-fed
returns-in-Sum-clause-fed c = λ outs h. fed_value _ _ outs c.args.x refl refl refl (λ zs. keeps_sum c.args.self.now _ zs c.args.x c.in-Sum.is (omega (arith, ints))) h

pub returns-in-Average-clause-fed : goal.returns-in-Average-clause-fed
returns-in-Average-clause-fed c = λ outs h. fed_value _ _ outs c.args.x refl refl refl (λ zs. keeps_average c.args.self.now _ zs c.args.x c.in-Average.is (omega (arith, ints))) h

pub returns-in-Product-clause-fed : goal.returns-in-Product-clause-fed
returns-in-Product-clause-fed c = λ outs h. fed_value _ _ outs c.args.x refl refl refl (λ zs. keeps_product c.args.self.now _ zs c.args.x c.in-Product.is (rw (to_z-of_z w64 c.args.x c.ranges.x) at c.times-self.ensures)) h

pub returns-in-Greatest-clause-fed : goal.returns-in-Greatest-clause-fed
returns-in-Greatest-clause-fed c =
    let fits : SFits w64 c.greater.result = search rules in
    λ outs h. fed_value _ _ outs c.args.x refl refl refl (λ zs. keeps_greatest c.args.self.now _ zs c.args.x c.in-Greatest.is (ap Some (to_z-of_z w64 c.greater.result fits ∙ c.greater.ensures ∙ ap (λ x. top_of c.args.self.now.best x) (to_z-of_z w64 c.args.x c.ranges.x)))) h

pub returns-in-Least-clause-fed : goal.returns-in-Least-clause-fed
returns-in-Least-clause-fed c =
    let fits : SFits w64 c.lesser.result = search rules in
    λ outs h. fed_value _ _ outs c.args.x refl refl refl (λ zs. keeps_least c.args.self.now _ zs c.args.x c.in-Least.is (ap Some (to_z-of_z w64 c.lesser.result fits ∙ c.lesser.ensures ∙ ap (λ x. bottom_of c.args.self.now.best x) (to_z-of_z w64 c.args.x c.ranges.x)))) h

pub returns-in-Every-clause-fed : goal.returns-in-Every-clause-fed
returns-in-Every-clause-fed c =
    let same = to_z-of_z w64 c.args.x c.ranges.x in
    let all : c.if-self.self ≡ (c.args.self.now.all && truth_of c.args.x) = elim c.if-self.branch [
      | then-self w ↦ and_of_true _ _ _ w.if-self.true (w.self-is ∙ w.is_set-self.ensures ∙ ap truth_of same)
      | else-self w ↦ and_of_false _ _ _ w.if-self.false (w.self-is ∙ w.if-self.false)
    ] in
    λ outs h. fed_value _ _ outs c.args.x refl refl refl (λ zs. keeps_every c.args.self.now _ zs c.args.x c.in-Every.is all) h

pub returns-in-Any-clause-fed : goal.returns-in-Any-clause-fed
returns-in-Any-clause-fed c =
    let same = to_z-of_z w64 c.args.x c.ranges.x in
    let some : c.if-self-2.self ≡ (c.args.self.now.some || truth_of c.args.x) = elim c.if-self-2.branch [
      | then-self-2 w ↦ or_of_true _ _ _ w.if-self-2.true (w.self-is ∙ w.if-self-2.true)
      | else-self-2 w ↦ or_of_false _ _ _ w.if-self-2.false (w.self-is ∙ w.is_set-self-else-self-2.ensures ∙ ap truth_of same)
    ] in
    λ outs h. fed_value _ _ outs c.args.x refl refl refl (λ zs. keeps_any c.args.self.now _ zs c.args.x c.in-Any.is some) h

pub returns-in-Count-clause-fed : goal.returns-in-Count-clause-fed
returns-in-Count-clause-fed c =
    let same = to_z-of_z w64 c.args.x c.ranges.x in
    λ outs h. fed_value _ _ outs c.args.x refl refl refl (λ zs. keeps_count c.args.self.now _ zs c.args.x c.in-Count.is (ap (λ n. c.args.self.now.trues + n) (c.weight.ensures.value ∙ ap (λ x. cond (truth_of x) 1 0) same))) h
