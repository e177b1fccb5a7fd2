-- A number stands among the rising ones where it stands among the values.
use Rattle.std.proofs.Common.{◌≡◌, ℤ, List, Contains, sym, subst}
use Rattle.std.proofs.lemmas.Result.{IfOk-weaker}
use Rattle.tile_kernel.specs.Keyed.{AreValuesOf}
use Rattle.tile_kernel.proofs.slots.Slots.of_view.Goals as goal

pub returns-clause-all : goal.returns-clause-all
returns-clause-all c =
    let column = c.args.column.now in
    let rising = c.make_rising.new.numbers.items in
    let all : AreValuesOf column rising = λ z. subst (λ (vs : List ℤ). (Contains vs z → Contains rising z) × (Contains rising z → Contains vs z)) c.in_ok-numbers.ensures.values (c.make_rising.ensures.same z) in
    IfOk-weaker c.of_rising.result (λ (s : List ℤ). s ≡ rising) (AreValuesOf column) (λ s e. subst (AreValuesOf column) (sym e) all) c.of_rising.ensures
