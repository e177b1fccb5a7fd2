-- Where the operand is values, a trial that succeeds has written the operation's value at each place.
use Rattle.std.proofs.Common.{refl, ◌≡◌, ◌∙◌, ap, arith, sym, length, get_or, pos}
use Rattle.std.proofs.lemmas.Grind.{common_steps}
use Rattle.wcps_mean.specs.declared.cell.Outcome.TheVariants.{Value}
use Rattle.wcps_mean.specs.Cells.{operate1}
use Rattle.tile_kernel.proofs.Places.{value_there, narrow_places, narrow_there, places_are, written_back}
use Rattle.tile_kernel.proofs.operate_one.try_column.Goals as goal

pub returns-in-Values-clause-value : goal.returns-in-Values-clause-value
returns-in-Values-clause-value c = λ t k lt.
    let n : c.operand.inside.len ≡ length c.args.operand.now = places_are _ _ _ _ _ _ c.operand.view_is c.operand.invariant in
    ap (operate1 c.args.op) (value_there _ _ _ _ _ _ _ k c.in-Values.is c.operand.view_is c.operand.invariant refl lt)
    ∙ c.try_one.ensures t k (omega arith)
    ∙ ap (λ l. Value (get_or l k (pos 0))) (sym (written_back c.args.out.now.len c.try_one.new.out _ (omega (arith, c.args.out.now.ok.0))))

pub try_one-requires-in-Narrow-clause-operand : goal.try_one-requires-in-Narrow-clause-operand
try_one-requires-in-Narrow-clause-operand c = narrow_places _ _ _ _ _ c.in-Narrow.is c.operand.invariant

pub returns-in-Narrow-clause-value : goal.returns-in-Narrow-clause-value
returns-in-Narrow-clause-value c = λ t k lt.
    let n : c.operand.inside.len ≡ length c.args.operand.now = places_are _ _ _ _ _ _ c.operand.view_is c.operand.invariant in
    ap (operate1 c.args.op) (narrow_there _ _ _ _ _ _ k c.in-Narrow.is c.operand.view_is c.operand.invariant lt)
    ∙ c.try_one-in-Narrow.ensures t k (omega arith)
    ∙ ap (λ l. Value (get_or l k (pos 0))) (sym (written_back c.args.out.now.len c.try_one-in-Narrow.new.out _ (omega (arith, c.args.out.now.ok.0))))

pub try_one-requires-clause-out : goal.try_one-requires-clause-out
try_one-requires-clause-out c = grind (arith, common_steps)

pub returns-in-Values-clause-room : goal.returns-in-Values-clause-room
returns-in-Values-clause-room c = grind (arith, common_steps)

pub try_one-requires-in-Narrow-clause-out : goal.try_one-requires-in-Narrow-clause-out
try_one-requires-in-Narrow-clause-out c = grind (arith, common_steps)

pub returns-in-Narrow-clause-room : goal.returns-in-Narrow-clause-room
returns-in-Narrow-clause-room c = grind (arith, common_steps)

pub returns-in-Same-clause-room : goal.returns-in-Same-clause-room
returns-in-Same-clause-room c = grind (arith, common_steps)

pub returns-in-Mixed-clause-room : goal.returns-in-Mixed-clause-room
returns-in-Mixed-clause-room c = grind (arith, common_steps)
