-- Where the left operand is values, a trial that succeeds has written the operation's value at each place.
use Rattle.std.proofs.Common.{refl, ◌≡◌, ◌∙◌, ap, arith, sym, length, get_or, pos, rules, SFits, w64}
use Rattle.std.proofs.lemmas.Int.{to_z-of_z}
use Rattle.std.proofs.lemmas.Grind.{common_steps}
use Rattle.wcps_mean.specs.declared.cell.Outcome.TheVariants.{Value}
use Rattle.wcps_mean.specs.Cells.{operate2}
use Rattle.tile_kernel.specs.Columns.{outcome_at}
use Rattle.tile_kernel.proofs.Places.{value_there, narrow_places, narrow_there, same_there, places_are, written_back}
use Rattle.tile_kernel.proofs.operate.try_columns.Goals as goal

pub returns-in-Values-clause-value : goal.returns-in-Values-clause-value
returns-in-Values-clause-value c = λ t k lt.
    let n : c.left.inside.len ≡ length c.args.left.now = places_are _ _ _ _ _ _ c.left.view_is c.left.invariant in
    ap (λ o. operate2 c.args.op o (outcome_at c.args.right.now k)) (value_there _ _ _ _ _ _ _ k c.in-Values.is c.left.view_is c.left.invariant refl lt)
    ∙ c.try_right.ensures t k (omega arith)
    ∙ ap (λ l. Value (get_or l k (pos 0))) (sym (written_back c.args.out.now.len c.try_right.new.out _ (omega (arith, c.args.out.now.ok.0))))

pub try_right-requires-in-Narrow-clause-left : goal.try_right-requires-in-Narrow-clause-left
try_right-requires-in-Narrow-clause-left c = narrow_places _ _ _ _ _ c.in-Narrow.is c.left.invariant

pub returns-in-Narrow-clause-value : goal.returns-in-Narrow-clause-value
returns-in-Narrow-clause-value c = λ t k lt.
    let n : c.left.inside.len ≡ length c.args.left.now = places_are _ _ _ _ _ _ c.left.view_is c.left.invariant in
    ap (λ o. operate2 c.args.op o (outcome_at c.args.right.now k)) (narrow_there _ _ _ _ _ _ k c.in-Narrow.is c.left.view_is c.left.invariant lt)
    ∙ c.try_right-in-Narrow.ensures t k (omega arith)
    ∙ ap (λ l. Value (get_or l k (pos 0))) (sym (written_back c.args.out.now.len c.try_right-in-Narrow.new.out _ (omega (arith, c.args.out.now.ok.0))))

pub returns-in-Value-clause-value : goal.returns-in-Value-clause-value
returns-in-Value-clause-value c = λ t k lt.
    let n : c.left.inside.len ≡ length c.args.left.now = places_are _ _ _ _ _ _ c.left.view_is c.left.invariant in
    let out = c.try_right-in-Value.new.out in
    let fits : SFits w64 c.in-Value.value = search rules in
    ap (λ o. operate2 c.args.op o (outcome_at c.args.right.now k)) (same_there _ _ _ _ _ _ _ k c.in-Same.is c.left.view_is c.left.invariant lt ∙ c.in-Value.is)
    ∙ ap (λ z. operate2 c.args.op (Value z) (outcome_at c.args.right.now k)) (sym (to_z-of_z w64 c.in-Value.value fits))
    ∙ c.try_right-in-Value.ensures t k (omega arith)
    ∙ ap (λ l. Value (get_or l k (pos 0))) (sym (written_back c.args.out.now.len out _ (omega (arith, c.args.out.now.ok.0))))

pub try_right-requires-clause-right : goal.try_right-requires-clause-right
try_right-requires-clause-right c = grind (arith, common_steps)

pub try_right-requires-clause-out : goal.try_right-requires-clause-out
try_right-requires-clause-out c = grind (arith, common_steps)

pub returns-in-Values-clause-room : goal.returns-in-Values-clause-room
returns-in-Values-clause-room c = grind (arith, common_steps)

pub try_right-requires-in-Narrow-clause-right : goal.try_right-requires-in-Narrow-clause-right
try_right-requires-in-Narrow-clause-right c = grind (arith, common_steps)

pub try_right-requires-in-Narrow-clause-out : goal.try_right-requires-in-Narrow-clause-out
try_right-requires-in-Narrow-clause-out c = grind (arith, common_steps)

pub returns-in-Narrow-clause-room : goal.returns-in-Narrow-clause-room
returns-in-Narrow-clause-room c = grind (arith, common_steps)

pub try_right-requires-in-Value-clause-right : goal.try_right-requires-in-Value-clause-right
try_right-requires-in-Value-clause-right c = grind (arith, common_steps)

pub try_right-requires-in-Value-clause-out : goal.try_right-requires-in-Value-clause-out
try_right-requires-in-Value-clause-out c = grind (arith, common_steps)

pub returns-in-Value-clause-room : goal.returns-in-Value-clause-room
returns-in-Value-clause-room c = grind (arith, common_steps)

pub returns-in-Fault-clause-room : goal.returns-in-Fault-clause-room
returns-in-Fault-clause-room c = grind (arith, common_steps)

pub returns-in-Mixed-clause-room : goal.returns-in-Mixed-clause-room
returns-in-Mixed-clause-room c = grind (arith, common_steps)
