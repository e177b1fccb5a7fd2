-- No value of the column is true, and it has no fault.
use Rattle.std.proofs.lemmas.Bool.{not-true}
use Rattle.tile_kernel.proofs.Falsity.{never_chosen, none_by}
use Rattle.tile_kernel.proofs.conditions.is_never.Goals as goal

pub returns-then-is_none : goal.returns-then-is_none
returns-then-is_none c = λ h.
    never_chosen c.in-Some.found c.args.condition.now c.in-Some.ensures.stands c.in-Some.ensures.op
    (none_by c.in-Some.found.running.fault c.if-is_none.ensures) (not-true c.in-Some.found.running.some h)
