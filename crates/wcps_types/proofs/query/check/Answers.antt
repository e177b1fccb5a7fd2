-- What a query is found to be is sound.
use Rattle.wcps_types.proofs.query.check.Goals as goal

pub invariant_of-result : goal.invariant_of-result
invariant_of-result c =
    let s = c.in_ok-resolved.ensures.sound in
    record { made = s.made; typed = s.typed; kinds = s.kinds; some = s.some; few_cells = s.few_cells; told = s.told; little_work = s.little_work }
