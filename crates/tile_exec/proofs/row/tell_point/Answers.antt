-- One more field.
use Rattle.std.proofs.Common.{◌≡◌, ◌∙◌, ◌<◌, ◌+◌, ◌++◌, ap, sym, subst, arith, refl, length, get_or, take}
use Rattle.std.specs.List.{enumerate_from}
use Rattle.std.proofs.lemmas.Grind.{common_steps}
use Rattle.tile_kernel.specs.Columns.{outcome_at}
use Rattle.tile_kernel.specs.Told.{IsFirst}
use Rattle.tile_kernel.proofs.Places.{outcome_there}
use Rattle.tile_exec.specs.Rows.{row_at}
use Rattle.tile_exec.proofs.Rows.{row_next}
use Rattle.tile_exec.proofs.row.tell_point.Goals as goal

pub loop-j-preserved : goal.loop-j-preserved
loop-j-preserved c =
    let j = c.loop-j.j in
    let k = c.args.k in
    let columns = c.args.columns.now in
    let x = c.index-columns-j.result in
    let o = c.at.result in
    let lt : j < length columns = omega (arith, c.loop-j-test.true) in
    let there : outcome_at (get_or columns j x) k ≡ o = ap (λ c. outcome_at c k) (sym c.index-columns-j.is) ∙ outcome_there x k o c.at.ensures in
    λ told h.
    subst (IsFirst c.first_after.result.fault c.first_after.result.place)
    (row_next c.args.place columns k j x told (c.args.place + j) o lt refl there)
    (c.first_after.ensures (told ++ enumerate_from c.args.place (row_at (take j columns) k)) (c.loop-j.invariant told h))

pub returns : goal.returns
returns c = grind (arith, common_steps)
