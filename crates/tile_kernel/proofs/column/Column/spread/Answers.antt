-- The values that were spread stand at the places of their runs, and those that were widened at theirs.
use Rattle.std.proofs.Common.{◌≡◌, ◌∙◌, ap, subst, arith, length, take, map, List, ℤ}
use Rattle.wcps_mean.specs.declared.cell.Outcome.TheVariants.{Value}
use Rattle.tile_kernel.proofs.Places.{written_back}
use Rattle.tile_kernel.proofs.Repeats.{spread_back, widened_back}
use Rattle.tile_kernel.proofs.column.Column.spread.Goals as goal

pub returns-in-Some : goal.returns-in-Some
returns-in-Some c =
    let cs = take c.in-Some.runs c.deref-in-Some.result.now in
    let heads = c.copy_heads.new.heads in
    let room : length heads ≡ 4096 = omega arith in
    let copied : take (length c.self.inside.values.items) heads ≡ c.self.inside.values.items = subst (λ (zs : List ℤ). take (length zs) heads ≡ zs) c.as_slice.ensures.value c.copy_heads.ensures in
    ap (λ (l : List ℤ). map Value (take c.self.inside.len l)) (written_back c.self.inside.values.len c.spread_over.new.out _ (omega (arith, c.spread_over.ensures.length, c.as_mut_slice.ensures.len)))
    ∙ spread_back _ _ _ _ _ _ _ cs _ _ heads c.spread_over.new.out c.in-Some.is c.self.view_is c.self.invariant (ap (take c.in-Some.runs) c.deref-in-Some.ensures.value) room copied c.spread_over.ensures.front

pub returns-in-Narrow : goal.returns-in-Narrow
returns-in-Narrow c = widened_back _ _ _ _ _ _ _ _ _ c.widen.new.values.items c.in-None.is c.in-Narrow.is c.self.view_is c.self.invariant c.deref.ensures.value c.widen.ensures.front
