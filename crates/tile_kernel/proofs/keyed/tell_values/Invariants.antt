use Rattle.std.proofs.Common.{◌≡◌, List, length, take}
use Rattle.wcps_mean.specs.declared.cell.Outcome.{Outcome}
use Rattle.tile_kernel.specs.Told.{demanded_at}
use Rattle.tile_kernel.specs.Condensing.{EachIsTold, EachCountsMore}
use Rattle.tile_kernel.specs.Columns.{HasValues}
use Rattle.tile_kernel.specs.Keyed.{having, number_at}
use Rattle.tile_kernel.proofs.keyed.tell_values.Given as goal

-- what the first values add has been taken in
abbrev pub invariant-loop-j : goal.invariant-loop-j
invariant-loop-j g l = record {
  stands : (own column : List Outcome) → HasValues (length l.places) (g.K.Operand.value l.keys) own → HasValues (length l.places) (g.V.Operand.value l.cells) column
      → EachIsTold g.C.Condenser.stands l.initial.folds l.folds (λ k. demanded_at (take l.j l.places) (take l.j (having own (number_at (g.N.Numbers.numbers l.numbers) k))) (take l.j column));
  room : EachCountsMore g.C.Condenser.counted l.j l.initial.folds l.folds;
  length : length l.folds ≡ length l.initial.folds;
}
