use Rattle.std.proofs.Common.{◌≡◌, length, take}
use Rattle.tile_kernel.specs.Told.{demanded_at}
use Rattle.tile_kernel.specs.Condensing.{EachIsTold, EachCountsMore}
use Rattle.tile_kernel.specs.Keyed.{having, number_at}
use Rattle.tile_kernel.proofs.keyed.tell_cells.Given as goal

-- what the first cells add has been taken in
abbrev pub invariant-loop-j : goal.invariant-loop-j
invariant-loop-j g l = record {
  stands : EachIsTold g.C.Condenser.stands l.initial.folds l.folds (λ k. demanded_at (take l.j l.places) (take l.j (having l.keys (number_at (g.N.Numbers.numbers l.numbers) k))) (take l.j l.column));
  room : EachCountsMore g.C.Condenser.counted l.j l.initial.folds l.folds;
  length : length l.folds ≡ length l.initial.folds;
}
