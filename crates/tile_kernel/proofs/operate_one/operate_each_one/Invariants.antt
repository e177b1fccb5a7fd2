use Rattle.std.proofs.Common.{◌≡◌, ℕ, ◌<◌, get_or, pos, None}
use Rattle.wcps_mean.specs.Cells.{operate1}
use Rattle.tile_kernel.specs.Columns.{outcome_of, outcome_at}
use Rattle.tile_kernel.proofs.operate_one.operate_each_one.Given as goal

abbrev pub invariant-loop-place : goal.invariant-loop-place
invariant-loop-place l = (k : ℕ) → k < l.place → outcome_of (get_or l.numbers k (pos 0)) (get_or l.marks k None) ≡ operate1 l.op (outcome_at l.operand k)
