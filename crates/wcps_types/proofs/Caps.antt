-- Sums and products that stop at a cap.
use Rattle.std.proofs.Common.{◌≡◌, ℕ, zero, suc, ◌+◌, ◌*◌, min, arith}
use Rattle.wcps_types.specs.Work.{max_work, capped}

-- a cap may be put on a factor first
pub min_times : (t p w : ℕ) → min (p * min w t) t ≡ min (p * w) t
min_times t zero w = omega arith
min_times t (suc p) w = grind arith

pub capped_times : (p w : ℕ) → capped (p * capped w) ≡ capped (p * w)
capped_times p w = min_times (max_work + 1) p w
