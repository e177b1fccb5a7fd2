-- The work of all fields of a node.
use Rattle.std.proofs.Common.{◌≡◌, ℕ, zero, suc, ◌+◌, ◌*◌, ◌<◌, Bool, List, [], ◌∷◌, refl, ap, length, drop, arith}
use Rattle.std.specs.Prelude.{Box, ℤ}
use Rattle.std.specs.Global.{Global}
use Rattle.wcps_types.specs.declared.typed.Node.{Node}
use Rattle.wcps_types.specs.declared.typed.Node.TheVariants as nodes
use Rattle.wcps_types.specs.Typed.{only_tree, field_tree, fields_view}
use Rattle.wcps_types.specs.Work.{work_of, fields_work}

pub field_places : (e : Node) (k : ℕ) (bs : List Bool) → length (fields_view e k bs) ≡ length bs
field_places e k [] = refl
field_places e k (b ∷ bs) = ap suc (field_places e (suc k) bs)

pub bracket_work : (b : Box Node Global) (k : ℕ) (bs : List Bool) → fields_work (fields_view (nodes.Bracket b) k bs) ≡ length bs + fields_work (fields_view b.value k bs)
bracket_work b k [] = refl
bracket_work b k (x ∷ bs) = omega (arith, bracket_work b (suc k) bs)

pub slice_work : (b : Box Node Global) (axis : ℕ) (lo hi : ℤ) (q : Box Node Global) (k : ℕ) (bs : List Bool)
    → fields_work (fields_view (nodes.Slice b axis lo hi q) k bs) ≡ fields_work (fields_view b.value k bs) + length bs * work_of (only_tree q.value)
slice_work b axis lo hi q k [] = omega arith
slice_work b axis lo hi q k (x ∷ bs) = omega (arith, slice_work b axis lo hi q (suc k) bs)

-- the first of the fields that are left
pub next_work : (e : Node) (n : ℕ) (bs : List Bool) (j : ℕ) → j < length bs
    → fields_work (fields_view e n (drop j bs)) ≡ work_of (field_tree e n) + fields_work (fields_view e (suc n) (drop (suc j) bs))
next_work e n [] j lt = absurd (omega arith)
next_work e n (b ∷ bs) zero lt = refl
next_work e n (b ∷ bs) (suc j) lt = next_work e n bs j (omega (arith, lt))
