-- Condensers: what becomes of the outcomes at all points of a box. (WCPS condensers.)
use Rattle.std.specs.Prelude.{ℕ, ◌+◌, ◌/◌, ℤ, pos, negsuc, ◌+ℤ◌, ◌*ℤ◌, int_le, cond, Bool, true, false, ◌&&◌, ◌||◌, List, [], ◌∷◌, length, Option, Some, None}
use Rattle.wcps_text.specs.declared.operator.Aggregate.{Aggregate}
use Rattle.wcps_text.specs.declared.operator.Aggregate.TheVariants.{Sum, Product, Greatest, Least, Every, Any, Count, Average}
use Rattle.wcps_mean.specs.declared.cell.PointFault.{PointFault}
use Rattle.wcps_mean.specs.declared.cell.PointFault.TheVariants.{EmptyCondense}
use Rattle.wcps_mean.specs.declared.cell.Outcome.{Outcome}
use Rattle.wcps_mean.specs.declared.cell.Outcome.TheVariants.{Value, Fault}
use Rattle.arr_core.specs.Cells.{truth_of}
use Rattle.wcps_mean.specs.Cells.{ranged, truth}

-- the first fault in the list
abbrev pub first_fault : List Outcome → Option PointFault
first_fault [] = None
first_fault (Fault f ∷ outs) = Some f
first_fault (Value z ∷ outs) = first_fault outs

-- the values in the list
abbrev pub values : List Outcome → List ℤ
values [] = []
values (Fault f ∷ outs) = values outs
values (Value z ∷ outs) = z ∷ values outs

-- the exact sum
abbrev pub total : List ℤ → ℤ
total [] = pos 0
total (z ∷ zs) = z +ℤ total zs

-- the exact product
abbrev pub product : List ℤ → ℤ
product [] = pos 1
product (z ∷ zs) = z *ℤ product zs

abbrev pub larger : ℤ → ℤ → ℤ
larger x y = cond (int_le x y) y x

abbrev pub smaller : ℤ → ℤ → ℤ
smaller x y = cond (int_le x y) x y

-- the greatest of m and the values
abbrev pub greatest : ℤ → List ℤ → ℤ
greatest m [] = m
greatest m (z ∷ zs) = greatest (larger m z) zs

-- the least of m and the values
abbrev pub least : ℤ → List ℤ → ℤ
least m [] = m
least m (z ∷ zs) = least (smaller m z) zs

-- whether all say true
abbrev pub every : List ℤ → Bool
every [] = true
every (z ∷ zs) = truth_of z && every zs

-- whether some one says true
abbrev pub any : List ℤ → Bool
any [] = false
any (z ∷ zs) = truth_of z || any zs

-- how many say true
abbrev pub trues : List ℤ → ℕ
trues [] = 0
trues (z ∷ zs) = cond (truth_of z) 1 0 + trues zs

-- the quotient by a number above 0, rounded down
abbrev pub floor_of : ℤ → ℕ → ℤ
floor_of (pos a) n = pos (a / n)
floor_of (negsuc a) n = negsuc (a / n)

-- of the values, where no point has a fault: sums and products are exact and then tested; over no points a sum is 0, a
-- product 1, `and` true, `or` false, a count 0
abbrev pub combined : Aggregate → List ℤ → Outcome
combined Sum zs = ranged (total zs)
combined Product zs = ranged (product zs)
combined Greatest [] = Fault EmptyCondense
combined Greatest (z ∷ zs) = Value (greatest z zs)
combined Least [] = Fault EmptyCondense
combined Least (z ∷ zs) = Value (least z zs)
combined Every zs = truth (every zs)
combined Any zs = truth (any zs)
combined Count zs = Value (pos (trues zs))
combined Average [] = Fault EmptyCondense
combined Average (z ∷ zs) = Value (floor_of (total (z ∷ zs)) (length (z ∷ zs)))

abbrev pub fault_or : Option PointFault → Outcome → Outcome
fault_or (Some f) o = Fault f
fault_or None o = o

-- the first fault of the outcomes in their order, else the combination of their values
abbrev pub condensed : Aggregate → List Outcome → Outcome
condensed op outs = fault_or (first_fault outs) (combined op (values outs))

-- what a point adds to a condenser with a condition: the condition's fault; or nothing where the condition is false,
-- and the value is not demanded; or the value's outcome
abbrev pub demanded : Outcome → Outcome → List Outcome
demanded (Fault f) value = Fault f ∷ []
demanded (Value c) value = cond (truth_of c) (value ∷ []) []
