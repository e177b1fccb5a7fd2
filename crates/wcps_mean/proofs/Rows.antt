-- Worked values of the definitions, computed.
use Rattle.std.proofs.Common.{◌≡◌, ℕ, zero, suc, List, [], ◌∷◌, refl, true, false}
use Rattle.std.specs.Prelude.{ℤ, pos, negsuc, Some, None, Ok, Err}
use Rattle.arr_core.specs.declared.domain.Axis.{Axis}
use Rattle.arr_core.specs.declared.cell.Cell.TheVariants as cells
use Rattle.wcps_text.specs.declared.operator.UnaryOperator.TheVariants.{Negate, Absolute}
use Rattle.wcps_text.specs.declared.operator.BinaryOperator.TheVariants.{Multiply, Divide, Add, Subtract, Less, Equal, And, Bit}
use Rattle.wcps_types.specs.Typed.{Typed, number, iterator, cell, binary, slice, bracket, array, listed, condense, condense_where, reduce, FieldTree, TypedTree}
use Rattle.wcps_text.specs.declared.operator.Aggregate.TheVariants.{Sum, Product, Greatest, Least, Every, Any, Count, Average}
use Rattle.wcps_mean.specs.declared.cell.PointFault.TheVariants.{Overflow, DivideByZero, OutOfDomain, EmptyCondense, BadBit}
use Rattle.wcps_mean.specs.declared.cell.Outcome.TheVariants.{Value, Fault}
use Rattle.wcps_mean.specs.Cells.{operate1, operate2}
use Rattle.wcps_mean.specs.Condensers.{condensed}
use Rattle.wcps_mean.specs.Meaning.{val}
use Rattle.wcps_mean.specs.Answer.{answer}

-- ---- cell operations

-- -7 / 2
quotient_toward_zero : operate2 Divide (Value (negsuc 6)) (Value (pos 2)) ≡ Value (negsuc 2)
quotient_toward_zero = refl

-- (-9223372036854775807 - 1) / -1
quotient_of_the_least : operate2 Divide (operate2 Subtract (Value (negsuc 9223372036854775806)) (Value (pos 1))) (Value (negsuc 0)) ≡ Fault Overflow
quotient_of_the_least = refl

least_difference : operate2 Subtract (Value (negsuc 9223372036854775806)) (Value (pos 1)) ≡ Value (negsuc 9223372036854775807)
least_difference = refl

negative_of_the_least : operate1 Negate (Value (negsuc 9223372036854775807)) ≡ Fault Overflow
negative_of_the_least = refl

magnitude_of_the_least : operate1 Absolute (Value (negsuc 9223372036854775807)) ≡ Fault Overflow
magnitude_of_the_least = refl

sum_past_the_greatest : operate2 Add (Value (pos 9223372036854775807)) (Value (pos 1)) ≡ Fault Overflow
sum_past_the_greatest = refl

-- bit(-1, 63), bit(1, 64), bit(2, 1), bit(1, -1)
sign_bit : operate2 Bit (Value (negsuc 0)) (Value (pos 63)) ≡ Value (pos 1)
sign_bit = refl

no_such_bit : operate2 Bit (Value (pos 1)) (Value (pos 64)) ≡ Fault BadBit
no_such_bit = refl

second_bit : operate2 Bit (Value (pos 2)) (Value (pos 1)) ≡ Value (pos 1)
second_bit = refl

negative_bit : operate2 Bit (Value (pos 1)) (Value (negsuc 0)) ≡ Fault BadBit
negative_bit = refl

-- 2 + 3 * 4 < 15 and true
sum_below_15 : operate2 And (operate2 Less (operate2 Add (Value (pos 2)) (operate2 Multiply (Value (pos 3)) (Value (pos 4)))) (Value (pos 15))) (Value (pos 1)) ≡ Value (pos 1)
sum_below_15 = refl

-- false and 1 / 0 = 1
both_sides_of_and : operate2 And (Value (pos 0)) (operate2 Equal (operate2 Divide (Value (pos 1)) (Value (pos 0))) (Value (pos 1))) ≡ Fault DivideByZero
both_sides_of_and = refl

zero_times_a_fault : operate2 Multiply (Value (pos 0)) (Fault DivideByZero) ≡ Fault DivideByZero
zero_times_a_fault = refl

left_fault_first : operate2 Add (Fault BadBit) (Fault DivideByZero) ≡ Fault BadBit
left_fault_first = refl

-- ---- condensers

sum_back_in_range : condensed Sum (Value (pos 9223372036854775807) ∷ Value (pos 1) ∷ Value (negsuc 0) ∷ []) ≡ Value (pos 9223372036854775807)
sum_back_in_range = refl

sum_out_of_range : condensed Sum (Value (pos 9223372036854775807) ∷ Value (pos 1) ∷ []) ≡ Fault Overflow
sum_out_of_range = refl

product_back_in_range : condensed Product (Value (pos 4611686018427387904) ∷ Value (pos 2) ∷ Value (negsuc 0) ∷ []) ≡ Value (negsuc 9223372036854775807)
product_back_in_range = refl

product_with_a_zero : condensed Product (Value (pos 4611686018427387904) ∷ Value (pos 4) ∷ Value (pos 0) ∷ []) ≡ Value (pos 0)
product_with_a_zero = refl

-- avg, min, count, some, all of -1 and -2
floor_of_the_average : condensed Average (Value (negsuc 0) ∷ Value (negsuc 1) ∷ []) ≡ Value (negsuc 1)
floor_of_the_average = refl

least_of_two : condensed Least (Value (negsuc 0) ∷ Value (negsuc 1) ∷ []) ≡ Value (negsuc 1)
least_of_two = refl

count_of_trues : condensed Count (Value (pos 0) ∷ Value (pos 1) ∷ []) ≡ Value (pos 1)
count_of_trues = refl

some_of_none : condensed Any (Value (pos 0) ∷ Value (pos 0) ∷ []) ≡ Value (pos 0)
some_of_none = refl

all_of_all : condensed Every (Value (pos 1) ∷ Value (pos 1) ∷ []) ≡ Value (pos 1)
all_of_all = refl

-- over no points
sum_of_nothing : condensed Sum [] ≡ Value (pos 0)
sum_of_nothing = refl

product_of_nothing : condensed Product [] ≡ Value (pos 1)
product_of_nothing = refl

all_of_nothing : condensed Every [] ≡ Value (pos 1)
all_of_nothing = refl

some_of_nothing : condensed Any [] ≡ Value (pos 0)
some_of_nothing = refl

greatest_of_nothing : condensed Greatest [] ≡ Fault EmptyCondense
greatest_of_nothing = refl

least_of_nothing : condensed Least [] ≡ Fault EmptyCondense
least_of_nothing = refl

first_fault_told : condensed Sum (Value (pos 1) ∷ Fault DivideByZero ∷ Fault Overflow ∷ []) ≡ Fault DivideByZero
first_fault_told = refl

-- ---- values at a point

abbrev line : ℤ → ℤ → List Axis
line lo hi = record { name = 120 ∷ []; lo = lo; hi = hi } ∷ []

-- coverage 0 has one field, which is 7 everywhere
abbrev sevens : ℕ → ℕ → List ℤ → ℤ
sevens c f p = pos 7

abbrev division_by_zero : Typed
division_by_zero = binary Divide (number (pos 1)) (number (pos 0))

-- c[x(0:9)][x(20)]
position_outside_its_trim : val sevens (bracket (slice (bracket (cell 0 0)) 0 (pos 0) (pos 9) (number (pos 20)))) [] [] ≡ Fault OutOfDomain
position_outside_its_trim = refl

-- condense + over $i x(0:1) where false using 1 / 0; with max for +
value_not_demanded : val sevens (condense_where Sum (line (pos 0) (pos 1)) (number (pos 0)) division_by_zero) [] [] ≡ Value (pos 0)
value_not_demanded = refl

greatest_of_no_point : val sevens (condense_where Greatest (line (pos 0) (pos 1)) (number (pos 0)) division_by_zero) [] [] ≡ Fault EmptyCondense
greatest_of_no_point = refl

-- condense * over $i x(0:2) using $i + 1
product_of_iterators : val sevens (condense Product (line (pos 0) (pos 2)) (binary Add (iterator 0) (number (pos 1)))) [] [] ≡ Value (pos 6)
product_of_iterators = refl

-- add(c) on c[x(3:5)]
sum_of_sevens : val sevens (reduce Sum (line (pos 3) (pos 5)) (bracket (cell 0 0))) [] [] ≡ Value (pos 21)
sum_of_sevens = refl

-- coverage m over $i x(0:2) value list <4;-5;6> at its second point
second_item : val sevens (listed (line (pos 0) (pos 2)) (pos 4 ∷ negsuc 4 ∷ pos 6 ∷ [])) [] (pos 1 ∷ []) ≡ Value (negsuc 4)
second_item = refl

-- ---- answers

abbrev plane : List Axis
plane = record { name = 120 ∷ []; lo = pos 0; hi = pos 1 } ∷ record { name = 121 ∷ []; lo = pos 0; hi = pos 2 } ∷ []

abbrev integer : Typed → FieldTree
integer t = record { boolean = false; tree = t }

abbrev truth : Typed → FieldTree
truth t = record { boolean = true; tree = t }

-- encode(coverage m over $i x(0:1), $j y(0:2) values $i * 10 + $j, csv)
abbrev tens : TypedTree
tens = record {
  coverages = [];
  combinations = record {
    condition = None;
    item = record { domain = plane; fields = integer (array (binary Add (binary Multiply (iterator 0) (number (pos 10))) (iterator 1))) ∷ [] };
  } ∷ [];
}

rows_of_tens :
    answer sevens tens
    ≡ Ok (record { line = 3; fields = 1; cells = cells.Int (pos 0) ∷ cells.Int (pos 1) ∷ cells.Int (pos 2) ∷ cells.Int (pos 10) ∷ cells.Int (pos 11) ∷ cells.Int (pos 12) ∷ [] } ∷ [])
rows_of_tens = refl

-- encode({a: c; b: c > 7}, csv) on x(0:1)
abbrev two_fields : TypedTree
two_fields = record {
  coverages = [];
  combinations = record {
    condition = None;
    item = record { domain = line (pos 0) (pos 1); fields = integer (cell 0 0) ∷ truth (binary Less (number (pos 7)) (cell 0 0)) ∷ [] };
  } ∷ [];
}

fields_of_a_point : answer sevens two_fields ≡ Ok (record { line = 2; fields = 2; cells = cells.Int (pos 7) ∷ cells.Bool false ∷ cells.Int (pos 7) ∷ cells.Bool false ∷ [] } ∷ [])
fields_of_a_point = refl

-- two combinations, of which the second one's condition is true
abbrev chosen_second : TypedTree
chosen_second = record {
  coverages = [];
  combinations = record { condition = Some (number (pos 0)); item = record { domain = []; fields = integer division_by_zero ∷ [] } }
      ∷ record { condition = Some (number (pos 1)); item = record { domain = []; fields = integer (number (pos 2)) ∷ [] } } ∷ [];
}

one_item : answer sevens chosen_second ≡ Ok (record { line = 1; fields = 1; cells = cells.Int (pos 2) ∷ [] } ∷ [])
one_item = refl

-- (c.n + 1) / c.m on two points: the first has the divisor 0, the second a sum past the greatest integer
abbrev uneven : ℕ → List ℤ → ℤ
uneven zero (pos (suc n) ∷ p) = pos 9223372036854775807
uneven (suc f) (pos zero ∷ p) = pos 0
uneven f p = pos 1

abbrev quotients : TypedTree
quotients = record {
  coverages = [];
  combinations = record { condition = None; item = record { domain = line (pos 0) (pos 1); fields = integer (binary Divide (binary Add (cell 0 0) (number (pos 1))) (cell 0 1)) ∷ [] } } ∷ [];
}

fault_of_the_first_point : answer (λ c. uneven) quotients ≡ Err DivideByZero
fault_of_the_first_point = refl
