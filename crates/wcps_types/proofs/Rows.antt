-- Worked queries, computed: what `typ_query` answers, and how much work they are.
use Rattle.std.proofs.Common.{◌≡◌, ℕ, List, [], ◌∷◌, refl, true}
use Rattle.std.specs.Prelude.{ℤ, pos, negsuc, Ok, Err, codes, replicate}
use Rattle.arr_core.specs.Keywords.{is_keyword}
use Rattle.arr_core.specs.Names.{is_name}
use Rattle.arr_core.specs.declared.signature.Signature.{Signature}
use Rattle.arr_core.specs.declared.cell.FieldType.TheVariants as kinds
use Rattle.wcps_text.specs.declared.operator.UnaryOperator.TheVariants as unaries
use Rattle.wcps_text.specs.declared.operator.BinaryOperator.TheVariants as binaries
use Rattle.wcps_text.specs.declared.operator.Aggregate.TheVariants as aggregates
use Rattle.wcps_text.specs.declared.tree.ListItem.TheVariants.{Int, Truth}
use Rattle.wcps_text.specs.Tree.{Tree, number, variable, unary, binary, reduce, parts, value_list, field, brackets, coverage, condense, no_parts, part, no_subs, sub, trim, at, bounds, domain, Iters, no_iters, iter, always, ItemTree, encode, plain, BindingTree}
use Rattle.wcps_types.specs.declared.refusal.TypeRefusal.TheVariants.{NoSuchCoverage, UnknownName, NameTaken, NoSuchField, NoSuchAxis, AxisTwice, DomainMismatch, TrimOutside, NeedsScalar, NeedsBoolean, NeedsInteger, NeedsOneField, ListLength, MustEncode, BadInterval, TooMuchWork, ResultTooLarge, TooManyCombinations}
use Rattle.wcps_types.specs.Typed as typed
use Rattle.wcps_types.specs.Typed.{TypedTree}
use Rattle.wcps_types.specs.Shapes.{Answer, then_of}
use Rattle.wcps_types.specs.Work.{work_of, query_work}
use Rattle.wcps_types.specs.Queries.{typ_query}

abbrev x : List ℕ
x = codes "x"

-- coverage `lai` with the axis x from 0 to 99 and the integer field v
abbrev lai : Signature
lai = record { name = codes "lai"; domain = record { name = x; lo = pos 0; hi = pos 99 } ∷ []; fields = record { name = codes "v"; kind = kinds.I16 } ∷ [] }

abbrev bound_to : List (List ℕ) → BindingTree
bound_to names = record { variable = codes "c"; coverages = names }

-- `for c in (lai)` with an item
abbrev returned : ItemTree → Answer TypedTree
returned item = typ_query (lai ∷ []) (record { bindings = bound_to (codes "lai" ∷ []) ∷ []; condition = always; item = item })

-- `for c in (lai) return encode(e, csv)`
abbrev encoded : Tree → Answer TypedTree
encoded e = returned (encode e)

abbrev c : Tree
c = variable (codes "c")

-- `c[x(lo:hi)]`
abbrev trimmed : ℤ → ℤ → Tree
trimmed lo hi = brackets c (sub x (trim (bounds lo hi)) no_subs)

-- an iterator on the axis x from 0
abbrev over : List ℕ → ℤ → Iters
over v hi = iter v x (bounds (pos 0) hi) no_iters

-- `condense + over $i x(0:16777215) using condense + over $j x(0:hi) using 1`
abbrev nested : ℤ → Tree
nested hi = condense aggregates.Sum (over (codes "$i") (pos 16777215)) always (condense aggregates.Sum (over (codes "$j") hi) always (number 1))

-- for c in (k)
no_such_coverage : typ_query (lai ∷ []) (record { bindings = bound_to (codes "k" ∷ []) ∷ []; condition = always; item = plain (number 1) }) ≡ Err NoSuchCoverage
no_such_coverage = refl

-- for c in (lai), c in (k): the variable is refused before its coverages
variable_taken : typ_query (lai ∷ []) (record { bindings = bound_to (codes "lai" ∷ []) ∷ bound_to (codes "k" ∷ []) ∷ []; condition = always; item = plain (number 1) }) ≡ Err NameTaken
variable_taken = refl

too_many_combinations : typ_query (lai ∷ []) (record { bindings = bound_to (replicate 65 (codes "lai")) ∷ []; condition = always; item = plain (number 1) }) ≡ Err TooManyCombinations
too_many_combinations = refl

-- max(d)
unknown_name : returned (plain (reduce aggregates.Greatest (variable (codes "d")))) ≡ Err UnknownName
unknown_name = refl

-- {a: c; a: c}
part_named_twice : encoded (parts (part (codes "a") c (part (codes "a") c no_parts))) ≡ Err NameTaken
part_named_twice = refl

-- c.w
no_such_field : encoded (field c (codes "w")) ≡ Err NoSuchField
no_such_field = refl

-- c[y(0:1)]
no_such_axis : encoded (brackets c (sub (codes "y") (trim (bounds (pos 0) (pos 1))) no_subs)) ≡ Err NoSuchAxis
no_such_axis = refl

-- c[x(0:1), x(0)]
axis_twice : encoded (brackets c (sub x (trim (bounds (pos 0) (pos 1))) (sub x (at (number 0)) no_subs))) ≡ Err AxisTwice
axis_twice = refl

-- c + c[x(0:9)]
domain_mismatch : encoded (binary binaries.Add c (trimmed (pos 0) (pos 9))) ≡ Err DomainMismatch
domain_mismatch = refl

-- c[x(0:100)], c[x(0:9)][x(5:20)]
trim_outside : encoded (trimmed (pos 0) (pos 100)) ≡ Err TrimOutside
trim_outside = refl

trim_outside_a_trim : encoded (brackets (trimmed (pos 0) (pos 9)) (sub x (trim (bounds (pos 5) (pos 20))) no_subs)) ≡ Err TrimOutside
trim_outside_a_trim = refl

-- c[x(5:3)]
bad_interval : encoded (trimmed (pos 5) (pos 3)) ≡ Err BadInterval
bad_interval = refl

-- c[x(c)]
needs_scalar : encoded (brackets c (sub x (at c) no_subs)) ≡ Err NeedsScalar
needs_scalar = refl

-- not c
needs_boolean : encoded (unary unaries.Not c) ≡ Err NeedsBoolean
needs_boolean = refl

-- add(c > 0)
needs_integer : encoded (reduce aggregates.Sum (binary binaries.Greater c (number 0))) ≡ Err NeedsInteger
needs_integer = refl

-- {a: c; b: c} + 1
needs_one_field : encoded (binary binaries.Add (parts (part (codes "a") c (part (codes "b") c no_parts))) (number 1)) ≡ Err NeedsOneField
needs_one_field = refl

-- not c + {a: c; b: c}: the left operand is refused first
left_operand_first : encoded (binary binaries.Add (unary unaries.Not c) (field c (codes "w"))) ≡ Err NeedsBoolean
left_operand_first = refl

-- coverage m over $i x(0:2) value list <4; -5>
list_length : encoded (value_list (over (codes "$i") (pos 2)) (Int (pos 4) ∷ Int (negsuc 4) ∷ [])) ≡ Err ListLength
unfolding is_name is_keyword
list_length = refl

-- coverage m over $i x(0:1) value list <true; 1>
list_of_two_kinds : encoded (value_list (over (codes "$i") (pos 1)) (Truth true ∷ Int (pos 1) ∷ [])) ≡ Err NeedsBoolean
unfolding is_name is_keyword
list_of_two_kinds = refl

-- coverage m over c x(0:1) values 1
iterator_taken : encoded (coverage (over (codes "c") (pos 1)) (number 1)) ≡ Err NameTaken
iterator_taken = refl

-- c, without `encode`
must_encode : returned (plain c) ≡ Err MustEncode
must_encode = refl

-- coverage m over $i x(0:1048576) values 1
result_too_large : encoded (coverage (over (codes "$i") (pos 1048576)) (number 1)) ≡ Err ResultTooLarge
unfolding is_name is_keyword
result_too_large = refl

too_much_work : returned (plain (nested (pos 254))) ≡ Err TooMuchWork
unfolding is_name is_keyword
too_much_work = refl

abbrev work_in : TypedTree → Answer ℕ
work_in q = Ok (query_work q.combinations)

-- 2^32 - 2^24 + 1
much_work : then_of (returned (plain (nested (pos 253)))) work_in ≡ Ok 4278190081
unfolding is_name is_keyword
much_work = refl

-- add(c)
work_of_a_sum : then_of (returned (plain (reduce aggregates.Sum c))) work_in ≡ Ok 101
work_of_a_sum = refl

-- {a: c; b: c}, two fields at 100 points
work_of_two_fields : then_of (encoded (parts (part (codes "a") c (part (codes "b") c no_parts)))) work_in ≡ Ok 200
work_of_two_fields = refl

-- c[x(0)]: 1 for the bracket, 1 for the value, 1 for the position
work_of_a_position : then_of (returned (plain (brackets c (sub x (at (number 0)) no_subs)))) work_in ≡ Ok 3
work_of_a_position = refl

-- coverage m over $i x(imageCrsDomain(c[x(3:5)], x)) values c[x($i)]
work_of_an_array : then_of (encoded (coverage (iter (codes "$i") x (domain (trimmed (pos 3) (pos 5)) x) no_iters) (brackets c (sub x (at (variable (codes "$i"))) no_subs)))) work_in ≡ Ok 12
unfolding is_name is_keyword
work_of_an_array = refl

-- condense + over $i x(0:9) where .. using ..
work_of_a_condition : work_of (typed.condense_where aggregates.Sum (record { name = x; lo = pos 0; hi = pos 9 } ∷ []) (typed.number (pos 1)) (typed.number (pos 1))) ≡ 21
work_of_a_condition = refl
